use Rattle.std.proofs.Common.{List, subst}
use Rattle.four_state.specs.Configuration.{Configuration}
use Rattle.sweep_auditor.specs.declared.moves.Move.{Move}
use Rattle.sweep_auditor.specs.Audited.{IsAuditOf}
use Rattle.turn_clerk.specs.History.{moves_of}
use Rattle.line_lock.proofs.closing.audited.Goals as goal

pub returns : goal.returns
returns g c =
    let said = c.in-Ok.ensures in
    let told : IsAuditOf c.opening.result c.moves.result.now c.in-Ok.audit = record {
      last = said.last;
      first = said.first;
      stabilizes = said.stabilizes;
      stabilizes_from_any = said.stabilizes_from_any;
      stabilizes_in_cube = said.stabilizes_in_cube;
      stays_legitimate = said.stays_legitimate;
      sweeps = said.sweeps;
      comes_round = said.comes_round;
    } in
    subst (λ (start : Configuration).
    IsAuditOf start (moves_of c.args.clerk.now.history) c.in-Ok.audit) c.opening.ensures
    (subst (λ (moves : List Move). IsAuditOf c.opening.result moves c.in-Ok.audit)
    c.moves.ensures.value told)
