use Rattle.std.proofs.Common.{rules, ◌∙◌, ap, sym, subst, take, get_or}
use Rattle.std.proofs.lemmas.List.{take_all, take-map}
use Rattle.four_state.specs.Configuration.{Configuration}
use Rattle.four_state.specs.Privilege.{IsPrivilege}
use Rattle.four_state.specs.declared.rules.Rule.TheVariants.{Bottom}
use Rattle.sweep_auditor.specs.declared.moves.Move.{Move}
use Rattle.sweep_auditor.specs.Run.{next, after, IsRun}
use Rattle.sweep_auditor.specs.RunLaws.{IsRun-take, configuration_at-more}
use Rattle.turn_clerk.specs.History.{moves_of, move_of}
use Rattle.line_lock.proofs.Runs.{privileged}
use Rattle.line_lock.proofs.closing.line_at.Goals as goal

pub make_move-requires : goal.make_move-requires
make_move-requires g c =
    let clerk = c.args.clerk.now in
    let moves = take c.args.turns c.moves.result.now in
    let first : Move = record { station = 0; rule = Bottom } in
    let run : IsRun clerk.opening.line moves =
    subst (λ ms. IsRun clerk.opening.line (take c.args.turns ms)) (sym c.moves.ensures.value)
    (IsRun-take c.args.turns (moves_of clerk.history) clerk.opening.line c.moves.ensures.run) in
    subst (λ (line : Configuration).
    IsPrivilege line (get_or moves c.loop-step.step-index first).station
    (get_or moves c.loop-step.step-index first).rule) (sym c.loop-step.invariant)
    (privileged moves clerk.opening.line c.loop-step.step-index first run (search rules))

pub loop-step-preserved : goal.loop-step-preserved
loop-step-preserved g c =
    let clerk = c.args.clerk.now in
    let moves = take c.args.turns c.moves.result.now in
    let first : Move = record { station = 0; rule = Bottom } in
    c.make_move.ensures.moved
    ∙ ap (λ (line : Configuration). next line (get_or moves c.loop-step.step-index first))
    c.loop-step.invariant
    ∙ sym (configuration_at-more clerk.opening.line moves c.loop-step.step-index first
    (search rules))

pub returns : goal.returns
returns g c =
    let clerk = c.args.clerk.now in
    let moves = take c.args.turns c.moves.result.now in
    c.loop-step.invariant
    ∙ ap (after clerk.opening.line)
    (take_all c.loop-step.step-index moves (search rules)
    ∙ ap (take c.args.turns) c.moves.ensures.value
    ∙ take-map move_of c.args.turns clerk.history)
