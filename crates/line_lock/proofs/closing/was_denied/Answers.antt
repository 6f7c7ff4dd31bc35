use Rattle.std.proofs.Common.{◌≡◌, ◌∙◌, ap, sym, take, arith}
use Rattle.four_state.specs.Configuration.{stations}
use Rattle.sweep_auditor.specs.RunLaws.{stations-after}
use Rattle.turn_clerk.specs.History.{moves_of}
use Rattle.line_lock.proofs.closing.was_denied.Goals as goal

pub privilege-requires : goal.privilege-requires
privilege-requires g c =
    let clerk = c.args.clerk.now in
    let same : stations c.line_at.result ≡ stations clerk.line =
    ap stations c.line_at.ensures
    ∙ stations-after (moves_of (take c.args.turns clerk.history)) clerk.opening.line
    ∙ sym (ap stations c.history.ensures.legal.line
    ∙ stations-after (moves_of clerk.history) clerk.opening.line) in
    omega (arith, same, c.requires)
