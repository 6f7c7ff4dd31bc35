use Rattle.std.proofs.Common.{◌∙◌, sym, ap}
use Rattle.four_state.specs.Configuration.{stations}
use Rattle.sweep_auditor.specs.RunLaws.{stations-after}
use Rattle.turn_clerk.specs.History.{moves_of}
use Rattle.line_lock.proofs.office.Office.into_clerk.Goals as goal

pub returns-clause-stations : goal.returns-clause-stations
returns-clause-stations g c =
    let clerk = c.locked.inside.clerk in
    sym (ap stations c.legal_history.ensures.legal.line
    ∙ stations-after (moves_of clerk.history) clerk.opening.line) ∙ c.locked.invariant.for_each
