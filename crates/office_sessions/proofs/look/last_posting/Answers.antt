use Rattle.std.proofs.Common.{◌∙◌}
use Rattle.sector_device.specs.Crash.{looks_joined}
use Rattle.gate_journal.specs.Journal.{after_reads}
use Rattle.office_sessions.proofs.look.last_posting.Goals as goal

pub returns-in-Some-clause-kept : goal.returns-in-Some-clause-kept
returns-in-Some-clause-kept g c =
    c.step.ensures.kept ∙ (λ i. after_reads (c.loop.invariant.kept i) c.step.new.journal.device)

pub returns-in-Some-clause-looks : goal.returns-in-Some-clause-looks
returns-in-Some-clause-looks g c =
    λ honest. looks_joined _ _ _ (c.loop.invariant.looks honest)
    (c.step.ensures.looks (c.loop.invariant.honest honest))
