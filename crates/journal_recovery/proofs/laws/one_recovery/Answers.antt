use Rattle.journal_recovery.proofs.OneRecovery.{one_state, not_unrecoverable}
use Rattle.journal_recovery.proofs.OneRefusal.{one_refusal}
use Rattle.journal_recovery.proofs.laws.one_recovery.Goals as goal

pub returns-clause-state : goal.returns-clause-state
returns-clause-state c = one_state c.one_reading.ensures.contents c.one_reading.ensures.refused

pub returns-clause-refused : goal.returns-clause-refused
returns-clause-refused c =
    not_unrecoverable c.one_reading.ensures.contents c.one_reading.ensures.refused

pub returns-clause-refusals : goal.returns-clause-refusals
returns-clause-refusals c =
    one_refusal c.one_reading.ensures.contents c.one_reading.ensures.refused
    c.one_reading.ensures.refusals
