use Rattle.journal_recovery.proofs.OneOldRecovery.{one_old_state, not_old_unrecoverable}
use Rattle.journal_recovery.proofs.OneOldRecovery.{one_old_recovery_refusal}
use Rattle.journal_recovery.proofs.laws.one_old_recovery.Goals as goal

pub returns-clause-state : goal.returns-clause-state
returns-clause-state c =
    one_old_state c.one_old_reading.ensures.contents c.one_old_reading.ensures.refused
    c.one_old_reading.ensures.refusals

pub returns-clause-refused : goal.returns-clause-refused
returns-clause-refused c =
    not_old_unrecoverable c.one_old_reading.ensures.contents c.one_old_reading.ensures.refused
    c.one_old_reading.ensures.refusals

pub returns-clause-refusals : goal.returns-clause-refusals
returns-clause-refusals c =
    one_old_recovery_refusal c.one_old_reading.ensures.contents c.one_old_reading.ensures.refused
    c.one_old_reading.ensures.refusals
