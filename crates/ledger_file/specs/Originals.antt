-- What is to be copied of a ledger.
use Rattle.journal_recovery.specs.State.{State}
use Rattle.ledger_file.specs.declared.copying.Original.{Original}

-- the state that a copy is to recover to
abbrev pub held_by : Original → State
held_by original = record { ledger = original.ledger; next = original.next }
