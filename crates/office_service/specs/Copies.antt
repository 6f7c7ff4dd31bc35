-- What a counter is told of a copy that wasn't made.
use Rattle.ledger_folder.specs.declared.faults.ArchiveFault.{ArchiveFault}
use Rattle.ledger_folder.specs.declared.faults.ArchiveFault.TheVariants as fault
use Rattle.office_sessions.specs.declared.recess.CounterCopyRefusal.{CounterCopyRefusal}
use Rattle.office_sessions.specs.declared.recess.CounterCopyRefusal.TheVariants.{Memory, Device}
use Rattle.office_sessions.specs.declared.recess.CounterCopyRefusal.TheVariants.{Occupied}
use Rattle.office_sessions.specs.declared.recess.CounterCopyRefusal.TheVariants.{Unwritten}

-- that there is no memory, that the ledger isn't read, that something is there already, and that
-- the file isn't written
abbrev pub told_as : ArchiveFault → CounterCopyRefusal
told_as fault.Memory = Memory
told_as (fault.NoLedger part refusal) = Device
told_as (fault.Occupied volume) = Occupied
told_as _ = Unwritten
