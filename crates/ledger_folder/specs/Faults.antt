-- How a fault of an archive is told, and what its numbers say.
use Rattle.std.specs.Prelude.{◌≡◌, ◌<◌, ℕ, List}
use Rattle.std.specs.Borrow.{Bor}
use Rattle.gate_journal.specs.declared.refusals.ReadRefusal.TheVariants as read
use Rattle.journal_recovery.specs.declared.refusals.OpenRefusal.TheVariants as opening
use Rattle.device_files.specs.declared.refusal.FileFault.{FileFault}
use Rattle.device_files.specs.declared.refusal.FileFault.TheVariants as file
use Rattle.ledger_folder.specs.declared.faults.Part.{Part}
use Rattle.ledger_folder.specs.declared.faults.Part.TheVariants as part
use Rattle.ledger_folder.specs.declared.faults.ArchiveFault.{ArchiveFault}
use Rattle.ledger_folder.specs.declared.faults.ArchiveFault.TheVariants as fault

-- out of memory stays out of memory, whether a ledger can't be looked at, or the one that is to be
-- added can't be made
abbrev pub of_file : Part → FileFault → ArchiveFault
of_file ledger file.Memory = fault.Memory
of_file ledger inner = fault.Unread ledger inner

abbrev pub of_device : Bor (List ℕ) → FileFault → ArchiveFault
of_device folder file.Memory = fault.Memory
of_device folder inner = fault.Unmade folder inner

-- a read of the ledger failed, and not one of the archive
abbrev pub IsReadFault : ArchiveFault → Type 0
IsReadFault (fault.NoLedger (part.File path) refusal) = refusal ≡ opening.Device
IsReadFault (fault.Lost (part.File path) refusal) = refusal ≡ read.Device
IsReadFault _ = ⊥

-- the numbers that a fault tells show it: the earliest batch comes behind the end of what is before
-- it, or the next one before the archive's end
abbrev pub TellsNumbers : ArchiveFault → Type 0
TellsNumbers (fault.Missing volume first before end) = end < first
TellsNumbers (fault.Gap path first end) = end < first
TellsNumbers (fault.Short path next end) = next < end
TellsNumbers _ = Unit {0}

-- it is no fault of reading the ledger, and tells its numbers rightly
abbrev pub IsElsewhere : ArchiveFault → Type 0
IsElsewhere fault = (IsReadFault fault → ⊥) × TellsNumbers fault
