-- By which status a program ends, for what it was refused by: by one of a rule, or by one of a
-- failure.
use Rattle.std.specs.Prelude.{ℕ}
use Rattle.gate_journal.specs.declared.refusals.FormatRefusal.{FormatRefusal}
use Rattle.gate_journal.specs.declared.refusals.FormatRefusal.TheVariants as format
use Rattle.journal_recovery.specs.declared.refusals.OpenRefusal.{OpenRefusal}
use Rattle.journal_recovery.specs.declared.refusals.OpenRefusal.TheVariants as opening
use Rattle.journal_recovery.specs.declared.migration.MigrateRefusal.{MigrateRefusal}
use Rattle.journal_recovery.specs.declared.migration.MigrateRefusal.TheVariants as migration
use Rattle.turn_clerk.specs.declared.refusals.TurnRefusal.{TurnRefusal}
use Rattle.turn_clerk.specs.declared.refusals.TurnRefusal.TheVariants as turn
use Rattle.device_files.specs.declared.refusal.FileFault.{FileFault}
use Rattle.device_files.specs.declared.refusal.FileFault.TheVariants as file
use Rattle.ledger_file.specs.declared.refusal.LedgerRefusal.{LedgerRefusal}
use Rattle.ledger_file.specs.declared.refusal.LedgerRefusal.TheVariants as ledger
use Rattle.front_scripts.specs.declared.faults.ScriptFault.{ScriptFault}
use Rattle.front_scripts.specs.declared.faults.ScriptFault.TheVariants as script
use Rattle.front_program.specs.declared.status.Status.{Status}
use Rattle.front_program.specs.declared.status.Status.TheVariants.{Done, Refused, WrongWords}
use Rattle.front_program.specs.declared.status.Status.TheVariants.{Failed}

-- the status as a number, of `derbyfig`
abbrev pub code_of : Status → ℕ
code_of Done = 0
code_of Refused = 1
code_of WrongWords = 2
code_of Failed = 3

-- and of `turn_console`, which doesn't tell a rule from a failure
abbrev pub console_code_of : Status → ℕ
console_code_of Done = 0
console_code_of WrongWords = 2
console_code_of _ = 1

-- where memory or the device fails nothing is known of the ledger, and every other refusal says
-- that there is none
abbrev pub of_opening : OpenRefusal → Status
of_opening opening.Memory = Failed
of_opening opening.Device = Failed
of_opening _ = Refused

-- a device that fails is no matter of rules
abbrev pub of_format : FormatRefusal → Status
of_format format.Device = Failed
of_format _ = Refused

-- the older ledger's refusal is that of its opening
abbrev pub of_migration : MigrateRefusal → Status
of_migration (migration.Source refusal) = of_opening refusal
of_migration migration.Target = Failed
of_migration _ = Refused

abbrev pub of_turn : TurnRefusal → Status
of_turn turn.Memory = Failed
of_turn turn.Device = Failed
of_turn turn.Faulted = Failed
of_turn _ = Refused

-- a file or a disk that can't be had fails, a disk that isn't taken is refused
abbrev pub of_file : FileFault → Status
of_file file.DiskTooSmall = Refused
of_file file.DiskHasNoLedger = Refused
of_file file.NoDisk = Refused
of_file _ = Failed

-- a path where nothing is fails, and what is there and isn't taken is refused
abbrev pub of_ledger : LedgerRefusal → Status
of_ledger (ledger.Device fault) = of_file fault
of_ledger (ledger.Format refusal) = of_format refusal
of_ledger ledger.Missing = Failed
of_ledger _ = Refused

-- a line that is none of the grammar, and a script over its limit, are refused by a rule
abbrev pub of_script : ScriptFault → Status
of_script (script.Line line cause) = Refused
of_script script.TooLong = Refused
of_script _ = Failed
