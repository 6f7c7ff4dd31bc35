-- How a fault of a file is told of a ledger.
use Rattle.std.specs.Prelude.{◌≡◌, ◌≢◌, ◌⊎◌}
use Rattle.device_files.specs.declared.refusal.FileFault.{FileFault}
use Rattle.device_files.specs.declared.refusal.FileFault.TheVariants as fault
use Rattle.gate_journal.specs.declared.refusals.FormatRefusal.{FormatRefusal}
use Rattle.ledger_file.specs.declared.refusal.LedgerRefusal.{LedgerRefusal}
use Rattle.ledger_file.specs.declared.refusal.LedgerRefusal.TheVariants.{Device, Missing, Format}

-- a missing file is reported as one that could be made, and all else as it is
abbrev pub IsToldAs : FileFault → LedgerRefusal → Type 0
IsToldAs inner told =
    ((inner ≡ fault.Missing) × (told ≡ Missing)) ⊎ ((inner ≢ fault.Missing) × (told ≡ Device inner))

-- a ledger wasn't made
abbrev pub IsOfFormatting : LedgerRefusal → Type 0
IsOfFormatting told = (refusal : FormatRefusal) × (told ≡ Format refusal)
