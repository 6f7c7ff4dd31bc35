-- What an inspection says of the image that it looked at.
use Rattle.sector_device.specs.Image.{Image}
use Rattle.turn_ledger.specs.State.{LedgerState}
use Rattle.journal_recovery.specs.declared.refusals.OpenRefusal.{OpenRefusal}
use Rattle.ledger_reading.specs.declared.any_journal.AnyJournal.{AnyJournal}
use Rattle.ledger_reading.specs.Whole.{RecoversAs, LookRefuses}

-- the image recovers to a ledger, by one of the layouts
abbrev pub IsSound : Type 0 → Image → Type 0
IsSound D image =
    (journal : AnyJournal D) × (ledger : LedgerState) × RecoversAs journal ledger image

-- the image is refused as no ledger
abbrev pub IsRefused : Image → Type 0
IsRefused image = (refusal : OpenRefusal) × LookRefuses image refusal
