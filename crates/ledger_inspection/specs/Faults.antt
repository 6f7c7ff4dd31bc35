-- What a fault of an inspection says of the ledger that was looked at.
use Rattle.std.specs.Prelude.{◌≡◌, Bool, true, false}
use Rattle.journal_recovery.specs.declared.refusals.OpenRefusal.{OpenRefusal}
use Rattle.journal_recovery.specs.declared.refusals.OpenRefusal.TheVariants as opening
use Rattle.text_streams.specs.declared.faults.StreamFault.{StreamFault}
use Rattle.text_streams.specs.declared.faults.StreamFault.TheVariants as stream
use Rattle.ledger_folder.specs.declared.faults.ArchiveFault.TheVariants as archive
use Rattle.ledger_folder.specs.declared.faults.Part.{Part}
use Rattle.ledger_inspection.specs.declared.faults.InspectionFault.{InspectionFault}
use Rattle.ledger_inspection.specs.declared.faults.InspectionFault.TheVariants as fault

-- where memory or the device fails nothing is known of the ledger, and every other refusal says
-- that there is none
abbrev pub denies_ledger : OpenRefusal → Bool
denies_ledger opening.Memory = false
denies_ledger opening.Device = false
denies_ledger _ = true

-- a rule refuses a folder without an archive, a ledger that isn't sound, and what isn't one book,
-- or isn't in it
abbrev pub is_refusal : InspectionFault → Bool
is_refusal (fault.Archive (archive.Empty folder)) = true
is_refusal (fault.Unsound part wrong) = denies_ledger wrong.refusal
is_refusal (fault.Archive (archive.Foreign volume)) = true
is_refusal (fault.Gap part first before end) = true
is_refusal (fault.Short part next before end) = true
is_refusal (fault.Differs part before end) = true
is_refusal (fault.OutOfReach part at first next) = true
is_refusal _ = false

-- the output isn't written, since its reader went away
abbrev pub is_of_reader : Bool → InspectionFault → Bool
is_of_reader closed (fault.Output stream.Write) = closed
is_of_reader closed _ = false

-- out of memory stays out of memory
abbrev pub of_stream : StreamFault → InspectionFault
of_stream stream.Memory = fault.Memory
of_stream inner = fault.Output inner

-- it is a fault of that ledger alone, or of none, and not of several as one book
abbrev pub IsOfOne : Part → InspectionFault → Type 0
IsOfOne part fault.Memory = Unit {0}
IsOfOne part (fault.Unread named inner) = named ≡ part
IsOfOne part (fault.Unsound named wrong) = named ≡ part
IsOfOne part (fault.Lost named) = named ≡ part
IsOfOne part (fault.Changed named) = named ≡ part
IsOfOne part (fault.Undrawn named wrong inner) = named ≡ part
IsOfOne part (fault.Unseen named wrong) = named ≡ part
IsOfOne part (fault.Output inner) = Unit {0}
IsOfOne part _ = ⊥

-- a fault of one ledger alone stays one of that ledger
abbrev pub KeepsPart : InspectionFault → InspectionFault → Type 0
KeepsPart before after = (part : Part) → IsOfOne part before → IsOfOne part after
