-- By which status a fault ends `derbyfig`: a rule refuses something, or something failed.
use Rattle.std.specs.Prelude.{if◌then◌else◌}
use Rattle.line_lock.specs.declared.lent.OfficeRefusal.TheVariants as lent
use Rattle.office_sessions.specs.declared.open_office.LiveRefusal.TheVariants as live
use Rattle.ledger_folder.specs.declared.faults.ArchiveFault.{ArchiveFault}
use Rattle.ledger_folder.specs.declared.faults.ArchiveFault.TheVariants as archive
use Rattle.ledger_counters.specs.Faults as counters
use Rattle.ledger_counters.specs.declared.refusal.CountersFault.{CountersFault}
use Rattle.office_service.specs.declared.faults.OfficeFault.{OfficeFault}
use Rattle.office_service.specs.declared.faults.OfficeFault.TheVariants as office
use Rattle.office_service.specs.declared.counter_fault.CounterFault.{CounterFault}
use Rattle.office_service.specs.declared.counter_fault.CounterRefusal.{CounterRefusal}
use Rattle.office_service.specs.declared.counter_fault.CounterRefusal.TheVariants as counter
use Rattle.ledger_inspection.specs.Faults as inspection
use Rattle.ledger_inspection.specs.declared.faults.InspectionFault.{InspectionFault}
use Rattle.front_program.specs.Status.{of_ledger, of_opening, of_script, of_turn}
use Rattle.front_program.specs.declared.status.Status.{Status}
use Rattle.front_program.specs.declared.status.Status.TheVariants.{Refused, Failed}
use Rattle.front_program.specs.declared.faults.Fault.{Fault}
use Rattle.front_program.specs.declared.faults.Fault.TheVariants as fault

-- a ledger that isn't one, or isn't the archive's, a folder without an archive or that isn't for
-- copies, a file that is missing in it, or a ledger that doesn't go on where the archive ends, is a
-- rule's matter; else something failed
abbrev pub of_archive : ArchiveFault → Status
of_archive (archive.NoLedger path refusal) = of_opening refusal
of_archive (archive.Foreign volume) = Refused
of_archive (archive.FolderOfArchive folder) = Refused
of_archive (archive.Empty folder) = Refused
of_archive (archive.Missing volume first before end) = Refused
of_archive (archive.Gap path first end) = Refused
of_archive (archive.Short path next end) = Refused
of_archive (archive.Other path batch) = Refused
of_archive (archive.Differs path end) = Refused
of_archive _ = Failed

-- a rule refuses it, unless something failed
abbrev pub of_counters : CountersFault → Status
of_counters fault = if counters.is_refusal fault.cause then Refused else Failed

abbrev pub of_inspection : InspectionFault → Status
of_inspection fault = if inspection.is_refusal fault then Refused else Failed

-- that of what refused it, and else something failed
abbrev pub of_office : OfficeFault → Status
of_office (office.File path refusal) = of_ledger refusal
of_office (office.NoLedger path refusal) = of_opening refusal
of_office (office.Office (live.Office (lent.Opening refusal))) = of_opening refusal
of_office (office.Refused refusal) = of_turn refusal
of_office (office.Archive inner) = of_archive inner
of_office (office.Counters inner) = of_counters inner
of_office _ = Failed

-- that no office is open, or that a client speaks there, is a rule's matter, and else something
-- failed
abbrev of_counter : CounterRefusal → Status
of_counter counter.NotOpen = Refused
of_counter counter.HasClient = Refused
of_counter _ = Failed

abbrev pub of_control : CounterFault → Status
of_control fault = of_counter fault.refusal

-- that of what refused it
abbrev pub status_of : Fault → Status
status_of (fault.Script inner) = of_script inner
status_of (fault.Ledger path refusal) = of_ledger refusal
status_of (fault.NoLedger path refusal) = of_opening refusal
status_of (fault.Office inner) = of_office inner
status_of (fault.Control inner) = of_control inner
status_of (fault.Archive inner) = of_archive inner
status_of (fault.Counters inner) = of_counters inner
status_of (fault.Inspection inner) = of_inspection inner
