use Rattle.std.specs.Prelude.{◌≡◌, false}
use Rattle.sector_device.specs.Crash.{LooksOnly}
use Rattle.gate_journal.specs.Journal.{after_reads}
use Rattle.journal_recovery.specs.LookBack.{FitsSlots}
use Rattle.office_sessions.specs.Looked.{IsAbove}
use Rattle.office_sessions.proofs.look.last_posting.Given as goal

-- the journal works, was read alone, and what was found is above 0
abbrev pub invariant-loop : goal.invariant-loop
invariant-loop g l = record {
  kept : l.journal ≡ after_reads l.initial.journal l.journal.device;
  works : l.journal.faulted ≡ false;
  fits : FitsSlots l.journal.slots l.journal.live l.back;
  honest : (g.D.Device.state l.initial.journal.device).honest
      → (g.D.Device.state l.journal.device).honest;
  looks : LooksOnly (g.D.Device.state l.initial.journal.device) (g.D.Device.state l.journal.device);
  above : IsAbove l.look.posting;
}
