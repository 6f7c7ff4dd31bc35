-- The verdicts so far and those of the entries that are left are those of all entries.
use Rattle.std.proofs.Common.{◌≡◌, ◌+◌, ◌*◌, ◌≤◌, ◌++◌, length, drop}
use Rattle.turn_ledger.specs.ScratchState.{scratch_state, room_of}
use Rattle.turn_ledger.specs.Screen.{screened}
use Rattle.turn_ledger.proofs.ledger.Ledger.screen.Given as goal

abbrev pub invariant-loop-entry : goal.invariant-loop-entry
invariant-loop-entry l = record {
  verdicts : l.verdicts ++ screened (scratch_state l.scratch) (drop l.entry-index l.entries)
      ≡ screened l.fn.self l.entries;
  count : length l.verdicts ≡ l.entry-index;
  room : 2 * length l.entries ≤ room_of l.scratch + 2 * l.entry-index;
}
