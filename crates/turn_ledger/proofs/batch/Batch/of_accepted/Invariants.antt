-- The accepted entries so far and those among the entries that are left are the accepted ones of
-- all.
use Rattle.std.proofs.Common.{◌≡◌, ◌≤◌, ◌++◌, length, drop}
use Rattle.turn_ledger.specs.Screen.{with_yes}
use Rattle.turn_ledger.proofs.batch.Batch.of_accepted.Given as goal

abbrev pub invariant-loop-place : goal.invariant-loop-place
invariant-loop-place l = record {
  told : l.batch ++ with_yes (drop l.place l.entries) (drop l.place l.verdicts)
      ≡ with_yes l.entries l.verdicts;
  count : length l.batch ≤ l.place;
}
