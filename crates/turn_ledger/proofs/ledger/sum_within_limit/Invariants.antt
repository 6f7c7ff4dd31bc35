-- The total so far is that of the balances so far, and within the limit.
use Rattle.std.proofs.Common.{◌≡◌, ◌≤◌, sum, take}
use Rattle.turn_ledger.specs.declared.limits.TheConstants.{TOTAL_LIMIT}
use Rattle.turn_ledger.proofs.ledger.sum_within_limit.Given as goal

abbrev pub invariant-loop-balance : goal.invariant-loop-balance
invariant-loop-balance l = record {
  so_far : l.total ≡ sum (take l.balance-index l.balances);
  within : l.total ≤ TOTAL_LIMIT;
}
