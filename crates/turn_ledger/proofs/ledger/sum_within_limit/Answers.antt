-- The rest of the sum, where one balance more is over the limit.
use Rattle.std.proofs.Common.{arith}
use Rattle.std.proofs.lemmas.List.Sums.{sum_by_more_le}
use Rattle.turn_ledger.proofs.ledger.sum_within_limit.Goals as goal

pub returns-then-balance-total : goal.returns-then-balance-total
returns-then-balance-total c within =
    omega (
      arith,
      within,
      c.if-balance-total.true,
      c.loop-balance.invariant.so_far,
      c.loop-balance.invariant.within,
      sum_by_more_le (λ n. n) c.args.balances.now
          c.loop-balance.balance-index 0 c.loop-balance-test.true,
    )
