use Rattle.std.specs.Prelude.{◌≡◌, take}
use Rattle.turn_ledger.specs.State.{balance_of}
use Rattle.turn_ledger.specs.Screen.{posted_in_order}
use Rattle.turn_ledger.specs.Ledger.{entries_of}
use Rattle.turn_clerk.specs.History.{batches_of}
use Rattle.line_lock.proofs.told.held_after.Given as goal

-- what the account held after the turns so far
abbrev pub invariant-loop-turn : goal.invariant-loop-turn
invariant-loop-turn g l =
    l.balance ≡ balance_of
    (posted_in_order l.clerk.opening.ledger
    (entries_of (batches_of (take l.turn-index l.turn-items)))) l.account
