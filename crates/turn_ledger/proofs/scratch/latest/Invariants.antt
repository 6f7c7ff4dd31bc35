-- What the account holds after the changes that were looked at.
use Rattle.std.proofs.Common.{◌≡◌, ◌-◌, take}
use Rattle.std.specs.Prelude.{slice_index}
use Rattle.turn_ledger.specs.Scratch.{changed}
use Rattle.turn_ledger.proofs.scratch.latest.Given as goal

abbrev pub invariant-loop-change : goal.invariant-loop-change
invariant-loop-change l =
    l.balance ≡ slice_index (changed l.ledger.balances (take l.change-index l.changes))
    (l.account - 1)
