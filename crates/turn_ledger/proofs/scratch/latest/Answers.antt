-- A change at the account's place is the latest there, and any other leaves it.
use Rattle.std.proofs.Common.{◌∙◌, ◌<◌, ◌-◌, length, arith}
use Rattle.turn_ledger.proofs.Changes.{changed_more_same, changed_more_other}
use Rattle.turn_ledger.proofs.scratch.latest.Goals as goal
use Rattle.turn_ledger.proofs.scratch.latest.Goals.{then-change-place, else-change-place}

pub loop-change-preserved : goal.loop-change-preserved
loop-change-preserved c =
    let balances = c.args.ledger.now.balances in
    let place = c.args.account - 1 in
    let within : place < length balances =
    omega (arith, c.requires.account.0, c.requires.account.1, c.requires.balances) in
    elim c.if-change-place.branch [
      | then-change-place w ↦
          w.balance-is ∙ changed_more_same balances c.args.changes.now c.loop-change.change-index
          place _ c.loop-change-test.true within w.if-change-place.true
      | else-change-place w ↦
          w.balance-is ∙ c.loop-change.invariant
          ∙ changed_more_other balances c.args.changes.now c.loop-change.change-index place _
          c.loop-change-test.true w.if-change-place.false
    ]
