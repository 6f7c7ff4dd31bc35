-- A mark at the account's place is its own, and any other leaves it.
use Rattle.std.proofs.Common.{◌∙◌, ◌<◌, ◌-◌, length, arith}
use Rattle.turn_ledger.proofs.Changes.{marked_more_same, marked_more_other}
use Rattle.turn_ledger.proofs.scratch.has_mark.Goals as goal
use Rattle.turn_ledger.proofs.scratch.has_mark.Goals.{then-place-own, else-place-own}

pub loop-place-preserved : goal.loop-place-preserved
loop-place-preserved c =
    let sealed = c.args.ledger.now.sealed in
    let own = c.args.account - 1 in
    let within : own < length sealed =
    omega (arith, c.requires.account.0, c.requires.account.1, c.requires.marks) in
    elim c.if-place-own.branch [
      | then-place-own w ↦
          w.is_marked-is ∙ marked_more_same sealed c.args.places.now c.loop-place.place-index own _
          c.loop-place-test.true within w.if-place-own.true
      | else-place-own w ↦
          w.is_marked-is ∙ c.loop-place.invariant
          ∙ marked_more_other sealed c.args.places.now c.loop-place.place-index own _
          c.loop-place-test.true w.if-place-own.false
    ]
