-- Whether the account has a mark once those that were looked at are set.
use Rattle.std.proofs.Common.{◌≡◌, ◌-◌, false, take}
use Rattle.std.specs.Prelude.{slice_index_or}
use Rattle.turn_ledger.specs.Scratch.{marked}
use Rattle.turn_ledger.proofs.scratch.has_mark.Given as goal

abbrev pub invariant-loop-place : goal.invariant-loop-place
invariant-loop-place l =
    l.is_marked ≡ slice_index_or (marked l.ledger.sealed (take l.place-index l.places))
    (l.account - 1) false
