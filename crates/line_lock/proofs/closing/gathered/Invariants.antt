use Rattle.std.specs.Prelude.{◌≡◌, ◌+◌, sum_by, length}
use Rattle.line_lock.specs.Seat.{SeatState}
use Rattle.line_lock.proofs.closing.gathered.Given as goal

-- a part for each seat so far, and their turns with those in which the device failed
abbrev pub invariant-loop-seat : goal.invariant-loop-seat
invariant-loop-seat g l =
    (l.all.parts ≡ length l.yielded)
    × (l.all.amount ≡ sum_by (λ (seat : SeatState). length seat.turns + seat.failed) l.yielded)
