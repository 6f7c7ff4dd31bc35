use Rattle.std.specs.Prelude.{◌≡◌, ◌+◌, ◌≤◌, map, vec_len, vec_capacity}
use Rattle.std.specs.List.{range_with_len}
use Rattle.four_state.specs.Configuration.{stations}
use Rattle.line_lock.specs.Seat.{new_seat}
use Rattle.line_lock.proofs.office.Office.seated.Given as goal

-- the seats so far, and the parts that are left for the others
abbrev pub invariant-loop-station : goal.invariant-loop-station
invariant-loop-station g l =
    (l.rest.parts + l.station ≡ stations l.fn.clerk.line)
    × (l.rest.amount ≡ 0)
    × (l.seats.items ≡ map new_seat (range_with_len 0 l.station))
    × (vec_len l.seats ≡ l.station)
    × (stations l.fn.clerk.line ≤ vec_capacity l.seats)
