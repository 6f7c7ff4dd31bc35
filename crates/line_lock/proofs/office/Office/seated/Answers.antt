use Rattle.std.proofs.Common.{rules, ◌∷◌, ◌++◌, [], ap, sym, ◌∙◌, arith, List}
use Rattle.std.proofs.lemmas.List.FromFn.{map-range_with_len_more}
use Rattle.line_lock.specs.Seat.{SeatState, new_seat}
use Rattle.line_lock.proofs.office.Office.seated.Goals as goal

pub loop-station-preserved : goal.loop-station-preserved
loop-station-preserved g c = (
  omega (arith, c.loop-station.invariant.0, c.split_off.ensures.parts_left),
  search rules,
  c.push_reserved.ensures.items
      ∙ ap (λ (seat : SeatState). c.loop-station.seats.items ++ seat ∷ []) c.new.ensures
      ∙ ap (λ (seats : List SeatState). seats ++ new_seat c.loop-station.station ∷ [])
      c.loop-station.invariant.2
      ∙ sym (map-range_with_len_more new_seat 0 c.loop-station.station c.loop-station.station
      (omega arith)),
  search rules,
  search rules,
)
