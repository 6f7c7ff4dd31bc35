-- What is seated and what is left are what there was.
use Rattle.std.proofs.Common.{◌≡◌, ◌++◌, length, map}
use Rattle.office_day.proofs.seated.seated.Given as goal

abbrev pub invariant-loop-seat : goal.invariant-loop-seat
invariant-loop-seat g l = record {
  seats : map (λ station. station.seat) l.stations.items ++ l.seat-iterator.a.rest.items
      ≡ l.fn.seats.items;
  desks : map (λ station. station.desk) l.stations.items ++ l.seat-iterator.b.rest.items
      ≡ l.fn.desks.items;
  alike : length l.seat-iterator.b.rest.items ≡ length l.seat-iterator.a.rest.items;
}
