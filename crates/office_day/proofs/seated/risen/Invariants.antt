-- What has risen and what is left are what there was.
use Rattle.std.proofs.Common.{◌≡◌, ◌++◌, map}
use Rattle.office_day.specs.Left.{left_of}
use Rattle.office_day.proofs.seated.risen.Given as goal

abbrev pub invariant-loop-station : goal.invariant-loop-station
invariant-loop-station g l = record {
  seats : l.seats.items ++ map (λ station. station.seat) l.station-iterator.rest.items
      ≡ map (λ station. station.seat) l.fn.stations.items;
  left : l.left.items ++ map left_of l.station-iterator.rest.items
      ≡ map left_of l.fn.stations.items;
}
