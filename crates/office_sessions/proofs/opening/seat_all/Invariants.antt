use Rattle.std.proofs.Common.{◌≡◌, length, map, All}
use Rattle.std.specs.List.{AllZip}
use Rattle.station_desk.specs.Rings.{AreTogether}
use Rattle.office_day.specs.HandedIn.{IsFresh}
use Rattle.office_sessions.specs.Session.{feed_of, own_of, own_of_all}
use Rattle.office_sessions.proofs.opening.seat_all.Given as goal

-- the stations so far: each session's feed is together with its desk, which is fresh
abbrev pub invariant-loop-station : goal.invariant-loop-station
invariant-loop-station g l = record {
  together : AllZip AreTogether (map feed_of l.all.sessions.items)
      l.all.desks.items;
  fresh : All IsFresh l.all.desks.items;
  many : length l.all.desks.items ≡ l.station;
  own : map own_of l.all.sessions.items ≡ own_of_all l.first l.station;
}
