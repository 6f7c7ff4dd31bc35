-- The first lists are handed in, each at a desk of its own.
use Rattle.std.proofs.Common.{All, take}
use Rattle.std.specs.List.{AllZip}
use Rattle.station_desk.specs.Rings.{AreTogether}
use Rattle.office_day.specs.HandedIn.{HasHandedIn, IsFresh}
use Rattle.office_day.proofs.handing_in.hand_in_all.Given as goal

abbrev pub invariant-loop-entries : goal.invariant-loop-entries
invariant-loop-entries l = record {
  handed_in : AllZip HasHandedIn (take l.entries-index l.held) l.feeds.items;
  together : AllZip AreTogether l.feeds.items l.desks.items;
  fresh : All IsFresh l.desks.items;
}
