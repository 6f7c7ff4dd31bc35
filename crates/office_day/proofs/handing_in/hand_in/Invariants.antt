-- The requests so far are those of the first entries.
use Rattle.std.proofs.Common.{◌≡◌, [], take}
use Rattle.station_desk.specs.Messages.{entries_of}
use Rattle.station_desk.specs.Rings.{AreTogether}
use Rattle.office_day.proofs.handing_in.hand_in.Given as goal

abbrev pub invariant-loop-entry : goal.invariant-loop-entry
invariant-loop-entry l = record {
  asked : entries_of l.feed.asked ≡ take l.entry-index l.entry-items;
  collected : l.feed.collected ≡ [];
  places : l.feed.capacity ≡ 16;
  together : AreTogether l.feed l.desk;
}
