-- What is handed in at the beginning of a day.
use Rattle.std.specs.Prelude.{◌≡◌, List, []}
use Rattle.turn_ledger.specs.declared.entry.Entry.{Entry}
use Rattle.station_desk.specs.Messages.{entries_of}
use Rattle.station_desk.specs.Rings.{FeedState, DeskState}

-- The feed has these entries' requests, in order, and nothing was collected from it.
pub record HasHandedIn (entries : List Entry) (feed : FeedState) : Type 0 where
  pub asked : entries_of feed.asked ≡ entries
  pub collected : feed.collected ≡ []

-- The desk gave no answer yet.
abbrev pub IsFresh : DeskState → Type 0
IsFresh desk = desk.given ≡ []
