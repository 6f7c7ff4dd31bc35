-- What contracts see of a feed and of a desk.
use Rattle.std.specs.Prelude.{◌≡◌, ◌⊎◌, ◌+◌, ◌<◌, ◌≤◌, ℕ, List, [], ◌++◌, length}
use Rattle.std.specs.List.{slice_index_or}
use Rattle.std.specs.declared.alloc.Global.{Global}
use denote.RawPtr.{Ptr}
use Rattle.rtrb.specs.Shared.{Names}
use Rattle.rtrb.specs.declared.producer.Producer.{Producer}
use Rattle.rtrb.specs.declared.consumer.Consumer.{Consumer}
use Rattle.rtrb.specs.declared.AnyItems.{AnyItems}
use Rattle.turn_ledger.specs.declared.limits.TheConstants.{BATCH_LIMIT}
use Rattle.station_desk.specs.declared.messages.Ask.{Ask}
use Rattle.station_desk.specs.declared.messages.Answer.{Answer}
use Rattle.station_desk.specs.Messages.{asks_of, AreNumberedFrom}

-- which ring it is
pub record Ring : Type 0 where
  pub words : Ptr
  pub slots : Ptr
  pub names : Names
  pub heap : Global

module _ {T : Type 0} where
  -- the ring of an end that pushes, and of one that pops
  abbrev pub ring_pushed : Producer T Global AnyItems → Ring
  ring_pushed p =
      record { words = p.end.words; slots = p.end.slots; names = p.end.names; heap = p.end.heap }

  abbrev pub ring_popped : Consumer T Global AnyItems → Ring
  ring_popped c =
      record { words = c.end.words; slots = c.end.slots; names = c.end.names; heap = c.end.heap }

-- What a client's side is.
pub record FeedState : Type 0 where
  -- the ring of its requests, and that of the answers
  pub asks : Ring
  pub answers : Ring
  -- how many requests their ring has room for
  pub capacity : ℕ
  -- every request that was submitted, in order
  pub asked : List Ask
  -- every answer that was collected, in order
  pub collected : List Answer
  -- how many places of the ring of requests it knows to be free
  pub free : ℕ
  -- the answers that it has seen in their ring
  pub arrived : List Answer

-- What a station's side is.
pub record DeskState : Type 0 where
  -- the ring of requests, and that of its answers
  pub asks : Ring
  pub answers : Ring
  -- every request that was taken out of the ring, in order
  pub taken : List Ask
  -- every answer that was given, in order
  pub given : List Answer
  -- the requests that were taken and not answered yet, in order
  pub held : List Ask
  -- how many places of the ring of answers it knows to be free
  pub free : ℕ
  -- the requests that it has seen in their ring
  pub waiting : List Ask

-- The feed stands at the same rings as before.
abbrev pub StandsAt : FeedState → FeedState → Type 0
StandsAt old new =
    (new.asks ≡ old.asks) × (new.answers ≡ old.answers) × (new.capacity ≡ old.capacity)

-- A feed and a desk at the two ends of the same two rings.
pub record AreTogether (feed : FeedState) (desk : DeskState) : Type 0 where
  pub asks : feed.asks ≡ desk.asks
  pub answers : feed.answers ≡ desk.answers

-- What every feed keeps: its tickets count from 0, and the places of a ring that were never used
-- are free.
pub record IsFeed (feed : FeedState) : Type 0 where
  pub numbered : AreNumberedFrom 0 feed.asked
  pub free : feed.capacity ≤ feed.free + length feed.asked

-- What every desk keeps: each request that it took has its answer, in order, or is held; it holds
-- no more than a turn takes, and no more than it can answer.
pub record IsDesk (desk : DeskState) : Type 0 where
  pub taken : desk.taken ≡ asks_of desk.given ++ desk.held
  pub few : length desk.held ≤ BATCH_LIMIT
  pub answerable : length desk.held ≤ desk.free

-- What a gathering makes of a desk: requests were taken and are held behind those that were held
-- before, and it stopped where a turn takes no more, where no more could be answered, or where no
-- other request was seen.
pub record HasGathered (old new : DeskState) : Type 0 where
  -- the requests that were taken
  pub more : List Ask
  pub taken : new.taken ≡ old.taken ++ more
  pub held : new.held ≡ old.held ++ more
  pub few : length new.held ≤ BATCH_LIMIT
  pub answerable : length new.held ≤ new.free
  pub no_fewer_free : old.free ≤ new.free
  pub took_all : (length new.held ≡ BATCH_LIMIT) ⊎ (length new.held ≡ new.free) ⊎ (new.waiting ≡ [])
  -- all else stays
  pub same : new ≡ record old
      { taken = new.taken; held = new.held; free = new.free; waiting = new.waiting }

-- There are as many feeds as before, in the same order, and each stands at the same rings.
pub record AllStandAt (old new : List FeedState) : Type 0 where
  pub as_many : length new ≡ length old
  pub each : (i : ℕ) (f : FeedState) → i < length old
      → StandsAt (slice_index_or old i f) (slice_index_or new i f)
