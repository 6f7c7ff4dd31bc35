-- What the taking of requests does, for the desk's own functions.
use Rattle.std.specs.Prelude.{◌≡◌, ◌⊎◌, ◌≤◌, ℕ, List, [], ◌++◌, length}
use Rattle.std.specs.declared.alloc.Global.{Global}
use Rattle.rtrb.specs.Ring.{received, known_items, SameConsumer}
use Rattle.rtrb.specs.declared.consumer.Consumer.{Consumer}
use Rattle.rtrb.specs.declared.AnyItems.{AnyItems}
use Rattle.station_desk.specs.declared.messages.Ask.{Ask}

-- What a taking of requests, until `room` of them are held, makes of their ring and of what is
-- held.
pub record HasTaken (old new : Consumer Ask Global AnyItems) (held_before held_after : List Ask)
    (room : ℕ) : Type 0 where
  -- the requests that were taken
  pub more : List Ask
  pub ring : SameConsumer old new
  pub taken : received new ≡ received old ++ more
  pub held : held_after ≡ held_before ++ more
  pub few : length held_after ≤ room
  pub took_all : (length held_after ≡ room) ⊎ (known_items new ≡ [])
