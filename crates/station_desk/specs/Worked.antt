-- What a station's work makes of its seat and its desk.
use Rattle.std.specs.Prelude.{◌≡◌, ◌+◌, ◌<◌, ℕ, List, [], ◌++◌, Some, All}
use Rattle.turn_clerk.specs.declared.turns.Turn.{Turn}
use Rattle.line_lock.specs.Seat.{SeatState}
use Rattle.station_desk.specs.declared.messages.Ask.{Ask}
use Rattle.station_desk.specs.Messages.{entries_of}
use Rattle.station_desk.specs.Rings.{DeskState}
use Rattle.station_desk.specs.Served.{HasServed}

-- Some turns were taken, each while the history had fewer than `moves`, and all are in the seat's
-- list; each was acknowledged, as is said; and then the desk answered, in order, what became of
-- their entries. Where the device failed, it answered all that it then held that it is undecided:
-- that is what it asked that turn with, as the seat, which counts the turn, notes; else it gave
-- nothing up, and the device failed in none of its turns.
pub record HasWorked (was_acknowledged : Turn → Type 0) (old new : SeatState)
    (before after : DeskState) (moves : ℕ) (failed : Type 0) : Type 0 where
  pub turns : List Turn
  pub given_up : List Ask
  pub station : new.station ≡ old.station
  pub listed : new.turns ≡ old.turns ++ turns
  pub within : All (λ turn. turn.index < moves) turns
  pub acknowledged : All was_acknowledged turns
  pub served : HasServed before after turns given_up
  pub undecided : ¬ failed → given_up ≡ []
  pub nothing_held : failed → after.held ≡ []
  pub counted : failed → new.failed ≡ old.failed + 1
  pub none_failed : ¬ failed → new.failed ≡ old.failed
  pub asked : failed → new.undecided ≡ Some (entries_of given_up)
  pub not_asked : ¬ failed → new.undecided ≡ old.undecided
