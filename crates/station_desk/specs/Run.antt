-- What a run makes of its stations.
use Rattle.std.specs.Prelude.{◌≡◌, ◌≢◌, ◌<◌, ◌≤◌, ℕ, List, length, IsSomeAnd}
use Rattle.std.specs.List.{slice_index_or}
use Rattle.sector_device.specs.Device.{DeviceState}
use Rattle.four_state.specs.Configuration.{Configuration}
use Rattle.line_lock.specs.Seat.{SeatState, WasAcknowledged, IsDeniedAfter}
use Rattle.turn_clerk.specs.declared.refusals.TurnRefusal.TheVariants.{NoStation, NotPrivileged}
use Rattle.turn_clerk.specs.declared.refusals.TurnRefusal.TheVariants.{Device}
use Rattle.station_desk.specs.declared.end.End.{End}
use Rattle.station_desk.specs.declared.end.End.TheVariants.{NotStarted, Reached, Tries, Refused}
use Rattle.station_desk.specs.declared.end.End.TheVariants.{Closed}
use Rattle.station_desk.specs.declared.stations.Station.{Station}
use Rattle.station_desk.specs.Rings.{DeskState}
use Rattle.station_desk.specs.Worked.{HasWorked}

-- A station of an office that was opened on that device with that line has worked, each of its
-- turns acknowledged before it was answered, and ended: as Reached only where its seat was told
-- that the history holds so many turns; as Tries only where it was told that it isn't its turn, and
-- as Refused never for that, nor as no station of the line; as Closed only where its gate may send
-- it home.
pub record HasRun {D : Type 0} (state : D → DeviceState) (device : DeviceState)
    (from : Configuration)
    (old new : SeatState) (before after : DeskState) (end : End) (moves : ℕ)
    (closes : Type 0) : Type 0 where
  pub worked : HasWorked (WasAcknowledged state device from) old new before after moves
      (end ≡ Refused Device)
  pub reached : end ≡ Reached → moves ≤ new.reached
  pub tries : end ≡ Tries → IsSomeAnd new.denied (IsDeniedAfter device from old.station)
  pub not_denied : end ≢ Refused NotPrivileged
  pub there : end ≢ Refused NoStation
  pub started : end ≢ NotStarted
  pub closed : end ≡ Closed → closes

-- Each of the stations has run; there are as many, in the same order.
pub record HaveRun {D X : Type 0} (state : D → DeviceState) (device : DeviceState)
    (from : Configuration) (old new : List (Station X)) (moves : ℕ) (closes : Type 0) : Type 0 where
  pub as_many : length new ≡ length old
  pub each : (i : ℕ) (d : Station X) → i < length old
      → HasRun state device from (slice_index_or old i d).seat (slice_index_or new i d).seat
      (slice_index_or old i d).desk (slice_index_or new i d).desk (slice_index_or new i d).end
      moves closes
