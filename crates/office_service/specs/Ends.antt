-- What the ends of its stations say of an office.
use Rattle.std.specs.Prelude.{◌≡◌, ◌≢◌, List, Option, None, Some, All, Contains}
use Rattle.turn_clerk.specs.declared.refusals.TurnRefusal.{TurnRefusal}
use Rattle.turn_clerk.specs.declared.refusals.TurnRefusal.TheVariants.{Device}
use Rattle.station_desk.specs.declared.end.End.{End}
use Rattle.station_desk.specs.declared.end.End.TheVariants.{NotStarted, Reached, Stopped, Tries}
use Rattle.station_desk.specs.declared.end.End.TheVariants.{Closed, Refused}
use Rattle.office_day.specs.Spans.{IsGoodEnd}
use Rattle.office_day.specs.declared.reconciled.StationDay.{StationDay}
use Rattle.office_service.specs.declared.faults.OfficeFault.{OfficeFault}
use Rattle.office_service.specs.declared.faults.OfficeFault.TheVariants as fault

-- why a station was refused its last turn, if it ended by that
abbrev pub reason_of : End → Option TurnRefusal
reason_of NotStarted = None
reason_of Reached = None
reason_of Stopped = None
reason_of Tries = None
reason_of Closed = None
reason_of (Refused reason) = Some reason

-- each station took all its turns, or was sent home
abbrev pub HaveEndedWell : List StationDay → Type 0
HaveEndedWell days = All (λ day. IsGoodEnd day.end) days

-- no station ended by a refusal
abbrev pub NoneWasRefused : List StationDay → Type 0
NoneWasRefused days = All (λ day. reason_of day.end ≡ None) days

-- the device failed for no station
abbrev pub NoneFailed : List StationDay → Type 0
NoneFailed days = All (λ day. day.end ≢ Refused Device) days

-- a station ended by a refusal, and the fault tells it
pub record TellsRefusal (days : List StationDay) (told : OfficeFault) : Type 0 where
  pub day : StationDay
  pub among : Contains days day
  pub reason : TurnRefusal
  pub refused : reason_of day.end ≡ Some reason
  pub tells : told ≡ fault.Refused reason
