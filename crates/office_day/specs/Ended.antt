-- How a station of a closed office ended, as the office's clerk bears it out.
use Rattle.std.specs.Prelude.{◌≡◌, ◌≢◌, ◌≤◌, ℕ, List, [], length, Some}
use Rattle.four_state.specs.Configuration.{Configuration}
use Rattle.turn_ledger.specs.Screen.{accepted}
use Rattle.turn_clerk.specs.declared.turns.Turn.{Turn}
use Rattle.turn_clerk.specs.declared.refusals.TurnRefusal.TheVariants.{NoStation, NotPrivileged}
use Rattle.turn_clerk.specs.declared.refusals.TurnRefusal.TheVariants.{Device}
use Rattle.turn_clerk.specs.Clerk.{ClerkState}
use Rattle.line_lock.specs.Account.{WasDenied}
use Rattle.station_desk.specs.declared.messages.Ask.{Ask}
use Rattle.station_desk.specs.declared.end.End.{End}
use Rattle.station_desk.specs.declared.end.End.TheVariants.{NotStarted, Reached, Tries, Refused}
use Rattle.station_desk.specs.declared.end.End.TheVariants.{Closed}
use Rattle.station_desk.specs.Messages.{entries_of}

-- The station wasn't privileged after some number of the history's turns.
abbrev pub WasOnceDenied : Configuration → List Turn → ℕ → Type 0
WasOnceDenied opening history station = (before : ℕ) × WasDenied opening history station before

-- A station ended so, and gave these requests up: as Reached only where the history has so many
-- turns; as Tries only where it was once denied its turn, and as Refused neither for that nor as no
-- station of the line; as Closed only where it may be sent home. Requests were given up only where
-- it ended by a failed device, and of these what the ledger accepts is the clerk's batch in flight.
pub record HasEnded {D : Type 0} (clerk : ClerkState D) (moves station : ℕ) (closes : Type 0)
    (end : End) (given_up : List Ask) : Type 0 where
  pub reached : end ≡ Reached → moves ≤ length clerk.history
  pub tries : end ≡ Tries → WasOnceDenied clerk.opening.line clerk.history station
  pub undecided : end ≡ Refused Device
      → clerk.in_flight ≡ Some (accepted clerk.ledger (entries_of given_up))
  pub none_else : end ≢ Refused Device → given_up ≡ []
  pub not_denied : end ≢ Refused NotPrivileged
  pub there : end ≢ Refused NoStation
  pub started : end ≢ NotStarted
  pub closed : end ≡ Closed → closes
