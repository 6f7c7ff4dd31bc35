-- What the seats of an office hold in their hands, and whether its clerk bears it out.
use Rattle.std.specs.Prelude.{◌≡◌, ℕ, true, ◌==◌, ◌<◌, ◌≤◌, if◌then◌else◌, List, filter, count_by}
use Rattle.std.specs.Prelude.{length, take, Some, IfSome}
use Rattle.four_state.specs.Configuration.{Configuration}
use Rattle.turn_clerk.specs.declared.turns.Turn.{Turn}
use Rattle.turn_clerk.specs.Turn.{HasPrivilege}
use Rattle.turn_clerk.specs.History.{line_after, state_after_turns}
use Rattle.turn_clerk.specs.Clerk.{ClerkState, opening_state}
use Rattle.turn_ledger.specs.State.{IsAccount, balance_of}
use Rattle.turn_ledger.specs.Screen.{accepted}
use Rattle.line_lock.specs.Seat.{SeatState}
use Rattle.line_lock.specs.declared.told.ToldBalance.{ToldBalance}

-- the turns of a station, in the order of the history
abbrev pub turns_of : ℕ → List Turn → List Turn
turns_of station history = filter (λ turn. turn.station == station) history

-- After so many turns of the history the station had no privilege.
pub record WasDenied (opening : Configuration) (history : List Turn)
    (station before : ℕ) : Type 0 where
  pub within : before ≤ length history
  pub no_privilege : ¬ HasPrivilege (line_after opening (take before history)) station

-- what an account held after so many turns of the clerk's history
abbrev pub held_after : {D : Type 0} → ClerkState D → ℕ → ℕ → ℕ
held_after clerk turns account =
    balance_of (state_after_turns (opening_state clerk) (take turns clerk.history)).ledger account

-- After so many turns of the clerk's history the account held that amount.
pub record HeldThen {D : Type 0} (clerk : ClerkState D) (told : ToldBalance) : Type 0 where
  pub within : told.turns ≤ length clerk.history
  pub there : IsAccount told.account
  pub amount : told.amount ≡ held_after clerk told.turns told.account

-- The clerk bears out what a seat holds. Its turns are those of its station in the history, in
-- order, each once. What it was told is so: that it wasn't its turn; that the history holds so many
-- turns; the last balance, as the account then stood; that a fault of the device was met; and that
-- the device failed in its turn: what the clerk accepts of that turn's entries is in flight, as
-- that of its station.
pub record IsBorneOut {D : Type 0} (clerk : ClerkState D) (seat : SeatState) : Type 0 where
  pub turns : seat.turns ≡ turns_of seat.station clerk.history
  pub denied : IfSome seat.denied (WasDenied clerk.opening.line clerk.history seat.station)
  pub reached : seat.reached ≤ length clerk.history
  pub balance : IfSome seat.told (HeldThen clerk)
  pub faulted : seat.faulted ≡ true → clerk.journal.faulted ≡ true
  pub undecided : IfSome seat.undecided
      (λ entries. clerk.in_flight ≡ Some (accepted clerk.ledger entries))
  pub undecided_by : IfSome seat.undecided (λ entries. clerk.in_flight_by ≡ seat.station)

-- in how many turns the device failed: in one at most, since after it the clerk takes none
abbrev pub failed_turns : {D : Type 0} → ClerkState D → ℕ
failed_turns clerk = if clerk.journal.faulted then 1 else 0

-- how many of the seats are the station's
abbrev pub seats_of : ℕ → List SeatState → ℕ
seats_of station seats = count_by (λ seat. seat.station == station) seats

-- some station, of so many, has no seat among these
pub record IsSeatMissing (stations : ℕ) (seats : List SeatState) : Type 0 where
  pub station : ℕ
  pub there : station < stations
  pub none : seats_of station seats ≡ 0
