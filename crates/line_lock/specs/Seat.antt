-- A seat at one moment, and what a turn that it is told of is.
use Rattle.std.specs.Prelude.{◌≡◌, ℕ, Bool, false, List, [], ◌∷◌, ◌++◌, length, Option, None}
use Rattle.sector_device.specs.Device.{DeviceState}
use Rattle.four_state.specs.Configuration.{Configuration}
use Rattle.turn_clerk.specs.declared.turns.Turn.{Turn}
use Rattle.turn_clerk.specs.declared.refusals.TurnRefusal.{TurnRefusal}
use Rattle.turn_clerk.specs.Turn.{HasPrivilege}
use Rattle.turn_clerk.specs.History.{line_after, state_after_turns}
use Rattle.turn_clerk.specs.Refused.{Standing, ClerkRefuses}
use Rattle.turn_ledger.specs.declared.entry.Entry.{Entry}
use Rattle.turn_clerk.specs.Clerk.{ClerkState, KeepsHistory, LeavesAcknowledged}
use Rattle.line_lock.specs.OpenedOn.{WasOpenedOn, IsHistoryOf}
use Rattle.line_lock.specs.declared.told.ToldBalance.{ToldBalance}

pub record SeatState : Type 0 where
  pub station : ℕ
  -- the turns that its station took, in order
  pub turns : List Turn
  -- how many turns the history held when the station was last told that it isn't its turn
  pub denied : Option ℕ
  -- the greatest number of turns that it was told the history holds, where it asked for fewer; 0
  -- where it never was
  pub reached : ℕ
  -- in how many of its turns the device failed
  pub failed : ℕ
  -- the last balance that it was told
  pub told : Option ToldBalance
  -- it was told that a fault of the device was met
  pub faulted : Bool
  -- the entries of the turn in which the device failed
  pub undecided : Option (List Entry)
  -- for how many turns more its list has a place
  pub room : ℕ

-- a seat as an opening hands it out
abbrev pub new_seat : ℕ → SeatState
new_seat station =
    record {
      station = station;
      turns = [];
      denied = None;
      reached = 0;
      failed = 0;
      told = None;
      faulted = false;
      undecided = None;
      room = 0;
    }

-- The turn was acknowledged: a clerk that was opened on that device with that line had it as the
-- last of a legal history, and each image that a crash then left recovers to the ledger of a prefix
-- of the accepted batches with all batches of this history, and so with its own.
pub record WasAcknowledged {D : Type 0} (state : D → DeviceState) (device : DeviceState)
    (from : Configuration) (turn : Turn) : Type 0 where
  pub clerk : ClerkState D
  pub opened : WasOpenedOn state device from clerk
  pub legal : KeepsHistory clerk
  pub before : List Turn
  pub last : clerk.history ≡ before ++ turn ∷ []
  pub leaves : device.honest → LeavesAcknowledged state clerk

-- So many turns are a legal history from the opening on that device with that line, after which the
-- station has no privilege.
pub record IsDeniedAfter (device : DeviceState) (from : Configuration)
    (station before : ℕ) : Type 0 where
  pub turns : List Turn
  pub history : IsHistoryOf device from turns
  pub many : length turns ≡ before
  pub no_privilege : ¬ HasPrivilege (line_after from turns) station

-- A clerk refused the station a turn with these entries for that reason, where it stood behind some
-- turns: they are a legal history from the opening on that device with that line.
pub record WasRefused (device : DeviceState) (from : Configuration) (station : ℕ)
    (entries : List Entry) (refusal : TurnRefusal) : Type 0 where
  pub turns : List Turn
  pub history : IsHistoryOf device from turns
  pub standing : Standing
  pub line : standing.line ≡ line_after from turns
  pub state : standing.state ≡ state_after_turns history.found turns
  pub refuses : ClerkRefuses standing station entries refusal
