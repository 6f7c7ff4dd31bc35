-- What holds of an office whenever nobody has its lock.
use Rattle.std.specs.Prelude.{◌≡◌, ◌+◌, ℕ, length}
use Rattle.sector_device.specs.Device.{DeviceState}
use Rattle.four_state.specs.Configuration.{Configuration, stations}
use Rattle.journal_recovery.specs.State.{State}
use Rattle.turn_clerk.specs.Clerk.{ClerkState, opening_state}
use Rattle.line_lock.specs.OpenedOn.{WasOpenedOn}
use Rattle.line_lock.specs.Account.{failed_turns}

-- Its clerk was opened on that device with that line, from a state in which the office may begin. A
-- book counts each turn of the history, and the one in which the device failed; it has a part for
-- each station, and all parts, with all that they count, are the seats'.
pub record HoldsUnlocked {D : Type 0} (state : D → DeviceState) (device : DeviceState)
    (line : Configuration) (begins : State → Type 0)
    (clerk : ClerkState D) (total parts rest_parts rest_amount : ℕ) : Type 0 where
  pub counted : length clerk.history + failed_turns clerk ≡ total
  pub for_each : stations clerk.line ≡ parts
  pub no_part_left : rest_parts ≡ 0
  pub no_amount_left : rest_amount ≡ 0
  pub opened : WasOpenedOn state device line clerk
  pub begins_so : begins (opening_state clerk)
