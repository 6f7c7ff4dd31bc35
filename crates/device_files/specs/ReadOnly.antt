-- A device that is only read.
use Rattle.std.specs.Prelude.{ℕ}
use Rattle.sector_device.specs.Device.{DeviceState}
use Rattle.sector_device.specs.Crash.{IsDurable}
use Rattle.sector_device.specs.Wrapped.{with_failures}

pub record ReadOnlyState (D : Type 0) : Type 0 where
  pub inner : D
  -- how many writes were refused
  pub refused : ℕ

-- What is to be known of it as a device: a crash leaves what it leaves of the inner device, and the
-- writes that were refused are among the failures.
abbrev pub read_only_state : {D : Type 0} → (D → DeviceState) → ReadOnlyState D → DeviceState
read_only_state state device = with_failures (state device.inner) device.refused

-- Nothing is pending, if the device is honest.
abbrev pub IsSettled : DeviceState → Type 0
IsSettled state = state.honest → IsDurable state
