-- A device that stops at a failed sync.
use Rattle.std.specs.Prelude.{◌≡◌, ℕ, Bool, IsTrue}
use Rattle.sector_device.specs.Device.{DeviceState}
use Rattle.sector_device.specs.Wrapped.{one_more, with_failures}

pub record FailStopState (D : Type 0) : Type 0 where
  pub inner : D
  -- a sync has failed
  pub stopped : Bool
  -- how many calls were refused since, without reaching the inner device
  pub refused : ℕ

-- The calls that are refused are counted, and no others.
pub record CountsRefused {D : Type 0} (old new : FailStopState D) : Type 0 where
  pub refused : IsTrue old.stopped → new.refused ≡ one_more old.refused
  pub passed_on : (IsTrue old.stopped → ⊥) → new.refused ≡ old.refused

-- what is to be known of it as a device: the calls that it refused are among the failures
abbrev pub fail_stop_state : {D : Type 0} → (D → DeviceState) → FailStopState D → DeviceState
fail_stop_state state device = with_failures (state device.inner) device.refused
