-- A device within another, whose own failures count too.
use Rattle.std.specs.Prelude.{◌+◌, ◌-◌, ◌^◌, ℕ, min}
use Rattle.sector_device.specs.Device.{DeviceState, IsSound}

-- a count of 64 bits that goes up by one, and stands at its greatest value
abbrev pub one_more : ℕ → ℕ
one_more count = min (count + 1) (2 ^ 64 - 1)

-- the inner device's state, with so many failures of the wrapper among its failures
abbrev pub with_failures : DeviceState → ℕ → DeviceState
with_failures state failures = record {
  reads = state.reads;
  may_leave = state.may_leave;
  moment = state.moment;
  left_since = state.left_since;
  honest = state.honest;
  faults = state.faults + failures;
  number = state.number;
}

-- failures are nothing that a crash depends on
pub sound_with_failures : (state : DeviceState) (failures : ℕ) → IsSound state
    → IsSound (with_failures state failures)
sound_with_failures state failures sound = record {
  nothing_lost = sound.nothing_lost;
  images = sound.images;
  counts_now = sound.counts_now;
  only_now = sound.only_now;
}
