-- The device of all tests, which isn't honest: somebody else may write it.
use Rattle.std.specs.Prelude.{ℕ}
use Rattle.sector_device.specs.Device.{DeviceState}
use Rattle.sector_device.specs.Wrapped.{with_failures}

-- the memory's state, with so many failures beside its own
abbrev pub foreign_state : DeviceState → ℕ → DeviceState
foreign_state memory failures = record (with_failures memory failures) { honest = ⊥ }
