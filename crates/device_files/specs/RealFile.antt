-- What contracts know of a real file.
use Rattle.std.specs.Prelude.{ℕ, [], replicate}
use Rattle.sector_device.specs.Device.{DeviceState}

pub record FileState : Type 0 where
  -- how many sectors it has
  pub sectors : ℕ
  -- how many calls have failed
  pub failures : ℕ

-- So many sectors, of which nothing is known: no fact about honest devices holds of it.
abbrev pub unknown_sectors : FileState → DeviceState
unknown_sectors file = record {
  reads = replicate file.sectors [];
  may_leave = λ _. Unit {0};
  moment = 0;
  left_since = λ _ _. Unit {0};
  honest = ⊥;
  faults = file.failures;
  number = 0;
}
