-- A device that is looked at again and again.
use Rattle.std.proofs.Common.{◌∙◌}
use Rattle.sector_device.specs.Device.{DeviceState}
use Rattle.sector_device.specs.Crash.{WasLookedAt, looks_joined}

pub looked_again : (old mid new : DeviceState) → WasLookedAt old mid → WasLookedAt mid new
    → WasLookedAt old new
looked_again old mid new first second = record {
  number = second.number ∙ first.number;
  sectors = second.sectors ∙ first.sectors;
  stays_honest = λ honest. second.stays_honest (first.stays_honest honest);
  was_honest = λ honest. first.was_honest (second.was_honest honest);
  looks = λ honest.
      looks_joined old mid new (first.looks honest) (second.looks (first.stays_honest honest));
}
