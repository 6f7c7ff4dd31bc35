-- A device in memory keeps the law of devices.
use Rattle.std.specs.Prelude.{◌≤◌, ℕ, List, [], ◌∷◌, length}
use Rattle.std.proofs.Common.{inl, inr, refl, arith}
use Rattle.std.proofs.lemmas.List.{length-reverse}
use Rattle.sector_device.specs.Image.{Image}
use Rattle.sector_device.specs.Device.{IsSound}
use Rattle.sector_device.specs.Memory.{MayLeave, LeftSince}
use Rattle.sector_device.specs.MemoryDevice.{memory_device_state, calls_of}
use Rattle.sector_device.specs.declared.memory.Call.{Call}
use Rattle.sector_device.specs.declared.memory.MemoryDevice.{MemoryDevice}

-- what may be left now might have been left since any moment up to now
left_now : (reads : Image) (calls : List Call) (since : ℕ) (image : Image)
    → MayLeave reads calls image → LeftSince reads calls since image
left_now reads [] since image now = now
left_now reads (call ∷ calls) since image now = inl now

-- since now there is no other moment
only_now : (reads : Image) (calls : List Call) (since : ℕ) (image : Image) → length calls ≤ since
    → LeftSince reads calls since image → MayLeave reads calls image
only_now reads [] since image le left = left
only_now reads (call ∷ calls) since image le (inl now) = now
only_now reads (call ∷ calls) since image le (inr earlier) = absurd (omega (arith, earlier.0))

pub memory_sound : (device : MemoryDevice) → IsSound (memory_device_state device)
memory_sound device = record {
  nothing_lost = record { sectors = refl; is_image = device.whole; settled = λ at _. refl };
  images = λ image left. (left.is_image, left.sectors);
  counts_now = λ since image le now.
      left_now device.sectors.items (calls_of device) since image now;
  only_now = λ image left.
      only_now device.sectors.items (calls_of device) (length device.calls.items) image
      (omega (arith, length-reverse device.calls.items)) left;
}
