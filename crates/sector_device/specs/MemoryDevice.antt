-- A device in memory at one moment.
use Rattle.std.specs.Prelude.{◌↔◌, ℕ, List, length, reverse}
use Rattle.sector_device.specs.Image.{Image}
use Rattle.sector_device.specs.Device.{DeviceState}
use Rattle.sector_device.specs.Memory.{MayLeave, LeftSince, IsPending}
use Rattle.sector_device.specs.Picks.{TakesPicks}
use Rattle.sector_device.specs.declared.memory.Call.{Call}
use Rattle.sector_device.specs.declared.memory.MemoryDevice.{MemoryDevice}

-- its record of writes and syncs, the newest first
abbrev pub calls_of : MemoryDevice → List Call
calls_of device = reverse device.calls.items

-- It is honest, and moments are counted by its record.
abbrev pub memory_state : Image → List Call → ℕ → ℕ → ℕ → DeviceState
memory_state reads calls moment faults number = record {
  reads = reads;
  may_leave = MayLeave reads calls;
  moment = moment;
  left_since = LeftSince reads calls;
  honest = Unit {0};
  faults = faults;
  number = number;
}

abbrev pub memory_device_state : MemoryDevice → DeviceState
memory_device_state device =
    memory_state device.sectors.items (calls_of device) (length device.calls.items) device.faults
    device.number

-- the same device with another number
abbrev pub with_number : MemoryDevice → ℕ → MemoryDevice
with_number device number = record device { number = number }

-- A write to the sector answered Ok since the last sync that answered Ok.
abbrev pub IsPendingIn : MemoryDevice → ℕ → Type 0
IsPendingIn device at = IsPending (calls_of device) at

-- the same sectors are pending
abbrev pub KeepsPending : MemoryDevice → MemoryDevice → Type 0
KeepsPending old new = (sector : ℕ) → IsPendingIn new sector ↔ IsPendingIn old sector

-- after a power loss with these picks reads give this image
abbrev pub HasPicks : MemoryDevice → List (ℕ × List ℕ) → Image → Type 0
HasPicks device picks image =
    TakesPicks (memory_device_state device).reads picks (IsPendingIn device) image
