use Rattle.std.proofs.Common.{◌≡◌, length}
use Rattle.sector_device.specs.Device.{AreCalls}
use Rattle.sector_device.specs.Crash.{IsLook}
use Rattle.sector_device.specs.MemoryDevice.{memory_device_state}
use Rattle.device_files.specs.Run.{Shows}
use Rattle.device_files.proofs.read_run.MemoryDeviceReadRun.read_run.Given as goal

-- the device has been read alone, and the sectors so far show what stands there
abbrev pub invariant-loop-index : goal.invariant-loop-index
invariant-loop-index l = record {
  call : AreCalls (memory_device_state l.initial.self) (memory_device_state l.self) ⊥;
  same : (memory_device_state l.initial.self).honest
      → IsLook (memory_device_state l.initial.self) (memory_device_state l.self);
  bytes : (memory_device_state l.initial.self).honest
      → Shows l.into l.index (memory_device_state l.initial.self).reads l.at;
  fits : l._sectors ≡ length (memory_device_state l.initial.self).reads;
}
