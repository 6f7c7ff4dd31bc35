use Rattle.std.proofs.Common.{◌≡◌, take}
use Rattle.sector_device.specs.Picks.{TakesPicks}
use Rattle.sector_device.specs.MemoryDevice.{memory_device_state, calls_of, IsPendingIn}
use Rattle.sector_device.proofs.memory.MemoryDevice.crash.Given as goal

-- the picks so far stand where they are to
abbrev pub invariant-loop-pick : goal.invariant-loop-pick
invariant-loop-pick l = record {
  picked : TakesPicks (memory_device_state l.initial.self).reads
      (take l.pick-index l.picks.list.items) (IsPendingIn l.initial.self)
      (memory_device_state l.self).reads;
  calls : calls_of l.self ≡ calls_of l.initial.self;
  faults : l.self.faults ≡ l.initial.self.faults;
  number : l.self.number ≡ l.initial.self.number;
}
