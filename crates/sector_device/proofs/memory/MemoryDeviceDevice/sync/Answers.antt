use Rattle.std.proofs.Common.{subst}
use Rattle.sector_device.specs.Memory.{IsPending}
use Rattle.sector_device.specs.MemoryDevice.{calls_of}
use Rattle.sector_device.proofs.Loss.{settled_durable}
use Rattle.sector_device.proofs.memory.MemoryDeviceDevice.sync.Goals as goal

pub returns-clause-durable : goal.returns-clause-durable
returns-clause-durable c honest =
    settled_durable c.record.new.self.sectors.items (calls_of c.record.new.self)
    (λ at pending. subst (λ (calls : _). IsPending calls at) c.in_ok-record.ensures.ok.0
    pending)
