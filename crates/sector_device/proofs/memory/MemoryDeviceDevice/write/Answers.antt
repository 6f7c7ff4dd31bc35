use Rattle.std.proofs.Common.{[], ◌∙◌, ap}
use Rattle.std.proofs.lemmas.List.{get_or_read}
use Rattle.sector_device.specs.Image.{Image, with_sector}
use Rattle.sector_device.specs.MemoryDevice.{memory_device_state}
use Rattle.sector_device.specs.MemoryLaws.{memory_sound}
use Rattle.sector_device.specs.Crash.{torn_nothing}
use Rattle.sector_device.proofs.Loss.{same_record, write_torn}
use Rattle.sector_device.proofs.memory.MemoryDeviceDevice.write.Goals as goal

pub returns-in_err-record-clause-torn : goal.returns-in_err-record-clause-torn
returns-in_err-record-clause-torn c honest =
    torn_nothing c.args.at (memory_device_state c.args.self.now)
    (memory_device_state c.record.new.self) (memory_sound c.args.self.now) c.requires
    (same_record c.args.self.now c.record.new.self c.record.ensures.sectors
    c.in_err-record.ensures.err)

pub returns-clause-torn : goal.returns-clause-torn
returns-clause-torn c honest =
    let reads = c.args.self.now.sectors.items in
    write_torn c.args.self.now c.put.new.self c.args.at c.args.from.now c.of-before.result
    (record { size = c.told-from; values = c.fits-from }) c.requires
    (c.of-before.ensures
    ∙ get_or_read reads c.args.at c.index.result.now c.requires c.index.ensures [])
    (c.put.ensures.put
    ∙ ap (λ (image : Image). with_sector image c.args.at c.args.from.now)
    c.record.ensures.sectors)
    (c.put.ensures.calls ∙ c.in_ok-record.ensures.ok.0)
