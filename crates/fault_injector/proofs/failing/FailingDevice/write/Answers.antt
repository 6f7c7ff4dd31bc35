use Rattle.std.proofs.Common.{rules}
use Rattle.sector_device.specs.Crash.{IsLook, torn_nothing}
use Rattle.sector_device.specs.Wrapped.{with_failures, sound_with_failures}
use Rattle.fault_injector.proofs.failing.FailingDevice.write.Goals as goal

pub returns-then-fails-clause-torn : goal.returns-then-fails-clause-torn
returns-then-fails-clause-torn g c honest =
    let old = with_failures (g.D.Device.state c.args.self.now.inner) c.args.self.now.failures in
    let new = with_failures (g.D.Device.state c.fails.new.self.inner) c.fails.new.self.failures in
    let same : IsLook old new = search rules in
    torn_nothing c.args.at old new
    (sound_with_failures (g.D.Device.state c.args.self.now.inner) c.args.self.now.failures
    (g.met.D.Device.sound c.args.self.now.inner honest)) c.requires same
