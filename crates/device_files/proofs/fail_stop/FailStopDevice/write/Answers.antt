use Rattle.std.proofs.Common.{rules}
use Rattle.sector_device.specs.Crash.{IsLook, torn_nothing}
use Rattle.sector_device.specs.Wrapped.{with_failures, sound_with_failures}
use Rattle.device_files.proofs.fail_stop.FailStopDevice.write.Goals as goal

-- a call that is refused is a write that changed nothing
pub returns-in_err-ready-clause-torn : goal.returns-in_err-ready-clause-torn
returns-in_err-ready-clause-torn g c honest =
    let inner = g.D.Device.state c.args.self.now.inner in
    let old = with_failures inner c.args.self.now.refused in
    let new = with_failures (g.D.Device.state c.ready.new.self.inner) c.ready.new.self.refused in
    let same : IsLook old new = search rules in
    torn_nothing c.args.at old new
    (sound_with_failures inner c.args.self.now.refused
    (g.met.D.Device.sound c.args.self.now.inner honest)) c.requires same
