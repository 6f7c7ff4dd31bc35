use Rattle.std.proofs.Common.{rules}
use Rattle.sector_device.specs.Crash.{IsLook, torn_nothing}
use Rattle.sector_device.specs.Wrapped.{with_failures, sound_with_failures}
use Rattle.device_files.proofs.read_only.ReadOnlyDevice.write.Goals as goal

-- a write that is refused is one that changed nothing
pub returns-clause-torn : goal.returns-clause-torn
returns-clause-torn g c honest =
    let inner = g.D.Device.state c.args.self.now.inner in
    let old = with_failures inner c.args.self.now.refused in
    let new = with_failures (g.D.Device.state c.self.inside.inner)
    c.saturating_add-self-inside.result in
    let same : IsLook old new = search rules in
    torn_nothing c.args.at old new
    (sound_with_failures inner c.args.self.now.refused
    (g.met.D.Device.sound c.args.self.now.inner honest)) c.requires same
