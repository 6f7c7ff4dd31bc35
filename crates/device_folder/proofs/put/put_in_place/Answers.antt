use Rattle.device_folder.proofs.Putting.{renamed_then_synced}
use Rattle.device_folder.proofs.put.put_in_place.Goals as goal

pub returns-clause-touches : goal.returns-clause-touches
returns-clause-touches g c honest =
    let state = g.F.Folder.state in
    let renamed = c.in_ok-rename.ensures.call.stays_honest honest in
    renamed_then_synced c.args.from.now c.args.to.now (state c.args.folder.now)
    (state c.rename.new.self) (state c.sync.new.self)
    (g.met.F.Folder.sound c.args.folder.now honest) (g.met.F.Folder.sound c.rename.new.self renamed)
    (c.in_ok-rename.ensures.touches honest) (c.sync.ensures.same renamed)
