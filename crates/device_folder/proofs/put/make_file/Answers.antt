use Rattle.device_folder.proofs.Putting.{only_made, made_then_kept}
use Rattle.device_folder.proofs.put.make_file.Goals as goal

pub returns-in_err-file-clause-touches : goal.returns-in_err-file-clause-touches
returns-in_err-file-clause-touches g c honest =
    let state = g.F.Folder.state in
    only_made c.args.name.now (state c.args.folder.now) (state c.make.new.self)
    (g.met.F.Folder.sound c.args.folder.now honest) (c.in_err-file.ensures.touches honest)

pub returns-in_err-keep-clause-touches : goal.returns-in_err-keep-clause-touches
returns-in_err-keep-clause-touches g c honest =
    let state = g.F.Folder.state in
    let honest_made = c.in_ok-file.ensures.call.stays_honest honest in
    made_then_kept c.args.name.now (state c.args.folder.now) (state c.make.new.self)
    (state c.keep.new.self) _ _ (g.met.F.Folder.sound c.args.folder.now honest)
    (g.met.F.Folder.sound c.make.new.self honest_made) (c.in_ok-file.ensures.touches honest)
    (c.in_ok-file.ensures.made honest).fresh c.write-written.ensures.number
    (c.in_err-keep.ensures.touches honest_made)

pub returns-clause-touches : goal.returns-clause-touches
returns-clause-touches g c honest =
    let state = g.F.Folder.state in
    let honest_made = c.in_ok-file.ensures.call.stays_honest honest in
    made_then_kept c.args.name.now (state c.args.folder.now) (state c.make.new.self)
    (state c.keep.new.self) _ _ (g.met.F.Folder.sound c.args.folder.now honest)
    (g.met.F.Folder.sound c.make.new.self honest_made) (c.in_ok-file.ensures.touches honest)
    (c.in_ok-file.ensures.made honest).fresh c.write-written.ensures.number
    (c.in_ok-keep.ensures.touches honest_made)
