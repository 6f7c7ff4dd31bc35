use Rattle.std.proofs.Common.{subst, sym}
use Rattle.device_folder.specs.Crash.{LeavesOnly}
use Rattle.device_folder.specs.Put.{IsBeforeOrAfter}
use Rattle.device_folder.proofs.Putting.{not_made, tried, put_whole, put_settled}
use Rattle.device_folder.proofs.Putting.{unfinished_removed, taken_back, then_nothing}
use Rattle.device_folder.proofs.put.put_file.Goals as goal
use Rattle.device_folder.proofs.put.put_file.Goals.{then-matches, else-matches}

pub returns-in-Err-clause-any_moment : goal.returns-in-Err-clause-any_moment
returns-in-Err-clause-any_moment g c honest =
    let state = g.F.Folder.state in
    let cleared = c.clear.ensures.call.stays_honest honest in
    let made = c.make_file.ensures.call.stays_honest cleared in
    not_made c.args.unfinished.now c.args.name.now (g.C.Content.holds c.args.content.now)
    c.requires.differ (state c.args.folder.now) (state c.clear.new.folder)
    (g.met.F.Folder.sound c.args.folder.now honest)
    (g.met.F.Folder.sound c.clear.new.folder cleared) (c.clear.ensures.touches honest)
    (state c.make_file.new.folder) (state c.clear-in-Err.new.folder)
    (g.met.F.Folder.sound c.make_file.new.folder made) (c.make_file.ensures.touches cleared)
    (c.clear-in-Err.ensures.touches made)

pub returns-in_default-put_in_place-clause-any_moment :
    goal.returns-in_default-put_in_place-clause-any_moment
returns-in_default-put_in_place-clause-any_moment g c honest =
    let state = g.F.Folder.state in
    let cleared = c.clear.ensures.call.stays_honest honest in
    let made = c.make_file.ensures.call.stays_honest cleared in
    tried c.args.unfinished.now c.args.name.now (g.C.Content.holds c.args.content.now)
    c.requires.differ (state c.args.folder.now) (state c.clear.new.folder)
    (g.met.F.Folder.sound c.args.folder.now honest)
    (g.met.F.Folder.sound c.clear.new.folder cleared) (c.clear.ensures.touches honest)
    (state c.make_file.new.folder) (c.make_file.ensures.touches cleared)
    (c.in_default.ensures.whole cleared) (state c.put_in_place.new.folder)
    (c.put_in_place.ensures.touches made)

pub returns-in_default-put_in_place-clause-after :
    goal.returns-in_default-put_in_place-clause-after
returns-in_default-put_in_place-clause-after g c honest =
    let state = g.F.Folder.state in
    let cleared = c.clear.ensures.call.stays_honest honest in
    let made = c.make_file.ensures.call.stays_honest cleared in
    put_whole c.args.unfinished.now c.args.name.now (g.C.Content.holds c.args.content.now)
    c.requires.differ (state c.args.folder.now) (state c.clear.new.folder)
    (g.met.F.Folder.sound c.args.folder.now honest)
    (g.met.F.Folder.sound c.clear.new.folder cleared) (c.clear.ensures.touches honest)
    (state c.make_file.new.folder) (c.make_file.ensures.touches cleared)
    (c.in_default.ensures.whole cleared) (state c.put_in_place.new.folder)
    (c.put_in_place.ensures.touches made) (c.in_default-put_in_place.ensures.in_place made)

pub returns-in_default-put_in_place-clause-settled :
    goal.returns-in_default-put_in_place-clause-settled
returns-in_default-put_in_place-clause-settled g c honest settled =
    let state = g.F.Folder.state in
    let cleared = c.clear.ensures.call.stays_honest honest in
    let made = c.make_file.ensures.call.stays_honest cleared in
    put_settled c.args.unfinished.now c.args.name.now (g.C.Content.holds c.args.content.now)
    c.requires.differ (state c.args.folder.now) (state c.clear.new.folder)
    (g.met.F.Folder.sound c.args.folder.now honest)
    (g.met.F.Folder.sound c.clear.new.folder cleared) (c.clear.ensures.touches honest)
    (state c.make_file.new.folder) (c.make_file.ensures.touches cleared)
    (c.in_default.ensures.whole cleared) (state c.put_in_place.new.folder)
    (c.put_in_place.ensures.touches made) settled
    (c.in_default-put_in_place.ensures.in_place made)

pub returns-clause-any_moment : goal.returns-clause-any_moment
returns-clause-any_moment g c honest =
    let state = g.F.Folder.state in
    let own = c.args.name.now in
    let P = g.C.Content.holds c.args.content.now in
    let cleared = c.clear.ensures.call.stays_honest honest in
    let made = c.make_file.ensures.call.stays_honest cleared in
    let placed = c.put_in_place.ensures.call.stays_honest made in
    let run = tried c.args.unfinished.now own P
    c.requires.differ (state c.args.folder.now) (state c.clear.new.folder)
    (g.met.F.Folder.sound c.args.folder.now honest)
    (g.met.F.Folder.sound c.clear.new.folder cleared) (c.clear.ensures.touches honest)
    (state c.make_file.new.folder) (c.make_file.ensures.touches cleared)
    (c.in_default.ensures.whole cleared) (state c.put_in_place.new.folder)
    (c.put_in_place.ensures.touches made) in
    let aside = unfinished_removed c.args.unfinished.now own P c.requires.differ
    (state c.args.folder.now) (state c.put_in_place.new.folder) (state c.remove.new.self)
    (g.met.F.Folder.sound c.put_in_place.new.folder placed) run
    (c.remove.ensures.touches placed) in
    let removed = c.remove.ensures.call.stays_honest placed in
    let still : (state c.if-matches.folder).honest = elim c.if-matches.branch [
      | then-matches w ↦ subst (λ (f : _). (state f).honest) (sym w.folder-is)
          (w.remove-then-matches.ensures.call.stays_honest removed)
      | else-matches w ↦ subst (λ (f : _). (state f).honest) (sym w.folder-is) removed
    ] in
    let here : LeavesOnly (state c.args.folder.now) (state c.if-matches.folder)
    (IsBeforeOrAfter c.args.unfinished.now own P (state c.args.folder.now)) =
    elim c.if-matches.branch [
      | then-matches w ↦ subst
          (λ (f : _).
          LeavesOnly (state c.args.folder.now) (state f)
          (IsBeforeOrAfter c.args.unfinished.now own P (state c.args.folder.now)))
          (sym w.folder-is)
          (taken_back c.args.unfinished.now own P c.requires.differ (state c.args.folder.now)
          (state c.remove.new.self) (state w.remove-then-matches.new.self)
          (g.met.F.Folder.sound c.args.folder.now honest)
          (g.met.F.Folder.sound c.remove.new.self removed) (c.requires.free honest) aside
          (w.remove-then-matches.ensures.touches removed))
      | else-matches w ↦ subst
          (λ (f : _).
          LeavesOnly (state c.args.folder.now) (state f)
          (IsBeforeOrAfter c.args.unfinished.now own P (state c.args.folder.now)))
          (sym w.folder-is) aside
    ] in
    then_nothing c.args.unfinished.now own P c.requires.differ (state c.args.folder.now)
    (state c.if-matches.folder) (state c.sync.new.self)
    (g.met.F.Folder.sound c.if-matches.folder still) here (c.sync.ensures.same still)
