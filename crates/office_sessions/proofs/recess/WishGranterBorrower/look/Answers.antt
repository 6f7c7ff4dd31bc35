use Rattle.std.proofs.Common.{sym, subst}
use Rattle.office_day.specs.Archive.{Archive, WasKept}
use Rattle.office_sessions.proofs.Looks.{looked_again}
use Rattle.office_sessions.proofs.recess.WishGranterBorrower.look.Goals as goal

pub loop-station-preserved : goal.loop-station-preserved
loop-station-preserved g c =
    let state = g.D.Device.state in
    let before = c.loop-station.invariant in (
      looked_again (state c.args.journal.device) (state c.loop-station.device)
          (state c.grant-device.result) before.0 c.grant-device.ensures.looked,
      subst (λ (archive : Archive).
          WasKept (state c.args.journal.device) (g.K.Keeper.archive c.args.self.now.keeper) archive)
          (sym c.grant-device.ensures.archive) before.1,
    )
