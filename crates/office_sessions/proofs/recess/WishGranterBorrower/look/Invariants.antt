use Rattle.sector_device.specs.Crash.{WasLookedAt}
use Rattle.office_day.specs.Archive.{WasKept}
use Rattle.office_sessions.proofs.recess.WishGranterBorrower.look.Given as goal

-- the device was only looked at, and its archive was kept
abbrev pub invariant-loop-station : goal.invariant-loop-station
invariant-loop-station g l =
    WasLookedAt (g.D.Device.state l.fn.journal.device) (g.D.Device.state l.device)
    × WasKept (g.D.Device.state l.fn.journal.device) (g.K.Keeper.archive l.fn.self.keeper)
    (g.K.Keeper.archive l.self.keeper)
