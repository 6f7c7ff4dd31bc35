use denote.Param.{param}
use denote.Param.Send.{IsSync, sendable}
use Rattle.std.proofs.Crossing.{crosses}
use Rattle.line_lock.specs.contracts.office.Office as office
use Rattle.line_lock.proofs.Sharing.{office_sync}
use Rattle.test_console.proofs.callers.take_all_turns.Goals as goal

pub for_each_mut-requires-sync-F : goal.for_each_mut-requires-sync-F
for_each_mut-requires-sync-F g c κs within =
    let shared : IsSync
    (office.the_row (param 0 g.row.D) (param 1 g.row.L) g.D.Device g.L.Ledger g.L.OpenedOn) =
    office_sync (param 0 g.row.D) g.D.Device c.type_bounds.send-D (param 1 g.row.L) g.L.Ledger
    g.L.OpenedOn c.type_bounds.send-L in
    let runtime = c.type_bounds.sync-R in
    search (crosses, sendable) depth 30 fits 20000
