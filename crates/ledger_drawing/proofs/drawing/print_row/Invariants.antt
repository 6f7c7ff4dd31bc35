-- the device has been read alone
use Rattle.sector_device.specs.Crash.{AreLooks}
use Rattle.ledger_drawing.proofs.drawing.print_row.Given as goal

abbrev pub invariant-loop-column : goal.invariant-loop-column
invariant-loop-column g l =
    let state = g.D.Device.state in
    record {
      looks : AreLooks (state l.initial.device) (state l.device) ⊥;
    }
