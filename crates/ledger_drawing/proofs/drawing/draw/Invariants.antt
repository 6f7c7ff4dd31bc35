-- the device has been read alone
use Rattle.sector_device.specs.Crash.{AreLooks}
use Rattle.ledger_drawing.proofs.drawing.draw.Given as goal

abbrev pub invariant-loop-section : goal.invariant-loop-section
invariant-loop-section g l =
    let state = g.D.Device.state in
    record {
      looks : AreLooks (state l.initial.device) (state l.device) ⊥;
    }
