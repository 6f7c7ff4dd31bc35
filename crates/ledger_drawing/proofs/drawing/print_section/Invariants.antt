-- the device has been read alone
use Rattle.sector_device.specs.Crash.{AreLooks}
use Rattle.ledger_drawing.proofs.drawing.print_section.Given as goal

abbrev pub invariant-loop-row : goal.invariant-loop-row
invariant-loop-row g l =
    let state = g.D.Device.state in
    record {
      looks : AreLooks (state l.initial.device) (state l.device) ⊥;
    }
