-- the device has been read alone, and no kind was that of a damage
use Rattle.std.proofs.Common.{◌≢◌}
use Rattle.sector_device.specs.Crash.{AreLooks}
use Rattle.ledger_drawing.specs.declared.kind.SectorKind.TheVariants.{Damaged}
use Rattle.ledger_drawing.proofs.map.greatest_kind.Given as goal

abbrev pub invariant-loop-sector : goal.invariant-loop-sector
invariant-loop-sector g l =
    let state = g.D.Device.state in
    record {
      looks : AreLooks (state l.initial.device) (state l.device) ⊥;
      not_damaged : l.greatest ≢ Damaged;
    }
