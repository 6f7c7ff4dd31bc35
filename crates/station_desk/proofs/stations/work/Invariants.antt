use Rattle.line_lock.specs.Seat.{WasAcknowledged}
use Rattle.station_desk.specs.Worked.{HasWorked}
use Rattle.station_desk.proofs.stations.work.Given as goal

-- the rounds so far, in none of which the device failed
abbrev pub invariant-loop : goal.invariant-loop
invariant-loop g l =
    HasWorked (WasAcknowledged g.D.Device.state g.L.OpenedOn.device g.L.OpenedOn.line)
    l.initial.seat l.seat l.initial.desk l.desk l.moves ⊥
