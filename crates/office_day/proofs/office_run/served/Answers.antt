use Rattle.std.proofs.Common.{◌≡◌, ◌∙◌, length, map, sym, ap, subst}
use Rattle.station_desk.specs.Run.{HaveRun}
use Rattle.office_day.specs.Day.{HaveServed}
use Rattle.office_day.proofs.Served.{have_served, lent_back, of_both}
use Rattle.office_day.proofs.office_run.served.Goals as goal

pub returns : goal.returns
returns g c =
    let stations = c.in_ok-stations.stations in
    let lent = c.as_mut_slice.ensures.value in
    let new = c.run_stations.new.stations in
    let long : length new ≡ stations.len =
    c.run_stations.ensures.as_many ∙ ap length lent ∙ sym stations.ok.0 in
    let ran = subst
    (λ l. HaveRun g.D.Device.state g.L.OpenedOn.device g.L.OpenedOn.line
    c.as_mut_slice.result.now l c.args.moves (g.G.Gate.closes c.args.gate.now))
    (sym (lent_back stations.len new stations.items long)) c.run_stations.ensures in
    of_both (λ seats. seats.items) (λ left. left.items) c.risen.result _ _
    (λ seats left. HaveServed g.D.Device.state g.L.OpenedOn.device g.L.OpenedOn.line
    c.args.seats.items c.args.desks.items seats left c.args.moves
    (g.G.Gate.closes c.args.gate.now))
    c.risen.ensures.seats c.risen.ensures.left
    (have_served c.args.seats.items c.args.desks.items c.as_mut_slice.result.now _ c.args.moves
    (g.G.Gate.closes c.args.gate.now)
    (ap (λ l. map (λ station. station.seat) l) lent ∙ c.in_ok-stations.ensures.seats)
    (ap (λ l. map (λ station. station.desk) l) lent ∙ c.in_ok-stations.ensures.desks)
    ran)
