-- What a station leaves besides its seat.
use Rattle.station_desk.specs.declared.stations.Station.{Station}
use Rattle.office_day.specs.declared.seated.StationRemains.{StationRemains}

abbrev pub left_of : {X : Type 0} → Station X → StationRemains
left_of station = record { desk = station.desk; end = station.end }
