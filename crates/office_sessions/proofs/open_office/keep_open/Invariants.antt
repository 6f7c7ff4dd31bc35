use Rattle.office_day.specs.Spans.{rest_of}
use Rattle.office_sessions.specs.Right.{WasReported}
use Rattle.office_sessions.proofs.Ahead.{reported-ahead}
use Rattle.office_sessions.proofs.open_office.keep_open.Given as goal

-- the reports that are right of this office
abbrev pub ghosts-keep_named : goal.ghosts-keep_named
ghosts-keep_named g a = record {
  reports = WasReported g.D.Device.state a.moves (rest_of a.clerk);
  ahead = reported-ahead g.D.Device.state a.moves (rest_of a.clerk);
}
