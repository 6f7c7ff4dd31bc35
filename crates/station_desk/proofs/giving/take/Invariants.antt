-- What was taken so far, one request a round.
use Rattle.std.proofs.Common.{◌≡◌, length}
use Rattle.station_desk.proofs.Taking.{Taking}
use Rattle.station_desk.proofs.giving.take.Given as goal

abbrev pub invariant-loop : goal.invariant-loop
invariant-loop l = record {
  taking : Taking l.fn.asks l.asks l.fn.held l.held;
  count : length l.held ≡ l.counter;
}
