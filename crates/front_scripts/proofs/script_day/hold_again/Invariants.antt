-- The first stations hold what has no answer, and the others what they held.
use Rattle.std.proofs.Common.{◌≡◌, take, drop}
use Rattle.front_scripts.specs.Day.{unanswered_of}
use Rattle.front_scripts.proofs.script_day.hold_again.Given as goal

abbrev pub invariant-loop-station : goal.invariant-loop-station
invariant-loop-station l = record {
  done : take l.station l.held ≡ unanswered_of (take l.station l.stations);
  others : drop l.station l.held ≡ drop l.station l.fn.held;
}
