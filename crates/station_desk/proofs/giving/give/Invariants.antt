-- The requests so far have their answers, and each took a place.
use Rattle.std.proofs.Common.{◌≡◌, ◌+◌, ◌++◌, take}
use Rattle.rtrb.specs.Ring.{sent, known_free, SameProducer}
use Rattle.station_desk.specs.Messages.{answers_to}
use Rattle.station_desk.specs.Outcomes.{outcomes_of}
use Rattle.station_desk.proofs.giving.give.Given as goal

abbrev pub invariant-loop-place : goal.invariant-loop-place
invariant-loop-place l = record {
  ring : SameProducer l.initial.answers l.answers;
  given : sent l.answers
      ≡ sent l.initial.answers ++ answers_to (take l.place l.asks) (outcomes_of l.turn);
  free : known_free l.initial.answers ≡ known_free l.answers + l.place;
}
