-- The requests so far have their answers, and each took a place.
use Rattle.std.proofs.Common.{◌≡◌, ◌+◌, ◌++◌, take}
use Rattle.rtrb.specs.Ring.{sent, known_free, SameProducer}
use Rattle.station_desk.specs.Messages.{answers_to}
use Rattle.station_desk.specs.Outcomes.{undecided}
use Rattle.station_desk.proofs.giving.give_undecided.Given as goal

abbrev pub invariant-loop-ask : goal.invariant-loop-ask
invariant-loop-ask l = record {
  ring : SameProducer l.initial.answers l.answers;
  given : sent l.answers
      ≡ sent l.initial.answers ++ answers_to (take l.ask-index l.asks) (undecided l.asks);
  free : known_free l.initial.answers ≡ known_free l.answers + l.ask-index;
}
