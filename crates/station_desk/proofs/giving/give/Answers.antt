use Rattle.std.proofs.Common.{arith, get_or, rules}
use Rattle.std.proofs.lemmas.Option.{slice_get-get_or}
use Rattle.rtrb.specs.Ring.{sent}
use Rattle.turn_ledger.specs.declared.entry.Entry.TheVariants.{Deposit}
use Rattle.station_desk.specs.declared.messages.Ask.{Ask}
use Rattle.station_desk.specs.Outcomes.{outcomes_of}
use Rattle.station_desk.proofs.Answered.{Next, given-next}
use Rattle.station_desk.proofs.giving.give.Goals as goal

pub loop-place-preserved : goal.loop-place-preserved
loop-place-preserved c =
    let now = c.loop-place.answers in
    let after = c.push_reserved.new.self in
    let place = c.loop-place.place in
    let asks = c.args.asks.now in
    let outcomes = outcomes_of c.args.turn.now in
    let filler : Ask = record { ticket = 0; entry = Deposit 0 0 0 } in
    let next : Next asks outcomes place = record {
      ask = get_or asks place filler;
      outcome = c.outcome_at.result;
      here = slice_get-get_or asks place filler c.loop-place-test.true;
      there = c.outcome_at.ensures;
    } in
    record {
      ring = search rules;
      given = given-next (sent c.args.answers.now) (sent now) (sent after) asks outcomes place next
          c.loop-place.invariant.given
          (rw (← c.answered.ensures) c.push_reserved.ensures.sent.0);
      free = omega (arith, c.loop-place.invariant.free, c.push_reserved.ensures.sent.1);
    }
