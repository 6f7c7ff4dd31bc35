use Rattle.std.proofs.Common.{arith, get_or, ap, ◌∙◌, rules}
use Rattle.std.specs.Option.{option_map}
use Rattle.std.proofs.lemmas.Option.{slice_get-get_or, slice_get-map}
use Rattle.rtrb.specs.Ring.{sent}
use Rattle.turn_ledger.specs.declared.entry.Entry.TheVariants.{Deposit}
use Rattle.station_desk.specs.declared.messages.Ask.{Ask}
use Rattle.station_desk.specs.declared.messages.Outcome.TheVariants.{Undecided}
use Rattle.station_desk.specs.Outcomes.{undecided}
use Rattle.station_desk.proofs.Answered.{Next, given-next}
use Rattle.station_desk.proofs.giving.give_undecided.Goals as goal

pub loop-ask-preserved : goal.loop-ask-preserved
loop-ask-preserved c =
    let now = c.loop-ask.answers in
    let after = c.push_reserved.new.self in
    let asks = c.args.asks.now in
    let place = c.loop-ask.ask-index in
    let filler : Ask = record { ticket = 0; entry = Deposit 0 0 0 } in
    let here = slice_get-get_or asks place filler c.loop-ask-test.true in
    let next : Next asks (undecided asks) place = record {
      ask = get_or asks place filler;
      outcome = Undecided;
      here = here;
      there = slice_get-map (λ (ask : Ask). Undecided) asks place
          ∙ ap (option_map (λ (ask : Ask). Undecided)) here;
    } in
    record {
      ring = search rules;
      given = given-next (sent c.args.answers.now) (sent now) (sent after) asks (undecided asks)
          place next c.loop-ask.invariant.given
          (rw (← c.answered.ensures) c.push_reserved.ensures.sent.0);
      free = omega (arith, c.loop-ask.invariant.free, c.push_reserved.ensures.sent.1);
    }
