use Rattle.std.proofs.Common.{◌≡◌, length, arith, sym, ap, inl, inr}
use Rattle.std.proofs.lemmas.List.{length_push}
use Rattle.station_desk.specs.declared.messages.Ask.{Ask}
use Rattle.station_desk.proofs.Taking.{Taking, none_taken, one_more_taken, still_taken}
use Rattle.station_desk.proofs.giving.take.Goals as goal

pub loop-init : goal.loop-init
loop-init c = record {
  taking = none_taken c.args.asks.now c.args.held.now;
  count = sym c.len-counter.ensures;
}

pub loop-preserved : goal.loop-preserved
loop-preserved c =
    let ask : Ask = c.in-Ok.ask in
    record {
      taking = one_more_taken c.args.asks.now c.loop.asks c.pop.new.self c.args.held.now c.loop.held
          c.push.new.self ask c.loop.invariant.taking
          (record { ring = c.pop.ensures.ring; taken = c.in-Ok.ensures.ok.0 }) c.push.ensures;
      count = omega (
        arith,
        ap length c.push.ensures,
        length_push c.loop.held ask,
        c.loop.invariant.count,
      );
    }

pub returns-in_default : goal.returns-in_default
returns-in_default c =
    let far : Taking c.args.asks.now c.pop.new.self c.args.held.now c.loop.held =
    still_taken c.args.asks.now c.loop.asks c.pop.new.self c.args.held.now c.loop.held
    c.loop.invariant.taking c.pop.ensures.ring c.in_default.ensures.empty.0 in
    record {
      more = far.more;
      ring = far.ring;
      taken = far.taken;
      held = far.held;
      few = omega (arith, c.loop.invariant.count, c.loop-test.true);
      took_all = inr c.in_default.ensures.empty.1;
    }

pub returns : goal.returns
returns c =
    let far = c.loop.invariant.taking in
    let full : length c.loop.held ≡ c.args.room =
    omega (
      arith,
      c.loop.invariant.count,
      c.loop-test.false,
      c.loop.auto.counter-end,
      c.len-counter.ensures,
      c.requires.room,
    ) in
    record {
      more = far.more;
      ring = far.ring;
      taken = far.taken;
      held = far.held;
      few = omega (arith, full);
      took_all = inl full;
    }
