use Rattle.std.proofs.Common.{rules, ◌≡◌, None, List, refl, sym, subst}
use Rattle.std.proofs.lemmas.List.{take_all}
use Rattle.std.proofs.lemmas.List.Elements.{All-more}
use Rattle.office_day.specs.declared.reconciled.StationDay.{StationDay}
use Rattle.office_service.specs.Ends.{NoneWasRefused, reason_of}
use Rattle.office_service.proofs.ending.refusal_of.Goals as goal

pub returns-in-Some-clause-refused : goal.returns-in-Some-clause-refused
returns-in-Some-clause-refused c = record {
  day = c.day-item.result;
  among = (c.loop-day.day-index, c.loop-day-test.true, sym c.day-item.is);
  reason = c.in-Some.refusal;
  refused = search rules;
  tells = refl;
}

pub loop-day-preserved : goal.loop-day-preserved
loop-day-preserved c =
    let day = c.day-item.result in
    let none : reason_of day.end ≡ None = search rules in
    All-more (λ (d : StationDay). reason_of d.end ≡ None) c.args.stations.now c.loop-day.day-index
    day c.loop-day-test.true c.loop-day.invariant
    (subst (λ (d : StationDay). reason_of d.end ≡ None) c.day-item.is none)

pub returns-clause-none : goal.returns-clause-none
returns-clause-none c =
    subst (λ (days : List StationDay). NoneWasRefused days)
    (take_all c.loop-day.day-index c.args.stations.now c.loop-day-test.false)
    c.loop-day.invariant
