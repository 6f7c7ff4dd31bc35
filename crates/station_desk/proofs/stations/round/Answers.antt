use Rattle.std.proofs.Common.{rules, ◌≡◌, ◌≢◌, ◌<◌, ◌∙◌, [], ◌∷◌, ◌++◌, List, Some, refl, sym, ap}
use Rattle.std.proofs.Common.{subst}
use Rattle.std.proofs.lemmas.List.{append-nil}
use Rattle.std.proofs.lemmas.List.Elements.{All-nil, All-cons}
use Rattle.turn_ledger.specs.declared.entry.Entry.{Entry}
use Rattle.turn_clerk.specs.declared.turns.Turn.{Turn as TheTurn}
use Rattle.turn_clerk.specs.declared.refusals.TurnRefusal.TheVariants.{Device}
use Rattle.line_lock.specs.Seat.{WasAcknowledged}
use Rattle.line_lock.specs.declared.refusals.WithinRefusal.TheVariants.{Turn}
use Rattle.station_desk.specs.Rings.{DeskState}
use Rattle.station_desk.specs.Served.{HasServed}
use Rattle.station_desk.specs.ServedLaws.{served-nothing, served-gathered, served-settled}
use Rattle.station_desk.specs.ServedLaws.{served-given_up}
use Rattle.station_desk.proofs.stations.round.Goals as goal

pub returns-in-Ok-clause-worked : goal.returns-in-Ok-clause-worked
returns-in-Ok-clause-worked g c =
    let old = c.args.desk.now in
    let mid = c.gather-entries.follows.lender-at-none in
    let gathered = c.gather-entries.follows.holds-at-none in
    let told = c.in-Ok.ensures.told in
    let turn : TheTurn = c.newest.result.now in
    let is : turn ≡ c.in-Ok.field-0.turn.value =
    c.newest.ensures c.args.seat.now.turns c.in-Ok.field-0.turn.value told.listed in
    let acknowledged = WasAcknowledged g.D.Device.state g.L.OpenedOn.device g.L.OpenedOn.line in
    let far : HasServed old mid [] [] =
    served-gathered old old mid [] [] (served-nothing old) gathered.0 in
    record {
      turns = turn ∷ [];
      given_up = [];
      station = c.take_turn_within.ensures.told.station;
      listed = told.listed ∙ ap (λ (t : TheTurn). c.args.seat.now.turns ++ t ∷ []) (sym is);
      within = All-cons (λ (t : TheTurn). t.index < c.args.moves) turn []
          (subst (λ (t : TheTurn). t.index < c.args.moves) (sym is) c.in-Ok.ensures.within)
          (All-nil (λ (t : TheTurn). t.index < c.args.moves));
      acknowledged = All-cons acknowledged turn [] (subst acknowledged (sym is) told.acknowledged)
          (All-nil acknowledged);
      served = served-settled old mid c.settle.new.self [] turn far
          (ap (λ (t : TheTurn). t.entries) is ∙ told.asked ∙ gathered.1) c.settle.ensures.answered;
      undecided = λ not. refl;
      nothing_held = λ failed. absurd (cc);
      counted = λ failed. absurd (cc);
      none_failed = λ not. told.not_failed (λ failed. absurd (cc));
      asked = λ failed. absurd (cc);
      not_asked = λ not. told.not_undecided (λ failed. absurd (cc));
    }

pub returns-then-ne-clause-worked : goal.returns-then-ne-clause-worked
returns-then-ne-clause-worked g c =
    let old = c.args.desk.now in
    let mid = c.gather-entries.follows.lender-at-none in
    let gathered = c.gather-entries.follows.holds-at-none in
    let another : c.in-Err.refusal ≢ Turn Device = search rules in
    record {
      turns = [];
      given_up = [];
      station = c.take_turn_within.ensures.told.station;
      listed = c.in-Err.ensures.told.not_listed ∙ sym (append-nil c.args.seat.now.turns);
      within = All-nil (λ (t : TheTurn). t.index < c.args.moves);
      acknowledged = All-nil
          (WasAcknowledged g.D.Device.state g.L.OpenedOn.device g.L.OpenedOn.line);
      served = served-gathered old old mid [] [] (served-nothing old) gathered.0;
      undecided = λ not. refl;
      nothing_held = λ failed. absurd (another cc);
      counted = λ failed. absurd (another cc);
      none_failed = λ not. c.in-Err.ensures.told.not_failed (λ failed. another cc);
      asked = λ failed. absurd (another cc);
      not_asked = λ not. c.in-Err.ensures.told.not_undecided (λ failed. another cc);
    }

pub returns-clause-worked : goal.returns-clause-worked
returns-clause-worked g c =
    let old = c.args.desk.now in
    let mid = c.gather-entries.follows.lender-at-none in
    let gathered = c.gather-entries.follows.holds-at-none in
    let device : c.in-Err.refusal ≡ Turn Device = search rules in
    record {
      turns = [];
      given_up = mid.held;
      station = c.take_turn_within.ensures.told.station;
      listed = c.in-Err.ensures.told.not_listed ∙ sym (append-nil c.args.seat.now.turns);
      within = All-nil (λ (t : TheTurn). t.index < c.args.moves);
      acknowledged = All-nil
          (WasAcknowledged g.D.Device.state g.L.OpenedOn.device g.L.OpenedOn.line);
      served = served-given_up old mid c.give_up.new.self []
          (served-gathered old old mid [] [] (served-nothing old) gathered.0) c.give_up.ensures;
      undecided = λ not. absurd (not cc);
      nothing_held = λ failed. ap (λ (desk : DeskState). desk.held) c.give_up.ensures;
      counted = λ failed. c.in-Err.ensures.told.failed cc;
      none_failed = λ not. absurd (not cc);
      asked = λ failed. c.in-Err.ensures.told.undecided (cc)
          ∙ ap (λ (entries : List Entry). Some entries) gathered.1;
      not_asked = λ not. absurd (not cc);
    }
