use Rattle.std.proofs.Common.{◌≡◌, ◌++◌, [], length, arith, sym}
use Rattle.std.proofs.lemmas.List.{length-map}
use Rattle.rtrb.specs.Ring.{sent, received}
use Rattle.station_desk.specs.declared.messages.Ask.{Ask}
use Rattle.station_desk.specs.declared.messages.Outcome.TheVariants.{Undecided}
use Rattle.station_desk.specs.Messages.{asks_of, answers_to}
use Rattle.station_desk.specs.Outcomes.{undecided}
use Rattle.station_desk.proofs.Answered.{all_answered}
use Rattle.station_desk.proofs.desk_end.Desk.give_up.Goals as goal

pub invariant_of-self : goal.invariant_of-self
invariant_of-self c =
    let desk = c.self.inside in
    let asks = c.asks.result.now in
    let each : length desk.held ≡ length (undecided desk.held) =
    sym (length-map desk.held (λ (ask : Ask). Undecided)) in
    let taken : received desk.asks
    ≡ asks_of (sent desk.answers ++ answers_to asks (undecided asks)) ++ [] =
    rw c.asks.ensures
    (all_answered (received desk.asks) (sent desk.answers) desk.held (undecided desk.held) each
    c.self.invariant.0) in
    rw (c.clear.ensures, c.give_undecided.ensures.given) (taken, omega arith, omega arith)
