use Rattle.std.proofs.Common.{◌≡◌, ◌++◌, [], length, arith, ap, sym, ◌∙◌}
use Rattle.rtrb.specs.Ring.{sent, received}
use Rattle.station_desk.specs.Messages.{entries_of, asks_of, answers_to}
use Rattle.station_desk.specs.MessageLaws.{length-entries_of}
use Rattle.station_desk.specs.Rings.{DeskState}
use Rattle.station_desk.specs.Outcomes.{outcomes_of}
use Rattle.station_desk.specs.OutcomeLaws.{length-outcomes_of, outcomes-decided}
use Rattle.station_desk.proofs.Answered.{all_answered}
use Rattle.station_desk.proofs.desk_end.Desk.settle.Goals as goal

pub invariant_of-self : goal.invariant_of-self
invariant_of-self c =
    let desk = c.self.inside in
    let turn = c.args.turn.now in
    let asks = c.asks.result.now in
    let held_of : turn.entries ≡ entries_of desk.held =
    c.requires ∙ ap (λ (desk : DeskState). entries_of desk.held) (sym c.self.view_is) in
    let each : length desk.held ≡ length (outcomes_of turn) =
    sym (length-outcomes_of turn ∙ ap length held_of ∙ length-entries_of desk.held) in
    let taken : received desk.asks
    ≡ asks_of (sent desk.answers ++ answers_to asks (outcomes_of turn)) ++ [] =
    rw c.asks.ensures
    (all_answered (received desk.asks) (sent desk.answers) desk.held (outcomes_of turn) each
    c.self.invariant.0) in
    rw (c.clear.ensures, c.give.ensures.given) (taken, omega arith, omega arith)

pub returns-clause-decided : goal.returns-clause-decided
returns-clause-decided c =
    outcomes-decided c.args.turn.now.posted c.args.turn.now.verdicts
    c.args.turn.now.posted_if_accepted
