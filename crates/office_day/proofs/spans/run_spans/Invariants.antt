use Rattle.std.proofs.Common.{◌≡◌, length}
use Rattle.four_state.specs.Configuration.{stations}
use Rattle.office_day.specs.Spans.{adjourned_to, HasComeTo, WereArchived}
use Rattle.office_day.proofs.spans.run_spans.Given as goal

-- the spans so far came to the office that is opened next, with a desk for each station, and were
-- archived
abbrev pub invariant-loop : goal.invariant-loop
invariant-loop g l =
    (earlier : HasComeTo g.D.Device.state l.moves
    (adjourned_to l.initial.office.clerk l.initial.office.desks.items)
    (adjourned_to l.office.clerk l.office.desks.items))
    × (length l.office.desks.items ≡ stations l.office.clerk.line)
    × WereArchived g.D.Device.state l.initial.office.clerk.journal.device earlier.spans
    l.office.clerk.journal.device
    (g.P.Recess.archive l.initial.recess) (g.P.Recess.archive l.recess)
