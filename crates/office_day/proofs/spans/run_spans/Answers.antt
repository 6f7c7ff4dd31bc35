use Rattle.std.proofs.Common.{All, List, ap, sym, subst}
use Rattle.turn_clerk.specs.Clerk.{ClerkState, present_state}
use Rattle.office_day.specs.declared.seated.StationRemains.{StationRemains}
use Rattle.office_day.specs.Spans.{adjourned_to, rest_of, span_of, IsGoodEnd, IsLeftBy}
use Rattle.office_day.proofs.Archived.{nothing_archived, archived-more}
use Rattle.office_day.proofs.SpanLaws.{nothing_lived, lived, come-further, desks_enough}
use Rattle.office_day.proofs.spans.run_spans.Goals as goal

pub loop-init : goal.loop-init
unfolding nothing_lived
loop-init g c = (
  nothing_lived g.D.Device.state c.args.moves
      (adjourned_to c.args.office.clerk c.args.office.desks.items),
  c.requires.as_many,
  nothing_archived g.D.Device.state c.args.office.clerk.journal.device
      (g.P.Recess.archive c.args.recess.now),
)

pub run_span-requires-clause-as_many : goal.run_span-requires-clause-as_many
run_span-requires-clause-as_many g c κs within = c.loop.invariant.1

pub run_span-requires-clause-heard : goal.run_span-requires-clause-heard
run_span-requires-clause-heard g c κs within =
    let earlier = c.loop.invariant.0 in
    c.requires.heard earlier.spans (rest_of c.loop.office.clerk) earlier.joined

pub returns-in-Err-clause-broken_off : goal.returns-in-Err-clause-broken_off
returns-in-Err-clause-broken_off g c = record {
  before = adjourned_to c.loop.office.clerk c.loop.office.desks.items;
  earlier = c.loop.invariant.0;
  opening = c.in-Err.ensures.opening;
  left = c.in-Err.ensures.given_up;
}

pub returns-then-not-goes_on-clause-lived : goal.returns-then-not-goes_on-clause-lived
returns-then-not-goes_on-clause-lived g c =
    let from = adjourned_to c.args.office.clerk c.args.office.desks.items in
    let before = adjourned_to c.loop.office.clerk c.loop.office.desks.items in
    let life = c.in-Ok.life in
    lived g.D.Device.state c.args.moves _ from before c.loop.invariant.0
    (span_of life.clerk life.audit) life.left.items _ _ c.in-Ok.ensures.closed
    c.in-Ok.ensures.left
    c.loop.invariant.2

pub returns-in-Err-between_spans-clause-broken_off
    : goal.returns-in-Err-between_spans-clause-broken_off
returns-in-Err-between_spans-clause-broken_off g c =
    let closed = c.in-Ok.ensures.closed.closed in
    record {
      before = adjourned_to c.loop.office.clerk c.loop.office.desks.items;
      earlier = c.loop.invariant.0;
      opening = tt;
      left = record {
        clerk = c.in-Ok.life.clerk;
        has = sym c.in-Err-between_spans.ensures.back;
        opened = closed.opened;
        legal = closed.legal;
        acknowledged = λ honest. closed.acknowledged (closed.opened.stays_honest honest);
        at_any_moment = λ honest. closed.at_any_moment (closed.opened.stays_honest honest);
      };
    }

pub loop-preserved : goal.loop-preserved
unfolding come-further
loop-preserved g c =
    let from = adjourned_to c.args.office.clerk c.args.office.desks.items in
    let before = adjourned_to c.loop.office.clerk c.loop.office.desks.items in
    let next = c.in-Ok-between_spans.office in
    let after = adjourned_to next.clerk next.desks.items in
    let life = c.in-Ok.life in
    let span = span_of life.clerk life.audit in
    let made = c.in-Ok-between_spans.ensures in
    let rests : IsLeftBy g.D.Device.state span after.rest = record {
      looked = made.looked;
      line = ap (λ (k : ClerkState _). k.line) made.clerk;
      held = ap present_state made.clerk;
    } in (
      come-further g.D.Device.state c.args.moves _ from before after c.loop.invariant.0 span
          life.left.items c.in-Ok.ensures.closed c.in-Ok.ensures.left
          (subst (λ (l : List StationRemains).
          All (λ (part : StationRemains). IsGoodEnd part.end) l)
          c.as_slice.ensures.value (c.goes_on.ensures.well c.if-not-goes_on.false)) rests
          made.desks,
      desks_enough g.D.Device.state c.args.moves _ before after span life.left.items
          c.loop.invariant.1 c.in-Ok.ensures.closed c.in-Ok.ensures.left rests.line made.desks,
      archived-more g.D.Device.state c.args.moves from.rest.device c.loop.invariant.0.spans
          before.rest span after.rest.device _ _ _
          c.loop.invariant.2 c.in-Ok.ensures.closed made.sound made.looked made.archived,
    )
