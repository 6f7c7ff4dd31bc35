use Rattle.std.proofs.Common.{◌≡◌, ◌∙◌, List, length, map, sym, ap, subst}
use Rattle.std.specs.List.{AllZip}
use Rattle.std.proofs.lemmas.Slice.Zip.{AllZip-long}
use Rattle.four_state.specs.Configuration.{stations}
use Rattle.station_desk.specs.Rings.{FeedState, AreTogether}
use Rattle.office_day.specs.Spans.{adjourned_to, rest_of, span_of, Span, HasLived}
use Rattle.office_day.proofs.SpanLaws.{abandoned, kept_open, left_together}
use Rattle.office_sessions.specs.Kept.{HandsBack, stands_with}
use Rattle.office_sessions.specs.Conversation.{ConversationState}
use Rattle.office_sessions.specs.Session.{EndsIn, own_of_all, feed_of}
use Rattle.office_sessions.proofs.Heard.{kept_for, left_open}
use Rattle.office_sessions.proofs.open_office.keep_named.Goals as goal

pub settled-requires : goal.settled-requires
settled-requires g c =
    let lived = c.in-Ok-life.ensures.lived in
    let life = c.in-Ok-life.life in
    record {
      together = subst (λ (l : List FeedState). AllZip stands_with l life.left.items)
          (sym c.in-Ok-ended.ensures.feeds)
          (left_together _ _ (map feed_of c.in-Ok.begun.dispatcher.promise.0.value.items)
          (map feed_of c.join.result.items) c.in-Ok.begun.desks.items life.left.items
          c.in-Ok.ensures.together c.join.ensures.rings lived.left);
    }

pub returns-in-Ok-settled-clause-kept : goal.returns-in-Ok-settled-clause-kept
returns-in-Ok-settled-clause-kept g c =
    let lived = c.in-Ok-life.ensures.lived in
    let life = c.in-Ok-life.life in
    let closed = c.in-Ok-settled.closed in
    let told = c.in-Ok-settled.ensures in
    let before = g.K.Keeper.archive c.args.keeper in
    let after = g.K.Keeper.archive c.run_spans-life.new.recess.keeper in
    let begun = c.in-Ok.begun in
    let old = map feed_of begun.dispatcher.promise.0.value.items in
    let new = c.in-Ok-ended.feeds.items in
    let are : new ≡ map feed_of c.join.result.items = c.in-Ok-ended.ensures.feeds in
    let last : span_of life.clerk life.audit ≡ span_of closed.clerk closed.audit =
    λ i. span_of (sym told.clerk i) (sym told.audit i) in
    let many = c.in-Ok.ensures.as_many ∙ c.stations-stations.ensures.count
    ∙ ap stations c.line.ensures in
    let fed : length new ≡ length begun.desks.items =
    ap length are ∙ c.join.ensures.rings.as_many
    ∙ sym (AllZip-long AreTogether old begun.desks.items c.in-Ok.ensures.together) in
    let end : AllZip (EndsIn g.L.OfficeLife.reports) c.join.result.items
    closed.conversations.items =
    subst (λ (l : List ConversationState).
    AllZip (EndsIn g.L.OfficeLife.reports) c.join.result.items l) (sym told.conversations)
    c.in-Ok-ended.ensures.each in
    let kept = kept_open g.D.Device.state c.args.moves (Unit {0}) (rest_of c.args.clerk)
    begun.desks.items (span_of closed.clerk closed.audit) life.left.items new
    closed.stations.items before after
    (subst (λ (span : Span _).
    HasLived g.D.Device.state c.args.moves (Unit {0})
    (adjourned_to c.args.clerk begun.desks.items) span life.left.items before after) last lived)
    c.in-Ok.ensures.fresh many (fed ∙ many) told.stations in
    let own = c.join.ensures.own ∙ c.in-Ok.ensures.own
    ∙ ap (own_of_all c.args.first)
    (c.stations-stations.ensures.count ∙ ap stations c.line.ensures) in
    kept_for g.D.Device.state c.args.moves c.args.first (rest_of c.args.clerk)
    (span_of closed.clerk closed.audit) g.L.OfficeLife.reports begun.desks.items life.left.items
    c.join.result.items new closed.stations.items closed.conversations.items before after kept
    (λ question report. (c.requires.named question report).0) many are (fed ∙ many) end
    told.stations own

-- each report that is right is one that the scheduler hears
pub run_spans-life-requires-clause-heard : goal.run_spans-life-requires-clause-heard
run_spans-life-requires-clause-heard g c =
    λ lifetimes lives spans between behind old new question report asked is.
    (c.requires.named question report).1 (record {
      spans = spans;
      between = between;
      behind = behind;
      old = old;
      new = new;
      is = is;
    })

pub returns-in-Err-life-clause-left : goal.returns-in-Err-life-clause-left
returns-in-Err-life-clause-left g c =
    let broken = c.in-Err-life in
    abandoned g.D.Device.state c.args.moves (rest_of c.args.clerk) c.in-Ok.begun.desks.items
    broken.device broken.refusal broken.ensures.broken_off

pub returns-in_default-clause-left : goal.returns-in_default-clause-left
returns-in_default-clause-left g c =
    let life = c.in-Ok-life.life in
    left_open g.D.Device.state c.args.moves (Unit {0}) (rest_of c.args.clerk)
    c.in-Ok.begun.desks.items (span_of life.clerk life.audit) life.left.items
    c.into_device-in_default.result
    _ _ c.in-Ok-life.ensures.lived (sym c.into_device-in_default.ensures)

pub returns-clause-left : goal.returns-clause-left
returns-clause-left g c =
    let life = c.in-Ok-life.life in
    let told = c.in-Err-settled.ensures in
    subst (HandsBack g.D.Device.state c.args.moves (rest_of c.args.clerk) c.in-Err-settled.device)
    (sym told.unsettled)
    (left_open g.D.Device.state c.args.moves (Unit {0}) (rest_of c.args.clerk)
    c.in-Ok.begun.desks.items (span_of life.clerk life.audit) life.left.items
    c.in-Err-settled.device
    _ _ c.in-Ok-life.ensures.lived (sym told.back))
