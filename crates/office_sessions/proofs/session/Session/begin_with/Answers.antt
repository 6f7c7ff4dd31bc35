use Rattle.std.specs.Prelude.{◌≢◌, map, Result, OnOk}
use Rattle.std.proofs.Common.{sym, ◌∙◌, ap, subst, arith}
use Rattle.std.proofs.Math.Logic.{∥∥₁_map}
use Rattle.rtrb.specs.Ring.{sent}
use Rattle.station_desk.specs.Messages.{entries_of}
use Rattle.station_desk.specs.Rings.{FeedState}
use Rattle.turn_clerk.specs.declared.refusals.FindRefusal.{FindRefusal}
use Rattle.office_sessions.specs.Conversation.{response_of}
use Rattle.office_sessions.specs.Replies.{IsLearned}
use Rattle.office_sessions.specs.declared.responses.Response.TheVariants as response
use Rattle.office_sessions.specs.declared.session.Earlier.TheVariants as earlier
use Rattle.office_sessions.proofs.Exchanges.{answering-still}
use Rattle.office_sessions.proofs.ToldBy.{among-last, first-learned, learned-first}
use Rattle.office_sessions.proofs.ToldBy.{looked-learned}
use Rattle.office_sessions.proofs.session.Session.begin_with.Goals as goal

pub respond-told-requires-clause-by : goal.respond-told-requires-clause-by
respond-told-requires-clause-by g c =
    let mid = c.look_back.new.self in
    let looked = subst
    (λ (told : Result (Unit {0}) FindRefusal). OnOk told
    (c.look_back.new.self.earlier ≢ earlier.Unlooked))
    c.in-Some-Ok.field-0-is c.in-Some-Ok.ensures.looked in
    ∥∥₁_map mid.learned
    (first-learned mid.own mid.replies (sent mid.responses)
    (entries_of mid.postings.feed.asked) mid.postings.posted mid.earlier c.args.reference
    looked
    (omega (arith, c.if-reference-greatest.false, c.greatest.ensures)))

pub respond-requires-then-reference-greatest-clause-by :
    goal.respond-requires-then-reference-greatest-clause-by
respond-requires-then-reference-greatest-clause-by g c =
    let mid = c.look_back.new.self in
    let looked = subst
    (λ (told : Result (Unit {0}) FindRefusal). OnOk told
    (c.look_back.new.self.earlier ≢ earlier.Unlooked))
    c.in-Some-Ok.field-0-is c.in-Some-Ok.ensures.looked in
    ∥∥₁_map mid.learned
    (looked-learned mid.own mid.replies (sent mid.responses)
    (entries_of mid.postings.feed.asked) mid.postings.posted mid.earlier looked)

pub invariant_of-self-clause-learned : goal.invariant_of-self-clause-learned
invariant_of-self-clause-learned g c =
    let was = c.look_back.new.self in
    let mid = c.respond-told.new.self in
    let posted = c.raise.new.self.posted in
    let looked = subst
    (λ (told : Result (Unit {0}) FindRefusal). OnOk told
    (c.look_back.new.self.earlier ≢ earlier.Unlooked))
    c.in-Some-Ok.field-0-is c.in-Some-Ok.ensures.looked in
    subst (λ (feed : FeedState). ∥ IsLearned mid.own mid.replies
    (sent mid.responses) (entries_of feed.asked) posted earlier.Known ∥₁)
    (sym c.raise.ensures.feed)
    (∥∥₁_map mid.learned
    (learned-first mid.own mid.replies (sent mid.responses)
    (entries_of mid.postings.feed.asked) mid.postings.posted posted mid.earlier c.args.reference
    (λ unlooked. looked (sym c.respond-told.ensures.keeps.learned.earlier ∙ unlooked))
    (omega (arith, c.raise.ensures.greatest))
    (omega (arith, c.raise.ensures.greatest))
    (among-last (sent was.responses) (response.First c.args.reference)
    c.respond-told.ensures.told)))

pub invariant_of-self-clause-answered : goal.invariant_of-self-clause-answered
invariant_of-self-clause-answered g c =
    answering-still (ap (λ (feed : FeedState). entries_of feed.asked) c.raise.ensures.feed)
    c.raise.ensures.unanswered c.respond-told.new.self.answered

pub invariant_of-self-clause-told : goal.invariant_of-self-clause-told
invariant_of-self-clause-told g c =
    c.respond-told.new.self.told
    ∙ ap (λ (feed : FeedState). map response_of feed.collected) (sym c.raise.ensures.feed)
