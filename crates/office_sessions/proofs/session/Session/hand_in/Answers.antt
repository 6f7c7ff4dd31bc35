use Rattle.std.specs.Prelude.{◌≡◌, ◌⊎◌, ℕ, map, Option}
use Rattle.std.proofs.Common.{sym, ◌∙◌, ap, subst, inl, inr}
use Rattle.std.proofs.Math.Logic.{∥∥₁_map}
use Rattle.rtrb.specs.Ring.{sent, received}
use Rattle.station_desk.specs.Messages.{entries_of}
use Rattle.station_desk.specs.Rings.{FeedState}
use Rattle.office_sessions.specs.declared.messages.Message.{Message}
use Rattle.office_sessions.specs.declared.postings.Submission.{Submission}
use Rattle.office_sessions.specs.declared.postings.Submission.TheVariants as submission
use Rattle.office_sessions.specs.Conversation.{response_of}
use Rattle.office_sessions.specs.Exchange.{IsAnswering}
use Rattle.office_sessions.specs.Replies.{IsLearned}
use Rattle.office_sessions.proofs.Exchanges.{answering-submitted, answering-still}
use Rattle.office_sessions.proofs.ToldBy.{learned-asked}
use Rattle.office_sessions.proofs.session.Session.hand_in.Given.{Over}
use Rattle.office_sessions.proofs.session.Session.hand_in.Goals as goal

pub invariant_of-self-clause-answered : goal.invariant_of-self-clause-answered
invariant_of-self-clause-answered g c =
    let old = c.args.self.now in
    let submitted = c.submit-submission.ensures.submitted c.in-Submitted.is in
    ∥∥₁_map old.answered (λ was.
    answering-submitted c.args.entry submitted.0 submitted.1
    (subst (λ (next : Option Message). IsAnswering (received old.messages) (sent old.responses)
    (entries_of old.postings.feed.asked) old.postings.unanswered next old.search)
    c.requires.next was))

pub invariant_of-self-clause-told : goal.invariant_of-self-clause-told
invariant_of-self-clause-told g c =
    c.args.self.now.told ∙ ap (map response_of) (sym c.submit-submission.ensures.collected)

pub invariant_of-self-clause-learned : goal.invariant_of-self-clause-learned
invariant_of-self-clause-learned g c =
    let old = c.args.self.now in
    let new = c.submit-submission.new.self in
    let heard = old.replies in
    let told = sent old.responses in
    ∥∥₁_map old.learned (λ so.
    subst (λ (posted : ℕ). IsLearned old.own heard told (entries_of new.feed.asked) posted
    old.earlier) (sym c.submit-submission.ensures.posted)
    (learned-asked old.own heard told (entries_of old.postings.feed.asked)
    old.postings.posted old.earlier c.args.entry
    (c.submit-submission.ensures.submitted c.in-Submitted.is).0 c.requires.known
    (c.submit-submission.ensures.is_above (λ not. let is = c.in-Submitted.is in absurd (cc))) so))

-- what wasn't submitted
refused : {what : Submission}
    → (what ≡ submission.NoPlace) ⊎ ((what ≡ submission.NotAbove) ⊎ (what ≡ submission.TooFar))
    → what ≡ submission.Submitted → ⊥
refused (inl is) other = absurd (cc)
refused (inr (inl is)) other = absurd (cc)
refused (inr (inr is)) other = absurd (cc)

-- leaves the feed as it was
same : (g : Over) (c : goal.In-NoPlace g)
    → c.submit-submission.new.self.feed ≡ c.args.self.now.postings.feed
same g c = (c.submit-submission.ensures.not_submitted (refused c.in-NoPlace.is)).0

pub invariant_of-self-in-NoPlace-clause-answered :
    goal.invariant_of-self-in-NoPlace-clause-answered
invariant_of-self-in-NoPlace-clause-answered g c =
    answering-still (ap (λ (feed : FeedState). entries_of feed.asked) (same g c))
    (c.submit-submission.ensures.not_submitted (refused c.in-NoPlace.is)).1
    c.args.self.now.answered

pub invariant_of-self-in-NoPlace-clause-told : goal.invariant_of-self-in-NoPlace-clause-told
invariant_of-self-in-NoPlace-clause-told g c =
    c.args.self.now.told
    ∙ ap (λ (feed : FeedState). map response_of feed.collected) (sym (same g c))

pub invariant_of-self-in-NoPlace-clause-learned : goal.invariant_of-self-in-NoPlace-clause-learned
invariant_of-self-in-NoPlace-clause-learned g c =
    let old = c.args.self.now in
    let heard = old.replies in
    let told = sent old.responses in
    subst (λ (posted : ℕ). ∥ IsLearned old.own heard told
    (entries_of c.submit-submission.new.self.feed.asked) posted old.earlier ∥₁)
    (sym c.submit-submission.ensures.posted)
    (subst (λ (feed : FeedState). ∥ IsLearned old.own heard told (entries_of feed.asked)
    old.postings.posted old.earlier ∥₁) (sym (same g c)) old.learned)
