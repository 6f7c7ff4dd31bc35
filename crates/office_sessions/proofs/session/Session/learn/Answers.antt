use Rattle.std.specs.Prelude.{map}
use Rattle.std.proofs.Common.{sym, ◌∙◌, ap, subst, arith}
use Rattle.std.proofs.Math.Logic.{∥∥₁_elim, ∥∥₁_map}
use Rattle.rtrb.specs.Ring.{sent}
use Rattle.station_desk.specs.Messages.{entries_of}
use Rattle.station_desk.specs.Rings.{FeedState}
use Rattle.office_sessions.specs.Conversation.{response_of}
use Rattle.office_sessions.specs.Looked.{earlier_by}
use Rattle.office_sessions.specs.Replies.{HasSeenAll, IsLearned}
use Rattle.office_sessions.specs.declared.session.Earlier.{Earlier}
use Rattle.office_sessions.proofs.Exchanges.{answering-still}
use Rattle.office_sessions.proofs.ToldBy.{once-now, learned-seen, learned-raised, within-more}
use Rattle.office_sessions.proofs.session.Session.learn.Goals as goal

pub invariant_of-self-clause-learned : goal.invariant_of-self-clause-learned
invariant_of-self-clause-learned g c =
    let old = c.args.self.now in
    let seen = c.args.seen in
    let heard = old.replies in
    let told = sent old.responses in
    let posted = c.raise.new.self.posted in
    subst (λ (known : Earlier). ∥ IsLearned old.own heard told
    (entries_of c.raise.new.self.feed.asked) posted known ∥₁) (sym c.by-self.ensures.by)
    (subst (λ (feed : FeedState). ∥ IsLearned old.own heard told (entries_of feed.asked) posted
    (earlier_by seen) ∥₁) (sym c.raise.ensures.feed)
    (∥∥₁_elim c.requires.seen squash₁ (λ looked. ∥∥₁_map old.learned (λ so.
    learned-seen old.own heard told (entries_of old.postings.feed.asked) posted seen
    (subst (λ (known : Earlier). IsLearned old.own heard told
    (entries_of old.postings.feed.asked) old.postings.posted known) c.in-Unlooked.is so)
    (once-now (HasSeenAll old.own seen) heard looked)
    (within-more seen.posting c.greatest.result posted
    (omega (arith, c.raise.ensures.greatest)) c.greatest.ensures.within)))))

pub invariant_of-self-in-OutOfSight-clause-learned :
    goal.invariant_of-self-in-OutOfSight-clause-learned
invariant_of-self-in-OutOfSight-clause-learned g c =
    let old = c.args.self.now in
    let heard = old.replies in
    let told = sent old.responses in
    let posted = c.raise.new.self.posted in
    subst (λ (feed : FeedState). ∥ IsLearned old.own heard told (entries_of feed.asked) posted
    old.earlier ∥₁) (sym c.raise.ensures.feed)
    (∥∥₁_map old.learned
    (learned-raised old.own heard told (entries_of old.postings.feed.asked)
    old.postings.posted posted old.earlier (omega (arith, c.raise.ensures.greatest))))

pub invariant_of-self-clause-answered : goal.invariant_of-self-clause-answered
invariant_of-self-clause-answered g c =
    answering-still (ap (λ (feed : FeedState). entries_of feed.asked) c.raise.ensures.feed)
    c.raise.ensures.unanswered c.args.self.now.answered

pub invariant_of-self-clause-told : goal.invariant_of-self-clause-told
invariant_of-self-clause-told g c =
    c.args.self.now.told
    ∙ ap (λ (feed : FeedState). map response_of feed.collected) (sym c.raise.ensures.feed)

pub invariant_of-self-in-OutOfSight-clause-answered :
    goal.invariant_of-self-in-OutOfSight-clause-answered
invariant_of-self-in-OutOfSight-clause-answered g c =
    answering-still (ap (λ (feed : FeedState). entries_of feed.asked) c.raise.ensures.feed)
    c.raise.ensures.unanswered c.args.self.now.answered

pub invariant_of-self-in-OutOfSight-clause-told : goal.invariant_of-self-in-OutOfSight-clause-told
invariant_of-self-in-OutOfSight-clause-told g c =
    c.args.self.now.told
    ∙ ap (λ (feed : FeedState). map response_of feed.collected) (sym c.raise.ensures.feed)
