use Rattle.std.specs.Prelude.{◌≡◌, List, map}
use Rattle.std.proofs.Common.{sym, subst}
use Rattle.rtrb.specs.Ring.{received}
use Rattle.station_desk.specs.Messages.{entries_of}
use Rattle.office_sessions.specs.Conversation.{answers_among, response_of}
use Rattle.office_sessions.specs.Exchange.{IsAnswering}
use Rattle.office_sessions.specs.Replies.{AreToldBy, IsLearned}
use Rattle.office_sessions.specs.declared.responses.Response.{Response}
use Rattle.office_sessions.proofs.session.Session.take_next.Goals as goal

pub invariant_of-self-clause-answered : goal.invariant_of-self-clause-answered
invariant_of-self-clause-answered g c =
    let old = c.args.self.now in
    subst (λ (told : List Response). ∥ IsAnswering (received old.messages) told
    (entries_of old.postings.feed.asked) old.postings.unanswered old.next old.search ∥₁)
    (sym c.slots.ensures.looked.1) old.answered

pub invariant_of-self-clause-told : goal.invariant_of-self-clause-told
invariant_of-self-clause-told g c =
    let old = c.args.self.now in
    subst (λ (told : List Response).
    answers_among told ≡ map response_of old.postings.feed.collected)
    (sym c.slots.ensures.looked.1) old.told

pub invariant_of-self-clause-told_by : goal.invariant_of-self-clause-told_by
invariant_of-self-clause-told_by g c =
    let old = c.args.self.now in
    subst (λ (told : List Response). AreToldBy old.own told old.replies)
    (sym c.slots.ensures.looked.1) old.told_by

pub invariant_of-self-clause-learned : goal.invariant_of-self-clause-learned
invariant_of-self-clause-learned g c =
    let old = c.args.self.now in
    subst (λ (told : List Response). ∥ IsLearned old.own old.replies told
    (entries_of old.postings.feed.asked) old.postings.posted old.earlier ∥₁)
    (sym c.slots.ensures.looked.1) old.learned
