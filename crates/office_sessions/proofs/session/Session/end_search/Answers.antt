use Rattle.std.specs.Prelude.{ℕ, Option, refl}
use Rattle.std.proofs.Common.{◌∙◌, subst}
use Rattle.std.proofs.Math.Logic.{∥∥₁_map}
use Rattle.rtrb.specs.Ring.{sent, received}
use Rattle.station_desk.specs.Messages.{entries_of}
use Rattle.office_sessions.specs.declared.messages.Message.{Message}
use Rattle.office_sessions.specs.Exchange.{IsAnswering}
use Rattle.office_sessions.proofs.Exchanges.{answering-searched, answering-still, other-answers}
use Rattle.office_sessions.proofs.Exchanges.{no-answer}
use Rattle.office_sessions.proofs.ToldBy.{told-more, learned-told}
use Rattle.office_sessions.proofs.session.Session.end_search.Goals as goal

pub invariant_of-self-clause-answered : goal.invariant_of-self-clause-answered
invariant_of-self-clause-answered g c =
    let old = c.args.self.now in
    answering-still refl c.requires.behind
    (∥∥₁_map old.answered (λ was.
    answering-searched old.search c.of-self.result c.args.last c.push_reserved.ensures.sent.0
    c.requires.counted c.of-self.ensures.fresh
    (subst (λ (next : Option Message). IsAnswering (received old.messages) (sent old.responses)
    (entries_of old.postings.feed.asked) 0 next old.search) c.requires.next
    (subst (λ (unanswered : ℕ). IsAnswering (received old.messages) (sent old.responses)
    (entries_of old.postings.feed.asked) unanswered old.next old.search) c.requires.behind was))))

pub invariant_of-self-clause-told : goal.invariant_of-self-clause-told
invariant_of-self-clause-told g c =
    other-answers (sent c.args.self.now.responses) c.args.last c.push_reserved.ensures.sent.0
    (no-answer c.args.self.now.search.count c.args.last c.requires.counted)
    ∙ c.args.self.now.told

pub invariant_of-self-clause-told_by : goal.invariant_of-self-clause-told_by
invariant_of-self-clause-told_by g c =
    let old = c.args.self.now in
    told-more old.own (sent old.responses) old.replies c.args.last
    c.push_reserved.ensures.sent.0 ∣ c.requires.by ∣₁ old.told_by

pub invariant_of-self-clause-searched : goal.invariant_of-self-clause-searched
invariant_of-self-clause-searched g c = ∣ c.of-self.ensures.begins _ ∣₁

pub invariant_of-self-clause-learned : goal.invariant_of-self-clause-learned
invariant_of-self-clause-learned g c =
    let old = c.args.self.now in
    ∥∥₁_map old.learned
    (learned-told old.own old.replies (sent old.responses) c.args.last
    (entries_of old.postings.feed.asked) old.postings.posted old.earlier
    c.push_reserved.ensures.sent.0)
