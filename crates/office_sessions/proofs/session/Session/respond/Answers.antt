use Rattle.std.specs.Prelude.{ℕ, None}
use Rattle.std.proofs.Common.{sym, ◌∙◌, subst}
use Rattle.std.proofs.Math.Logic.{∥∥₁_map}
use Rattle.rtrb.specs.Ring.{sent, received}
use Rattle.station_desk.specs.Messages.{entries_of}
use Rattle.office_sessions.specs.Exchange.{IsAnswering}
use Rattle.office_sessions.proofs.Exchanges.{answering-next, other-answers}
use Rattle.office_sessions.proofs.ToldBy.{told-more, learned-told}
use Rattle.office_sessions.proofs.session.Session.respond.Goals as goal

pub invariant_of-self-clause-answered : goal.invariant_of-self-clause-answered
invariant_of-self-clause-answered g c =
    let old = c.args.self.now in
    let heard = received old.messages in
    subst (λ (unanswered : ℕ). ∥ IsAnswering heard (sent c.push_reserved.new.self)
    (entries_of old.postings.feed.asked) unanswered None old.search ∥₁)
    (sym c.requires.behind)
    (∥∥₁_map old.answered (λ was.
    answering-next old.next c.args.response c.push_reserved.ensures.sent.0 c.requires.right
    (subst (λ (unanswered : ℕ). IsAnswering heard (sent old.responses)
    (entries_of old.postings.feed.asked) unanswered old.next old.search) c.requires.behind was)))

pub invariant_of-self-clause-told : goal.invariant_of-self-clause-told
invariant_of-self-clause-told g c =
    other-answers (sent c.args.self.now.responses) c.args.response c.push_reserved.ensures.sent.0
    c.requires.other ∙ c.args.self.now.told

pub invariant_of-self-clause-told_by : goal.invariant_of-self-clause-told_by
invariant_of-self-clause-told_by g c =
    let old = c.args.self.now in
    told-more old.own (sent old.responses) old.replies c.args.response
    c.push_reserved.ensures.sent.0 c.requires.by old.told_by

pub invariant_of-self-clause-learned : goal.invariant_of-self-clause-learned
invariant_of-self-clause-learned g c =
    let old = c.args.self.now in
    ∥∥₁_map old.learned
    (learned-told old.own old.replies (sent old.responses) c.args.response
    (entries_of old.postings.feed.asked) old.postings.posted old.earlier
    c.push_reserved.ensures.sent.0)
