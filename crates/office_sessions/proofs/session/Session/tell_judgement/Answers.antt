use Rattle.std.specs.Prelude.{ℕ, Option, None, refl}
use Rattle.std.proofs.Common.{sym, ◌∙◌, subst}
use Rattle.std.proofs.Math.Logic.{∥∥₁_map}
use Rattle.rtrb.specs.Ring.{sent, received}
use Rattle.station_desk.specs.Messages.{entries_of}
use Rattle.office_sessions.specs.declared.messages.Message.{Message}
use Rattle.office_sessions.specs.declared.responses.Response.TheVariants as response
use Rattle.office_sessions.specs.Exchange.{IsAnswering}
use Rattle.office_sessions.proofs.Exchanges.{answering-judged, other-answers}
use Rattle.office_sessions.proofs.ToldBy.{told-more, learned-told}
use Rattle.office_sessions.proofs.session.Session.tell_judgement.Goals as goal

pub invariant_of-self-clause-answered : goal.invariant_of-self-clause-answered
invariant_of-self-clause-answered g c =
    let old = c.args.self.now in
    let said = received old.messages in
    let asked = entries_of old.postings.feed.asked in
    subst (λ (unanswered : ℕ). ∥ IsAnswering said (sent c.push_reserved.new.self) asked unanswered
    None old.search ∥₁) (sym c.requires.behind)
    (∥∥₁_map old.answered (λ was.
    answering-judged c.args.entry c.args.judgement c.push_reserved.ensures.sent.0
    (subst (λ (next : Option Message). IsAnswering said (sent old.responses) asked 0 next
    old.search) c.requires.next
    (subst (λ (unanswered : ℕ). IsAnswering said (sent old.responses) asked unanswered old.next
    old.search) c.requires.behind was))))

pub invariant_of-self-clause-told : goal.invariant_of-self-clause-told
invariant_of-self-clause-told g c =
    other-answers (sent c.args.self.now.responses) (response.Judged c.args.entry c.args.judgement)
    c.push_reserved.ensures.sent.0 refl ∙ c.args.self.now.told

pub invariant_of-self-clause-told_by : goal.invariant_of-self-clause-told_by
invariant_of-self-clause-told_by g c =
    let old = c.args.self.now in
    told-more old.own (sent old.responses) old.replies
    (response.Judged c.args.entry c.args.judgement) c.push_reserved.ensures.sent.0 c.requires.by
    old.told_by

pub invariant_of-self-clause-learned : goal.invariant_of-self-clause-learned
invariant_of-self-clause-learned g c =
    let old = c.args.self.now in
    ∥∥₁_map old.learned
    (learned-told old.own old.replies (sent old.responses)
    (response.Judged c.args.entry c.args.judgement) (entries_of old.postings.feed.asked)
    old.postings.posted old.earlier c.push_reserved.ensures.sent.0)
