use Rattle.std.specs.Prelude.{Option}
use Rattle.std.proofs.Common.{sym, subst, arith}
use Rattle.std.proofs.Math.Logic.{∥∥₁_map}
use Rattle.rtrb.specs.Ring.{sent, received}
use Rattle.station_desk.specs.Messages.{entries_of}
use Rattle.office_sessions.specs.declared.messages.Message.{Message}
use Rattle.office_sessions.specs.Exchange.{IsAnswering}
use Rattle.office_sessions.proofs.Exchanges.{answering-begun}
use Rattle.office_sessions.proofs.session.Session.search_for.Goals as goal

pub invariant_of-self-clause-answered : goal.invariant_of-self-clause-answered
invariant_of-self-clause-answered g c =
    let old = c.args.self.now in
    let So : Option Message → Type 0 =
    λ next. IsAnswering (received old.messages) (sent old.responses)
    (entries_of old.postings.feed.asked) old.postings.unanswered next c.of-self.result in
    ∥∥₁_map old.answered (λ was.
    subst So (sym c.requires.next)
    (answering-begun old.search c.of-self.result c.args.reference
    (λ same. omega (arith, c.if-reference.true, c.reference.ensures, same)) c.of-self.ensures.fresh
    (subst (λ (next : Option Message). IsAnswering (received old.messages) (sent old.responses)
    (entries_of old.postings.feed.asked) old.postings.unanswered next old.search)
    c.requires.next was)))

pub invariant_of-self-clause-searched : goal.invariant_of-self-clause-searched
invariant_of-self-clause-searched g c = ∣ c.of-self.ensures.begins _ ∣₁
