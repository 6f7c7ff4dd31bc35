use Rattle.std.specs.Prelude.{Option}
use Rattle.std.proofs.Common.{subst}
use Rattle.std.proofs.Math.Logic.{∥∥₁_map}
use Rattle.rtrb.specs.Ring.{sent, received}
use Rattle.station_desk.specs.Messages.{entries_of}
use Rattle.office_sessions.specs.declared.messages.Message.{Message}
use Rattle.office_sessions.specs.Exchange.{IsAnswering}
use Rattle.office_sessions.proofs.Exchanges.{answering-said}
use Rattle.office_sessions.proofs.session.Session.pull.Goals as goal

pub invariant_of-self-clause-answered : goal.invariant_of-self-clause-answered
invariant_of-self-clause-answered g c =
    let old = c.args.self.now in
    ∥∥₁_map old.answered (λ was.
    answering-said c.in-Ok.message c.in-Ok.ensures.ok.0
    (subst (λ (next : Option Message). IsAnswering (received old.messages) (sent old.responses)
    (entries_of old.postings.feed.asked) old.postings.unanswered next old.search)
    c.requires.none was))
