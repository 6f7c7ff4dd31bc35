use Rattle.std.specs.Prelude.{ℕ, Option, refl}
use Rattle.std.proofs.Common.{subst}
use Rattle.std.proofs.Math.Logic.{∥∥₁_map}
use Rattle.rtrb.specs.Ring.{sent, received}
use Rattle.station_desk.specs.Messages.{entries_of}
use Rattle.office_sessions.specs.declared.messages.Message.{Message}
use Rattle.office_sessions.specs.Exchange.{IsAnswering}
use Rattle.office_sessions.proofs.Exchanges.{answering-ended, answering-still}
use Rattle.office_sessions.proofs.session.Session.end_input.Goals as goal

pub invariant_of-self-clause-answered : goal.invariant_of-self-clause-answered
invariant_of-self-clause-answered g c =
    let old = c.args.self.now in
    answering-still refl c.requires.behind
    (∥∥₁_map old.answered (λ was.
    answering-ended
    (subst (λ (next : Option Message). IsAnswering (received old.messages) (sent old.responses)
    (entries_of old.postings.feed.asked) 0 next old.search) c.requires.next
    (subst (λ (unanswered : ℕ). IsAnswering (received old.messages) (sent old.responses)
    (entries_of old.postings.feed.asked) unanswered old.next old.search) c.requires.behind was))))
