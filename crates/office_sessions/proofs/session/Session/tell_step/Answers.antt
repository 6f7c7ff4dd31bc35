use Rattle.std.specs.Prelude.{Option}
use Rattle.std.proofs.Common.{sym, subst}
use Rattle.std.proofs.Math.Logic.{∥∥₁_map}
use Rattle.rtrb.specs.Ring.{sent, received}
use Rattle.station_desk.specs.Messages.{entries_of}
use Rattle.office_sessions.specs.declared.messages.Message.{Message}
use Rattle.office_sessions.specs.declared.search.Search.{Search}
use Rattle.office_sessions.specs.Exchange.{IsAnswering}
use Rattle.office_sessions.proofs.Exchanges.{answering-same}
use Rattle.office_sessions.proofs.ToldBy.{searched-by}
use Rattle.office_sessions.proofs.session.Session.tell_step.Goals as goal

pub tell_record-requires-clause-searched : goal.tell_record-requires-clause-searched
tell_record-requires-clause-searched g c =
    let old = c.args.self.now in
    searched-by old.replies c.args.found old.search c.go_on-step.new.self
    c.go_on-step.ensures.on c.go_on-step.ensures.failed c.requires.last old.searched

pub invariant_of-self-clause-answered : goal.invariant_of-self-clause-answered
invariant_of-self-clause-answered g c =
    let old = c.args.self.now in
    let So : Search → Option Message → Type 0 =
    λ search next. IsAnswering (received old.messages) (sent old.responses)
    (entries_of old.postings.feed.asked) old.postings.unanswered next search in
    ∥∥₁_map old.answered (λ was.
    subst (So c.go_on-step.new.self) (sym c.requires.next)
    (answering-same old.search c.go_on-step.new.self c.in-UnderWay.ensures.counts.0
    c.in-UnderWay.ensures.counts.1 (c.in-UnderWay.ensures.ahead c.requires.ahead)
    (subst (So old.search) c.requires.next was)))

pub invariant_of-self-clause-searched : goal.invariant_of-self-clause-searched
invariant_of-self-clause-searched g c =
    let old = c.args.self.now in
    searched-by old.replies c.args.found old.search c.go_on-step.new.self
    c.go_on-step.ensures.on c.go_on-step.ensures.failed c.requires.last old.searched
