use Rattle.std.specs.Prelude.{List, map}
use Rattle.std.proofs.Common.{rules, sym, ◌∙◌, ap, subst}
use Rattle.std.proofs.Math.Logic.{∥∥₁_map}
use Rattle.rtrb.specs.Ring.{sent, received}
use Rattle.station_desk.specs.Messages.{entries_of}
use Rattle.office_sessions.specs.declared.responses.Response.{Response}
use Rattle.office_sessions.specs.Conversation.{is_answer, response_of}
use Rattle.office_sessions.specs.Exchange.{IsAnswering}
use Rattle.station_desk.specs.declared.messages.Ask.{Ask}
use Rattle.office_sessions.specs.Replies.{IsToldBy, IsLearned}
use Rattle.office_sessions.proofs.Exchanges.{answering-collected, answering-still}
use Rattle.office_sessions.proofs.Exchanges.{an-answer, more-answers}
use Rattle.office_sessions.proofs.ToldBy.{told-more, learned-told, learned-raised, told-answer}
use Rattle.office_sessions.proofs.session.Session.collect.Goals as goal

pub invariant_of-self-in-loop-clause-answered : goal.invariant_of-self-in-loop-clause-answered
invariant_of-self-in-loop-clause-answered g c =
    let old = c.loop.self in
    let new = c.collect.new.self in
    ∥∥₁_map old.answered (λ was.
    subst (λ (asked : List Ask). IsAnswering (received old.messages)
    (sent c.push_reserved.new.self) (entries_of asked) new.unanswered old.next old.search)
    (sym c.collect.ensures.asked)
    (answering-collected new.unanswered c.from-response.result c.push_reserved.ensures.sent.0
    (ap is_answer c.from-response.ensures ∙ an-answer c.in-Some.answer)
    (search rules) was))

pub invariant_of-self-in-loop-clause-told : goal.invariant_of-self-in-loop-clause-told
invariant_of-self-in-loop-clause-told g c =
    let old = c.loop.self in
    more-answers (sent old.responses) c.from-response.result c.in-Some.answer
    old.postings.feed.collected c.push_reserved.ensures.sent.0 c.from-response.ensures old.told
    c.in-Some.ensures.collected

pub invariant_of-self-in-loop-clause-told_by : goal.invariant_of-self-in-loop-clause-told_by
invariant_of-self-in-loop-clause-told_by g c =
    let old = c.loop.self in
    told-more old.own (sent old.responses) old.replies c.from-response.result
    c.push_reserved.ensures.sent.0
    ∣ subst (λ (one : Response). IsToldBy old.own one old.replies)
    (sym c.from-response.ensures)
    (told-answer old.own old.replies c.in-Some.answer) ∣₁
    old.told_by

pub invariant_of-self-in-loop-clause-learned : goal.invariant_of-self-in-loop-clause-learned
invariant_of-self-in-loop-clause-learned g c =
    let old = c.loop.self in
    let new = c.collect.new.self in
    let heard = old.replies in
    let entries = entries_of old.postings.feed.asked in
    ∥∥₁_map old.learned (λ so.
    subst (λ (asked : List Ask). IsLearned old.own heard (sent c.push_reserved.new.self)
    (entries_of asked) new.posted old.earlier) (sym c.collect.ensures.asked)
    (learned-told old.own heard (sent old.responses) c.from-response.result entries new.posted
    old.earlier c.push_reserved.ensures.sent.0
    (learned-raised old.own heard (sent old.responses) entries old.postings.posted new.posted
    old.earlier c.collect.ensures.never_falls so)))

pub invariant_of-self-clause-learned : goal.invariant_of-self-clause-learned
invariant_of-self-clause-learned g c =
    let old = c.loop.self in
    let new = c.collect.new.self in
    let heard = old.replies in
    ∥∥₁_map old.learned (λ so.
    subst (λ (asked : List Ask). IsLearned old.own heard (sent old.responses)
    (entries_of asked) new.posted old.earlier) (sym c.collect.ensures.asked)
    (learned-raised old.own heard (sent old.responses) (entries_of old.postings.feed.asked)
    old.postings.posted new.posted old.earlier c.collect.ensures.never_falls so))

pub invariant_of-self-clause-answered : goal.invariant_of-self-clause-answered
invariant_of-self-clause-answered g c =
    answering-still (ap entries_of c.collect.ensures.asked)
    (c.collect.ensures.none c.in_default.is).1 c.loop.self.answered

pub invariant_of-self-clause-told : goal.invariant_of-self-clause-told
invariant_of-self-clause-told g c =
    c.loop.self.told ∙ ap (map response_of) (sym (c.collect.ensures.none c.in_default.is).0)
