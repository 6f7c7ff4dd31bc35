use Rattle.std.specs.Prelude.{◌≡◌}
use Rattle.std.proofs.Common.{sym, ◌∙◌, ap, subst}
use Rattle.office_sessions.specs.Conversation.{own_question}
use Rattle.office_sessions.specs.declared.look.Look.{Look}
use Rattle.office_sessions.specs.declared.replies.Reply.{Reply}
use Rattle.office_sessions.specs.declared.replies.Reply.TheVariants as reply
use Rattle.office_sessions.specs.Replies.{CameLast, HasLooked, look_begins}
use Rattle.office_sessions.proofs.ToldBy.{looked-by}
use Rattle.office_sessions.proofs.session.Session.look.Goals as goal

pub invariant_of-self-clause-looked : goal.invariant_of-self-clause-looked
invariant_of-self-clause-looked g c =
    let new = c.report.new.self in
    ∣ subst (λ (look : Look). HasLooked new.own new.limit new.replies look)
    (sym c.starting_at-self.ensures.begins) look_begins ∣₁

pub invariant_of-self-else-is_some-clause-looked : goal.invariant_of-self-else-is_some-clause-looked
invariant_of-self-else-is_some-clause-looked g c =
    let new = c.report.new.self in
    let keeps = c.report.ensures.keeps in
    let asked : c.question-question.result ≡ own_question new.own.station new.limit new.look.from =
    c.question-question.ensures
    ∙ sym (λ i. own_question (keeps.learned.own i).station (keeps.limit i)
    (ap (λ (l : Look). l.from) keeps.look i)) in
    looked-by new.own new.limit new.replies c.in-Some-Searched.step new.look
    c.go_on-seen.new.self c.go_on-seen.ensures.meets c.go_on-seen.ensures.failed
    (subst (λ (one : Reply). CameLast one new.replies)
    (λ i. reply.Report (asked i) (c.in-Some-Searched.field-0-is i)) c.in-Some-Searched.ensures.last)
    new.looked
