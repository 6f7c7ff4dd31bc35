use Rattle.std.specs.Prelude.{[], not}
use Rattle.std.proofs.Common.{sym, ◌∙◌, subst}
use Rattle.std.proofs.lemmas.Bool.{true≢false}
use Rattle.office_sessions.specs.Conversation.{ConversationState}
use Rattle.office_sessions.specs.Over.{IsEnding}
use Rattle.office_sessions.proofs.LateExchanges.{ending-closed, ending-unanswered, ending-either}
use Rattle.office_sessions.proofs.conversation.Conversation.refuse.Goals as goal

pub returns-then-not-is_open-clause-ends : goal.returns-then-not-is_open-clause-ends
returns-then-not-is_open-clause-ends c =
    λ feed heard ending.
    ending-closed feed heard c.args.self.now _
    (λ is. true≢false (sym (c.is_open.ensures.1 is) ∙ c.if-not-is_open.true)) ending

pub returns-in-Some-clause-ends : goal.returns-in-Some-clause-ends
returns-in-Some-clause-ends c =
    λ feed heard ending.
    subst (λ (k : ConversationState).
    IsEnding [] feed heard (record k { is_silent = not c.hand_on.result })) (sym c.self.view_is)
    (ending-either feed heard c.args.self.now c.hand_on.new.self c.args.message.now
    c.in-Some.response c.hand_on.result c.hand_on.ensures.told c.hand_on.ensures.untold
    (sym c.late_answer.ensures ∙ c.in-Some.is) (c.is_open.ensures.0 c.if-not-is_open.false)
    ending)

pub returns-in_default-clause-ends : goal.returns-in_default-clause-ends
returns-in_default-clause-ends c =
    λ feed heard ending.
    ending-unanswered feed heard c.args.self.now c.args.message.now
    (sym c.late_answer.ensures ∙ c.in_default.is) (c.is_open.ensures.0 c.if-not-is_open.false)
    ending
