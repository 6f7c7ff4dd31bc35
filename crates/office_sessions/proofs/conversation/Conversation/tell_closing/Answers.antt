use Rattle.std.specs.Prelude.{true}
use Rattle.std.proofs.Common.{sym, subst}
use Rattle.office_sessions.specs.Conversation.{ConversationState}
use Rattle.office_sessions.specs.Over.{IsOver}
use Rattle.office_sessions.proofs.LateExchanges.{over-either, over-told}
use Rattle.office_sessions.proofs.conversation.Conversation.tell_closing.Goals.{then-not-self}
use Rattle.office_sessions.proofs.conversation.Conversation.tell_closing.Goals.{else-not-self}
use Rattle.office_sessions.proofs.conversation.Conversation.tell_closing.Goals as goal

pub returns-clause-over : goal.returns-clause-over
returns-clause-over c =
    λ feed heard ending.
    let is-over : ConversationState → Type 0 =
    λ k. IsOver feed heard (record k { is_silent = true }) in
    subst is-over (sym c.self-2.view_is)
    (elim c.if-not-self.branch [
      | then-not-self w ↦ subst is-over (sym w.self-is)
          (over-either feed heard c.args.self.now w.hand_on.new.self w.hand_on.result
          w.hand_on.ensures.told w.hand_on.ensures.untold ending)
      | else-not-self w ↦ subst is-over (sym w.self-is)
          (over-told feed heard c.args.self.now ending)
    ])
