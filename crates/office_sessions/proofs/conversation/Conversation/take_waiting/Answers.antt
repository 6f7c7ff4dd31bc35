use Rattle.std.proofs.Common.{sym, ◌∙◌, ap, subst}
use Rattle.office_sessions.specs.Conversation.{ConversationState, IsSilent}
use Rattle.office_sessions.specs.Over.{IsEnding}
use Rattle.office_sessions.proofs.LateExchanges.{ending-said, silent-more}
use Rattle.office_sessions.proofs.conversation.Conversation.take_waiting.Goals as goal

pub loop-preserved : goal.loop-preserved
loop-preserved c =
    let was = c.loop.invariant in
    record {
      own = c.refuse.ensures.own ∙ ap (λ (k : ConversationState). k.own) c.self.view_is ∙ was.own;
      ends = λ feed heard before.
          c.refuse.ensures.ends feed heard
          (ending-said feed heard _ c.in-Ok.message _ _ c.in-Ok.ensures.ok.0 c.in_ok-list.ensures
          (subst (IsEnding _ feed heard) (sym c.self.view_is) (was.ends feed heard before)));
      silent = λ before.
          let so = was.silent before in
          let mid = silent-more c.self.inside.is_silent c.self.inside.unheard.items
          c.list.new.unheard.items c.in-Ok.message c.in_ok-list.ensures
          (subst IsSilent (sym c.self.view_is) so.0) in
          let same = c.refuse.ensures.silent mid in (
            subst IsSilent (sym same) mid,
            ap (λ (k : ConversationState). k.told) same
                ∙ ap (λ (k : ConversationState). k.told) c.self.view_is ∙ so.1,
          );
    }
