use Rattle.std.proofs.Common.{◌∙◌, List, [], ◌∷◌, ◌++◌, sym, subst}
use Rattle.std.specs.List.{AllZip}
use Rattle.std.proofs.lemmas.List.{map-append}
use Rattle.station_desk.specs.Rings.{FeedState}
use Rattle.office_day.proofs.Lists.{AllZip-more}
use Rattle.office_sessions.specs.Conversation.{ConversationState}
use Rattle.office_sessions.specs.Over.{IsOver}
use Rattle.office_sessions.specs.Session.{EndsIn, feed_of}
use Rattle.office_sessions.proofs.open_office.all_ended.Goals as goal

pub loop-session-preserved : goal.loop-session-preserved
loop-session-preserved g c =
    let at = c.loop-session in
    let session = c.in-Some.session in
    let conversation = c.in_ok-feed.conversation in
    let told = c.in_ok-feed.ensures in (
      c.in_ok-push.ensures.items ∙ (λ i. at.invariant.0 i ++ told.feed i ∷ [])
          ∙ sym (map-append feed_of at.yielded (session ∷ [])),
      subst (λ (l : List ConversationState).
          AllZip (EndsIn g.L.OfficeLife.reports) (at.yielded ++ session ∷ []) l)
          (sym c.in_ok-push-2.ensures.items)
          (AllZip-more (EndsIn g.L.OfficeLife.reports) at.yielded at.conversations.items session
          conversation at.invariant.1 (record {
            own = told.own;
            right = told.right;
            over = subst (λ (feed : FeedState). IsOver feed session.replies conversation) told.feed
                told.over;
          })),
    )
