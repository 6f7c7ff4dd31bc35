use Rattle.std.proofs.Common.{rules, ◌∙◌, sym, subst}
use Rattle.std.proofs.Math.Logic.{∥∥₁_map}
use Rattle.std.specs.Option.{option_to_list}
use Rattle.std.proofs.lemmas.Bool.{true≢false}
use Rattle.rtrb.specs.Ring.{sent}
use Rattle.station_desk.specs.Messages.{entries_of}
use Rattle.station_desk.specs.Rings.{FeedState}
use Rattle.office_sessions.specs.Rising.{AreAbove}
use Rattle.office_sessions.specs.Over.{IsOver, IsEnding}
use Rattle.office_sessions.proofs.LateExchanges.{ending-begins}
use Rattle.office_sessions.proofs.ToldBy.{rise-learned}
use Rattle.office_sessions.proofs.session.Session.end.Goals.{then-is_told_closing}
use Rattle.office_sessions.proofs.session.Session.end.Goals.{else-is_told_closing}
use Rattle.office_sessions.proofs.session.Session.end.Goals as goal

pub returns-clause-over : goal.returns-clause-over
returns-clause-over g c =
    let old = c.args.self in
    let feed = old.postings.feed in
    let begun : IsEnding (option_to_list old.next) feed old.replies c.new-conversation.result =
    subst (IsEnding (option_to_list old.next) feed old.replies) (sym c.new-conversation.ensures)
    (record {
      told = old.told;
      answered = ∥∥₁_map old.answered (λ was.
          let left = ending-begins c.in_ok-unheard.ensures was in
          record {
            were = left.0;
            not_closed = left.1;
            rest = λ _. left.2;
            waiting = λ is. left.3
                (elim c.if-is_told_closing.branch [
                  | then-is_told_closing w ↦ absurd
                      (true≢false (sym w.if-is_told_closing.true ∙ sym w.new-is ∙ is.0))
                  | else-is_told_closing w ↦ let both = sym w.new-is ∙ is.0 in search rules
                ]);
          });
      above = subst (λ (one : FeedState). AreAbove one.asked one.collected) c.into_feed.ensures.feed
          c.into_feed.ensures.above;
      follows = record {
        right = old.told_by;
        rise = ∥∥₁_map old.learned
            (rise-learned old.own old.replies (sent old.responses)
            (entries_of feed.asked) old.postings.posted old.earlier);
      };
    }) in
    subst (λ (one : FeedState). IsOver one old.replies c.tell_closing.new.self)
    (sym c.into_feed.ensures.feed)
    (c.tell_closing.ensures.over feed old.replies
    (c.in_ok-take_late.ensures.ends feed old.replies
    (c.refuse_next.ensures.ends feed old.replies begun)))
