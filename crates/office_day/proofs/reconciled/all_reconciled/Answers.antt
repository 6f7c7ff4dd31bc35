use Rattle.std.proofs.Common.{◌≡◌, ◌∙◌, List, [], ◌∷◌, ◌++◌, length, sym, subst}
use Rattle.std.specs.List.{AllZip}
use Rattle.std.proofs.lemmas.Slice.Zip.{AllZip-long}
use Rattle.station_desk.specs.Rings.{FeedState}
use Rattle.office_day.specs.declared.reconciled.StationDay.{StationDay}
use Rattle.office_day.specs.declared.seated.StationRemains.{StationRemains}
use Rattle.office_day.proofs.Lists.{AllZip-more, moved, all_moved}
use Rattle.office_day.proofs.Pairing.{none_left, pair_reconciled, pairs_reconciled, stands_with}
use Rattle.office_day.proofs.reconciled.all_reconciled.Goals as goal

pub loop-feed-preserved : goal.loop-feed-preserved
loop-feed-preserved c =
    let at = c.loop-feed in
    let pair : FeedState × StationRemains = (c.in-Some.feed, c.in-Some.part) in
    let feeds = at.feed-iterator.a.rest.items in
    let left = at.feed-iterator.b.rest.items in
    let days : c.push.new.self.items ≡ at.days.items ++ c.in_ok-reconciled.field-0 ∷ [] =
    c.in_ok-push.ensures.items in
    let feed_taken = c.in-Some.ensures.steps.0.0 in
    let part_taken = c.in-Some.ensures.steps.1.0 in
    record {
      done = subst (λ (l : List StationDay). AllZip pair_reconciled (at.yielded ++ pair ∷ []) l)
          (sym days)
          (AllZip-more pair_reconciled at.yielded at.days.items pair c.in_ok-reconciled.field-0
          at.invariant.done c.in_ok-reconciled.ensures);
      feeds = moved (λ (p : FeedState × StationRemains). p.0) at.yielded pair feeds
          c.next.new.self.a.rest.items c.args.feeds.items at.invariant.feeds feed_taken;
      left = moved (λ (p : FeedState × StationRemains). p.1) at.yielded pair left
          c.next.new.self.b.rest.items
          c.args.left.items at.invariant.left part_taken;
      together = (subst
          (λ (l : List StationRemains).
          AllZip stands_with (c.in-Some.feed ∷ c.next.new.self.a.rest.items) l)
          part_taken
          (subst (λ (l : List FeedState). AllZip stands_with l left) feed_taken
          at.invariant.together)).1;
    }

pub returns : goal.returns
returns c =
    let at = c.loop-feed in
    let feeds = at.feed-iterator.a.rest in
    let left = at.feed-iterator.b.rest in
    let alike : length left.items ≡ length feeds.items =
    AllZip-long stands_with feeds.items left.items at.invariant.together in
    let ended : length feeds.items ≡ 0 =
    none_left feeds.len left.len (length feeds.items) (length left.items) feeds.ok.0 left.ok.0
    alike c.in-None.ensures.steps in
    pairs_reconciled at.yielded c.args.feeds.items c.args.left.items at.days.items
    (all_moved _ feeds.items c.args.feeds.items at.invariant.feeds ended)
    (all_moved _ left.items c.args.left.items at.invariant.left (alike ∙ ended))
    at.invariant.done
