use Rattle.std.proofs.Common.{◌≡◌, ◌+◌, ◌∙◌, List, [], ◌∷◌, ◌++◌, take, All, sym, ap, subst}
use Rattle.std.specs.List.{AllZip}
use Rattle.std.proofs.lemmas.List.{take_more}
use Rattle.std.proofs.lemmas.List.Elements.{All-push}
use Rattle.turn_ledger.specs.declared.entry.Entry.{Entry}
use Rattle.station_desk.specs.Rings.{FeedState, DeskState, AreTogether}
use Rattle.office_day.specs.HandedIn.{HasHandedIn, IsFresh}
use Rattle.office_day.proofs.Lists.{AllZip-more}
use Rattle.office_day.proofs.handing_in.hand_in_all.Goals as goal

pub loop-entries-preserved : goal.loop-entries-preserved
loop-entries-preserved c =
    let at = c.loop-entries in
    let feed = c.in_ok-feed.feed in
    let desk = c.in_ok-feed.desk in
    let held = c.args.held.now in
    let entries = c.entries-item.result in
    let feeds : c.push.new.self.items ≡ at.feeds.items ++ feed ∷ [] = c.in_ok-push.ensures.items in
    let desks : c.push-in-loop-entries.new.self.items ≡ at.desks.items ++ desk ∷ [] =
    c.in_ok-push-2.ensures.items in
    let more : take (at.entries-index + 1) held ≡ take at.entries-index held ++ entries ∷ [] =
    take_more held at.entries-index entries c.loop-entries-test.true
    ∙ ap (λ (e : List Entry). take at.entries-index held ++ e ∷ []) (sym c.entries-item.is) in
    record {
      handed_in = subst (λ (l : List (List Entry)). AllZip HasHandedIn l c.push.new.self.items)
          (sym more)
          (subst (λ (l : List FeedState).
          AllZip HasHandedIn (take at.entries-index held ++ entries ∷ []) l) (sym feeds)
          (AllZip-more HasHandedIn (take at.entries-index held) at.feeds.items entries feed
          at.invariant.handed_in c.in_ok-feed.ensures.handed_in));
      together = subst
          (λ (l : List FeedState). AllZip AreTogether l c.push-in-loop-entries.new.self.items)
          (sym feeds)
          (subst (λ (l : List DeskState). AllZip AreTogether (at.feeds.items ++ feed ∷ []) l)
          (sym desks)
          (AllZip-more AreTogether at.feeds.items at.desks.items feed desk at.invariant.together
          c.in_ok-feed.ensures.together));
      fresh = subst (λ (l : List DeskState). All IsFresh l) (sym desks)
          (All-push IsFresh at.desks.items desk at.invariant.fresh c.in_ok-feed.ensures.fresh);
    }
