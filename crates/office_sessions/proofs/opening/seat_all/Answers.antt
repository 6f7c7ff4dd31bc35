use Rattle.std.specs.Prelude.{suc}
use Rattle.std.proofs.Common.{◌≡◌, ◌+◌, ◌∙◌, List, [], ◌∷◌, ◌++◌, All, length, map, sym, ap}
use Rattle.std.proofs.Common.{subst, arith}
use Rattle.std.specs.List.{AllZip}
use Rattle.std.proofs.lemmas.List.{length-append, map-append}
use Rattle.std.proofs.lemmas.List.Elements.{All-push}
use Rattle.station_desk.specs.Rings.{FeedState, DeskState, AreTogether}
use Rattle.office_day.specs.HandedIn.{IsFresh}
use Rattle.office_day.proofs.Lists.{AllZip-more}
use Rattle.office_sessions.specs.Session.{feed_of, own_of, own_of_all}
use Rattle.office_sessions.proofs.opening.seat_all.Goals as goal

pub loop-station-preserved : goal.loop-station-preserved
loop-station-preserved g c =
    let at = c.loop-station in
    let session = c.in_ok-session.session in
    let desk = c.in_ok-feed.desk in
    let own : session.postings.feed ≡ c.in_ok-feed.feed = c.in_ok-session.ensures.feed in
    let feeds : map feed_of c.add.new.self.sessions.items
    ≡ map feed_of at.all.sessions.items ++ session.postings.feed ∷ [] =
    ap (map feed_of) c.in_ok-add.ensures.sessions
    ∙ map-append feed_of at.all.sessions.items (session ∷ []) in
    let desks : c.add.new.self.desks.items ≡ at.all.desks.items ++ desk ∷ [] =
    c.in_ok-add.ensures.desks in
    let near : AreTogether session.postings.feed desk =
    subst (λ (f : FeedState). AreTogether f desk) (sym own) c.in_ok-feed.ensures.together in
    let counted : suc at.station ≡ at.station + 1 = omega arith in
    record {
      together = subst (λ (l : List FeedState). AllZip AreTogether l c.add.new.self.desks.items)
          (sym feeds)
          (subst (λ (l : List DeskState).
          AllZip AreTogether (map feed_of at.all.sessions.items ++ session.postings.feed ∷ [])
          l) (sym desks)
          (AllZip-more AreTogether (map feed_of at.all.sessions.items) at.all.desks.items
          session.postings.feed desk at.invariant.together near));
      fresh = subst (λ (l : List DeskState). All IsFresh l) (sym desks)
          (All-push IsFresh at.all.desks.items desk at.invariant.fresh
          (ap (λ (d : DeskState). d.given) c.in_ok-feed.ensures.desk));
      many = ap length desks ∙ length-append at.all.desks.items (desk ∷ [])
          ∙ ap (λ n. n + 1) at.invariant.many;
      own = ap (map own_of) c.in_ok-add.ensures.sessions
          ∙ map-append own_of at.all.sessions.items (session ∷ [])
          ∙ (λ i. at.invariant.own i ++ c.in_ok-session.ensures.own i ∷ [])
          ∙ ap (own_of_all c.args.first) counted;
    }
