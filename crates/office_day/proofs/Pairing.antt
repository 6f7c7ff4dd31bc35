-- Pairs of a feed and what its station left, one after another.
use Rattle.std.specs.Prelude.{◌≡◌, ◌<◌, ◌⊎◌, ℕ, List, length, map}
use Rattle.std.specs.List.{AllZip, slice_index_or}
use Rattle.std.proofs.Common.{inl, inr, sym, ◌∙◌, ap, subst}
use Rattle.std.proofs.lemmas.List.{length-map, get_or-map}
use Rattle.std.proofs.lemmas.Slice.Zip.{AllZip-long}
use Rattle.station_desk.specs.Rings.{FeedState, AreTogether}
use Rattle.office_day.specs.declared.reconciled.StationDay.{StationDay}
use Rattle.office_day.specs.declared.seated.StationRemains.{StationRemains}
use Rattle.office_day.specs.Day.{IsReconciled, AreReconciled}
use Rattle.office_day.proofs.Lists.{AllZip-at}

abbrev pub pair_reconciled : FeedState × StationRemains → StationDay → Type 0
pair_reconciled pair day = IsReconciled pair.0 pair.1 day

pub pairs_reconciled : (pairs : List (FeedState × StationRemains)) (feeds : List FeedState)
    (left : List StationRemains)
    (days : List StationDay)
    → map (λ (pair : FeedState × StationRemains). pair.0) pairs ≡ feeds
    → map (λ (pair : FeedState × StationRemains). pair.1) pairs ≡ left
    → AllZip pair_reconciled pairs days → AreReconciled feeds left days
pairs_reconciled pairs feeds left days firsts seconds all =
    let as_many : length feeds ≡ length pairs =
    sym (ap length firsts) ∙ length-map pairs (λ (pair : FeedState × StationRemains). pair.0) in
    record {
      as_many = AllZip-long pair_reconciled pairs days all ∙ sym as_many;
      each = λ i feed part day low.
          let there : i < length pairs = subst (λ n. i < n) as_many low in
          let feed_at = sym
          (get_or-map (λ (pair : FeedState × StationRemains). pair.0) pairs i (feed, part) feed
          there)
          ∙ ap (λ (l : List FeedState). slice_index_or l i feed) firsts in
          let part_at = sym
          (get_or-map (λ (pair : FeedState × StationRemains). pair.1) pairs i (feed, part) part
          there)
          ∙ ap (λ (l : List StationRemains). slice_index_or l i part) seconds in
          subst (λ (f : FeedState).
          IsReconciled f (slice_index_or left i part) (slice_index_or days i day)) feed_at
          (subst (λ (p : StationRemains).
          IsReconciled (slice_index_or pairs i (feed, part)).0 p (slice_index_or days i day))
          part_at
          (AllZip-at pair_reconciled pairs days i (feed, part) day all there));
    }

-- the feed stands at the rings of the desk that the station left
abbrev pub stands_with : FeedState → StationRemains → Type 0
stands_with feed part = AreTogether feed part.desk

-- of two rows of the same length one is at its end, and so the other is
pub none_left : {A B : Type 0} {P : A → Type 0} {Q : B → Type 0} (a b m n : ℕ) → a ≡ m → b ≡ n
    → n ≡ m → ((x : A) × ((a ≡ 0) × (P x))) ⊎ ((x : B) × ((b ≡ 0) × (Q x))) → m ≡ 0
none_left a b m n am bn alike (inl ended) = sym am ∙ ended.1.0
none_left a b m n am bn alike (inr ended) = sym alike ∙ sym bn ∙ ended.1.0
