-- Feeds that stay at their rings while their counters are attended to.
use Rattle.std.specs.Prelude.{◌≡◌, ◌<◌, ℕ, List, length, map, refl}
use Rattle.std.specs.List.{slice_index_or, slice_set}
use Rattle.std.proofs.Common.{inl, inr, sym, ◌∙◌, ap, subst}
use Rattle.std.proofs.lemmas.Bool.{cases_eq}
use Rattle.std.proofs.lemmas.List.{length-map, length-set, map-set, get_or-map, get_or-set_same}
use Rattle.std.proofs.lemmas.List.{get_or-set_other}
use Rattle.std.proofs.Math.Seq.{map-set_same}
use Rattle.station_desk.specs.Rings.{FeedState, StandsAt, AllStandAt}
use Rattle.office_sessions.specs.declared.session.Session.{Session}
use Rattle.office_sessions.specs.Session.{StaysAt, AllStayAt, own_of, feed_of}

-- One of the feeds is replaced by another that stands at the same rings.
stand-set : (old new : List FeedState) (i : ℕ) (feed : FeedState) → i < length new
    → AllStandAt old new → ((d : FeedState) → StandsAt (slice_index_or new i d) feed)
    → AllStandAt old (slice_set new i feed)
stand-set old new i feed there stand stands = record {
  as_many = length-set new i feed ∙ stand.as_many;
  each = λ j d low. elim (cases_eq j i) [
    | inl same ↦
        let far = stand.each j d low in
        let at : slice_index_or (slice_set new i feed) j d ≡ feed =
        ap (λ n. slice_index_or (slice_set new i feed) n d) same
        ∙ get_or-set_same new i feed d there in
        let near : StandsAt (slice_index_or new j d) feed =
        subst (λ n. StandsAt (slice_index_or new n d) feed) (sym same) (stands d) in
        subst (λ (f : FeedState). StandsAt (slice_index_or old j d) f) (sym at)
        (near.0 ∙ far.0, near.1 ∙ far.1, near.2 ∙ far.2)
    | inr other ↦
        subst (λ (f : FeedState). StandsAt (slice_index_or old j d) f)
        (sym (get_or-set_other new i j feed d other)) (stand.each j d low)
  ];
}

-- Sessions stay if one of them does.
pub all-stay-set : {L : Type 0} (old new : List (Session L)) (i : ℕ) (s d : Session L)
    → i < length old
    → AllStayAt old new → StaysAt (slice_index_or new i d) s
    → AllStayAt old (slice_set new i s)
all-stay-set old new i s d low stay stays =
    let long : length old ≡ length new =
    sym (sym (length-map new feed_of) ∙ stay.rings.as_many ∙ length-map old feed_of) in
    let there : i < length new = subst (λ n. i < n) long low in
    record {
      own = map-set_same own_of new i s d stays.own ∙ stay.own;
      rings = subst (AllStandAt (map feed_of old)) (sym (map-set feed_of new i s))
          (stand-set (map feed_of old) (map feed_of new) i (feed_of s)
          (subst (λ n. i < n) (sym (length-map new feed_of)) there) stay.rings
          (λ f. subst (λ (one : FeedState). StandsAt one (feed_of s))
          (sym (get_or-map feed_of new i d f there)) stays.rings));
    }

-- nothing has happened yet
pub all-stay-still : {L : Type 0} (sessions : List (Session L)) → AllStayAt sessions sessions
all-stay-still sessions =
    record { own = refl; rings = record { as_many = refl; each = λ i f low. (refl, refl, refl) } }

-- one step after another
pub all-stay-joined : {L : Type 0} (old mid new : List (Session L)) → AllStayAt old mid
    → AllStayAt mid new → AllStayAt old new
all-stay-joined old mid new far next = record {
  own = next.own ∙ far.own;
  rings = record {
    as_many = next.rings.as_many ∙ far.rings.as_many;
    each = λ i f low.
        let before = far.rings.each i f low in
        let after =
        next.rings.each i f (subst (λ n. i < n) (sym far.rings.as_many) low) in
        (after.0 ∙ before.0, after.1 ∙ before.1, after.2 ∙ before.2);
  };
}
