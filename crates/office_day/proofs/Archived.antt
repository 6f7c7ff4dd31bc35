-- An archive that is kept behind each span goes on with all of its batches.
use Rattle.std.specs.Prelude.{◌≡◌, ◌+◌, ◌-◌, ◌<◌, ◌≤◌, ℕ, Bool, true, false, List, [], ◌∷◌, ◌++◌}
use Rattle.std.specs.Prelude.{length, take, All, Option, Some, None, refl}
use Rattle.std.proofs.Common.{sym, ◌∙◌, ap, subst, arith, inl, inr}
use Rattle.std.specs.List.{slice_index_or}
use Rattle.std.proofs.Math.Seq.{take-append_seam}
use Rattle.std.proofs.lemmas.Bool.{cases_lt}
use Rattle.std.proofs.lemmas.List.{append-nil, append_assoc, ext_get_or, get_or-take}
use Rattle.std.proofs.lemmas.List.{get_or_append_left, get_or-append_right, length-append}
use Rattle.std.proofs.lemmas.List.{length-take-le, take_all}
use Rattle.sector_device.specs.Device.{DeviceState, IsSound}
use Rattle.sector_device.specs.Crash.{WasLookedAt}
use Rattle.gate_journal.specs.Record.{RecordData}
use Rattle.turn_ledger.specs.declared.entry.Entry.{Entry}
use Rattle.turn_ledger.specs.declared.entry.Entry.TheVariants.{Deposit}
use Rattle.turn_ledger.specs.PlaceLaws.{place_bytes-injective}
use Rattle.journal_recovery.specs.Places.{Spells, IsEntryAt, entry_at}
use Rattle.journal_recovery.specs.Recovery.{batch_at}
use Rattle.journal_recovery.specs.Sight.{numbered}
use Rattle.journal_recovery.specs.State.{state_after}
use Rattle.turn_clerk.specs.Clerk.{ClerkState, Extends, opening_state, accepted_batches}
use Rattle.turn_clerk.specs.Clerk.{in_flight_batch}
use Rattle.turn_clerk.specs.History.{batches_of}
use Rattle.office_day.specs.Archive.{Archive, WasKept, HasCaughtUp, EndsWith, next_of}
use Rattle.office_day.specs.Spans.{Span, Rest, IsSpan, FitsBank, AreOf, AreOfSpans, WereArchived}

-- a place holds one entry
one_entry : (r : RecordData) (place : ℕ) (d e : Entry) → IsEntryAt r place d → IsEntryAt r place e
    → d ≡ e
one_entry r place d e first second =
    place_bytes-injective d e first.in_range second.in_range (sym first.spelled ∙ second.spelled)

-- and a record one batch
one_batch : (r : RecordData) (p q : List Entry) → Spells r p → Spells r q → p ≡ q
one_batch r p q first second =
    ext_get_or (Deposit 0 0 0) p q (first.count ∙ sym second.count)
    (λ k lt. one_entry r k (entry_at p k) (entry_at q k) (first.first.each k lt)
    (second.first.each k (omega (arith, lt, first.count, second.count))))

-- at most one batch is in flight
one_in_flight : (in_flight : Option (List Entry)) → length (in_flight_batch in_flight) ≤ 1
one_in_flight None = omega arith
one_in_flight (Some entries) = omega arith

-- so many of the accepted batches, with all that were acknowledged, are those with the one in
-- flight or without it
with_or_without : {D : Type 0} (clerk : ClerkState D) (count : ℕ)
    → length (batches_of clerk.history) ≤ count → count ≤ length (accepted_batches clerk)
    → AreOf clerk (take count (accepted_batches clerk))
with_or_without clerk count least most =
    let taken = batches_of clerk.history in
    let flight = in_flight_batch clerk.in_flight in
    elim (cases_lt (length taken) count) [
      | inl more ↦ inr
          (take_all count (accepted_batches clerk)
          (omega (arith, more, length-append taken flight, one_in_flight clerk.in_flight)))
      | inr none ↦ let is : count ≡ length taken = omega (arith, least, none) in
          inl (ap (λ (n : ℕ). take n (taken ++ flight)) is ∙ take-append_seam taken flight)
    ]

-- what wasn't so later wasn't so earlier
not_before : (a b : Bool) → (a ≡ true → b ≡ true) → b ≡ false → a ≡ false
not_before false b implies not = refl
not_before true b implies not = absurd (let both : true ≡ false = sym (implies refl) ∙ not in cc)

all_front : {X : Type 0} (P : X → Type 0) (xs ys : List X) → All P (xs ++ ys) → All P xs
all_front P xs ys all =
    λ i d lt. subst P (get_or_append_left xs ys d i lt)
    (all i d (omega (arith, lt, length-append xs ys)))

all_last : {X : Type 0} (P : X → Type 0) (xs : List X) (x : X) → All P (xs ++ x ∷ []) → P x
all_last P xs x all =
    let at = get_or-append_right xs (x ∷ []) (length xs) (length xs) x refl (omega arith) in
    let none : length xs - length xs ≡ 0 = omega arith in
    subst P (at ∙ ap (λ (k : ℕ). slice_index_or (x ∷ []) k x) none)
    (all (length xs) x (omega (arith, length-append xs (x ∷ []))))

extends_joined : (p q r : List (List Entry)) → Extends p q → Extends q r → Extends p r
extends_joined p q r first second = record {
  more = first.more ++ second.more;
  is = second.is ∙ ap (λ (l : List (List Entry)). l ++ second.more) first.is
      ∙ append_assoc p first.more second.more;
}

spans_more : {D : Type 0} (spans : List (Span D)) (span : Span D) (batches own : List (List Entry))
    → AreOfSpans spans batches → AreOf span.clerk own
    → AreOfSpans (spans ++ span ∷ []) (batches ++ own)
spans_more [] span batches own none are =
    (own, [], are, refl, ap (λ (l : List (List Entry)). l ++ own) none ∙ sym (append-nil own))
spans_more (first ∷ spans) span batches own earlier are =
    let (front, later, fronts, rest, is) = earlier in (
      front,
      later ++ own,
      fronts,
      spans_more spans span later own rest are,
      ap (λ (l : List (List Entry)). l ++ own) is ∙ append_assoc front later own,
    )

module _ {D : Type 0} (state : D → DeviceState) where
  pub nothing_archived : (device : D) (archive : Archive)
      → WereArchived state device [] device archive archive
  nothing_archived device archive = record {
    first = refl;
    honest = refl;
    keeps = record { more = []; is = sym (append-nil archive.batches) };
    failed = λ failed. failed;
    all = λ honest not sane stands fit.
        (sane, record { more = []; longer = sym (append-nil archive.batches); are = refl }, stands);
  }

  -- what an archive lacked behind a span is what the span accepted
  own_batches : (moves : ℕ) (mid : Rest D) (span : Span D) (now new : Archive)
      → IsSpan state moves mid span
      → ((state span.clerk.journal.device).honest → IsSound (state span.clerk.journal.device))
      → (state mid.device).honest → FitsBank span.clerk
      → EndsWith now (state mid.device).reads → new.first ≡ now.first
      → (caught : HasCaughtUp (state span.clerk.journal.device).reads now new)
      → AreOf span.clerk caught.more
  own_batches moves mid span now new is sound sane fits stood begins caught =
      let clerk = span.clerk in
      let left = state clerk.journal.device in
      let image = left.reads in
      let closed = is.closed in
      let honest = closed.opened.stays_honest sane in
      let whole = sound honest in
      let batches = accepted_batches clerk in
      let first = clerk.opening.journal.next in
      let prefix = closed.acknowledged honest image whole.nothing_lost in
      let count = prefix.count in
      let short : length (take count batches) ≡ count =
      length-take-le count batches prefix.at_most in
      let began : next_of now ≡ first =
      sym (stood (opening_state clerk) (closed.opened.recovers sane)) in
      let ended : first + length (take count batches) ≡ next_of new =
      caught.ends (state_after (opening_state clerk) (take count batches)) prefix.recovers in
      let longer : length new.batches ≡ length now.batches + length caught.more =
      ap length caught.longer ∙ length-append now.batches caught.more in
      let many : length caught.more ≡ count = omega (arith, began, ended, short, begins, longer) in
      let run = is.in_sight fits honest in
      let opening = state clerk.opening.journal.device in
      let sees = run.each image
      (whole.counts_now opening.moment image run.later whole.nothing_lost) in
      let sight = caught.lacked.sight in
      let same : caught.more ≡ take count batches =
      ext_get_or [] caught.more (take count batches) (many ∙ sym short)
      (λ k lt.
      let below : k < count = omega (arith, lt, many) in
      let r = numbered sight (first + k) in
      let lacked = subst (λ (n : ℕ). Spells (numbered sight (n + k)) (batch_at caught.more k)) began
      (caught.lacked.spelled k lt) in
      let accepted = sees.spelled sight caught.lacked.is k
      (omega (arith, lt, began, caught.lacked.ends)) in
      one_batch r (batch_at caught.more k) (batch_at batches k) lacked accepted
      ∙ sym (get_or-take count batches k [] below)) in
      subst (AreOf clerk) (sym same) (with_or_without clerk count prefix.at_least prefix.at_most)

  -- one span more
  pub archived-more : (moves : ℕ) (from : D) (spans : List (Span D)) (mid : Rest D) (span : Span D)
      (next : D) (old now new : Archive)
      → WereArchived state from spans mid.device old now → IsSpan state moves mid span
      → ((state span.clerk.journal.device).honest → IsSound (state span.clerk.journal.device))
      → WasLookedAt (state span.clerk.journal.device) (state next)
      → WasKept (state span.clerk.journal.device) now new
      → WereArchived state from (spans ++ span ∷ []) next old new
  archived-more moves from spans mid span next old now new earlier is sound looked kept = record {
    first = kept.is.first ∙ earlier.first;
    honest = kept.is.honest ∙ earlier.honest;
    keeps = extends_joined old.batches now.batches new.batches earlier.keeps kept.is.keeps;
    failed = λ failed. kept.is.failed (earlier.failed failed);
    all = λ honest not sane stands fit.
        let fits : (s : Span D) → Type 0 = λ s. FitsBank s.clerk in
        let before = earlier.all honest (not_before now.failed new.failed kept.is.failed not) sane
        stands (all_front fits spans (span ∷ []) fit) in
        let after = is.closed.opened.stays_honest before.0 in
        let caught = kept.caught_up after (earlier.honest ∙ honest) not in
        let looks = looked.looks after in
        let own = own_batches moves mid span now new is sound before.0
        (all_last fits spans span fit) before.2 kept.is.first caught in
        let went = before.1 in (
          looked.stays_honest after,
          record {
            more = went.more ++ caught.more;
            longer = caught.longer ∙ ap (λ (l : List (List Entry)). l ++ caught.more) went.longer
                ∙ append_assoc old.batches went.more caught.more;
            are = spans_more spans span went.more caught.more went.are own;
          },
          subst (EndsWith new) (sym looks.reads) caught.ends,
        );
  }
