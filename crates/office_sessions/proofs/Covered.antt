-- A look covers what it tells.
use Rattle.std.specs.Prelude.{◌≡◌, ◌⊎◌, ◌+◌, ◌^◌, ◌-◌, ◌<◌, ◌≤◌, ℕ, min, max, List, [], ◌∷◌}
use Rattle.std.specs.Prelude.{◌++◌, Contains, Option, None, Some, IfSome, Ok, length}
use Rattle.std.proofs.Common.{inl, inr, refl, sym, ◌∙◌, ap, subst, arith}
use Rattle.std.proofs.lemmas.List.{append_assoc}
use Rattle.std.proofs.Math.Logic.{∥∥₁_map}
use Rattle.std.proofs.Math.Nat.{le-max_left, le-max_right, min-le_right}
use Rattle.std.proofs.lemmas.Bool.{cases_lt}
use Rattle.std.proofs.lemmas.List.Elements.{Contains-append_left}
use Rattle.sector_device.specs.Device.{DeviceState}
use Rattle.sector_device.specs.Image.{Image}
use Rattle.gate_journal.specs.Reading.{BankContents, ReadsAs}
use Rattle.gate_journal.specs.declared.earlier.EarlierBank.{EarlierBank}
use Rattle.gate_journal.specs.declared.layout.LiveBank.{LiveBank}
use Rattle.turn_ledger.specs.declared.entry.Entry.{Entry}
use Rattle.turn_ledger.specs.Entry.{reference_of}
use Rattle.journal_recovery.specs.EarlierLaws.{count_before, stands_before, stands_live}
use Rattle.journal_recovery.specs.Sight.{Sight, IsInSight, numbered}
use Rattle.turn_clerk.specs.FarBack.{HasRecord, IsNumberedFrom, IsNumberedBefore}
use Rattle.turn_clerk.specs.Found.{HasPicked}
use Rattle.turn_clerk.specs.Search.{IsInRecords, IsReached, end_of_step}
use Rattle.turn_clerk.specs.Sought.{IsLater, IsPicked}
use Rattle.turn_clerk.specs.declared.searching.Reached.{Reached}
use Rattle.turn_clerk.specs.declared.searching.Reached.TheVariants as reached
use Rattle.turn_clerk.specs.declared.search_target.Posting.{Posting}
use Rattle.turn_clerk.specs.declared.search_target.SearchTarget.TheVariants as sought
use Rattle.station_desk.specs.declared.errand.Report.TheVariants as report
use Rattle.office_day.specs.Spans.{AreSpans, Rest, Span}
use Rattle.office_sessions.specs.declared.look.Look.{Look}
use Rattle.office_sessions.specs.declared.look.LookAnswer.{LookAnswer}
use Rattle.office_sessions.specs.declared.look.OwnPostings.{OwnPostings}
use Rattle.office_sessions.specs.declared.replies.Reply.{Reply}
use Rattle.office_sessions.specs.declared.recess.WishOutcome.TheVariants as wish
use Rattle.office_sessions.specs.declared.replies.Reply.TheVariants as reply
use Rattle.office_sessions.specs.declared.responses.Response.{Response}
use Rattle.office_sessions.specs.Conversation.{own_question}
use Rattle.office_sessions.specs.Covered.{AreAboveRecords, HasNoneAbove, IsCovered, IsStepOf}
use Rattle.office_sessions.specs.Covered.{WasLookedThrough, reported_by}
use Rattle.office_sessions.specs.Looked.{GoesOnBy, IsTakenIn, seen_at}
use Rattle.office_sessions.specs.Replies.{AreAboveEarlier, AreWithoutReference, CameLast}
use Rattle.office_sessions.specs.Replies.{HasLooked, HasSeenAll, HasSeenLast, RiseFromEarlier}
use Rattle.office_sessions.specs.Replies.{greatest_in, greatest_of, in_archive, in_sight}
use Rattle.office_sessions.specs.Replies.{look_begins, look_goes_on, nothing_since, step_of_look}
use Rattle.office_sessions.specs.Right.{IsRight, WasReported}
use Rattle.office_sessions.proofs.ToldBy.{last-among}

-- a record in sight stands in one of the two banks
module _ (image : Image) (slots : ℕ) (live : LiveBank) (contents : BankContents) (sight : Sight)
    (number : ℕ) where
  below-live : (earlier : Option EarlierBank)
      → IsInSight image slots live contents earlier sight → sight.base ≤ number
      → number < live.base
      → IsNumberedFrom live.base contents.records number (numbered sight number)
      ⊎ IsNumberedBefore image slots live contents number (numbered sight number)
  below-live None is from lt = absurd (omega (arith, from, lt, ap (λ (s : Sight). s.base) is.1))
  below-live (Some bank) is from lt =
      let low = ap (λ (s : Sight). s.base) is.2 in
      let stands = stands_before image slots live contents sight number bank is
      (omega (arith, from, low)) lt in
      let count = count_before image slots live contents bank is.0 is.1 in
      inr (record {
        bank = bank;
        before = is.0;
        leads = is.1;
        numbered = record {
          from = omega (arith, from, low);
          before = omega (arith, lt, count);
          is = stands.1;
        };
      })

  has-record : (earlier : Option EarlierBank) → ReadsAs image slots live contents
      → IsInSight image slots live contents earlier sight → sight.base ≤ number
      → number < live.base + length contents.records
      → HasRecord image (live.base + length contents.records) number (numbered sight number)
  has-record earlier reads is from lt = record {
    slots = slots;
    live = live;
    contents = contents;
    reads = reads;
    ends = refl;
    numbered = elim (cases_lt number live.base) [
      | inl low ↦ below-live earlier is from low
      | inr past ↦ inl (record {
        from = past;
        before = lt;
        is = stands_live image slots live contents sight number earlier is past;
      })
    ];
  }

-- of what is picked no reference of the station is above it
none-above : (sight : Sight) (station limit first end number : ℕ) (posting : Option Posting)
    → IsPicked (IsInRecords sight (sought.OfStation station limit) first end)
    (sought.OfStation station limit) posting → first ≤ number → number < end
    → (numbered sight number).station ≡ station
    → HasNoneAbove (numbered sight number) limit (greatest_in posting)
none-above sight station limit first end number None told from before of place entry used there
    above within =
    absurd (told number place entry
    (record { from = from; before = before; of_station = of; used = used; there = there })
    (above, within))
none-above sight station limit first end number (Some last) told from before of place entry used
    there above within =
    elim (told.best number place entry
    (record { from = from; before = before; of_station = of; used = used; there = there })
    (above, within)) [
      | inl less ↦ omega (arith, less)
      | inr same ↦ omega (arith, same.0)
    ]

-- a step doesn't look beyond its end
within-end : (base end from station limit : ℕ) (posting : Option Posting) (come : Reached)
    → IsReached base end from (sought.OfStation station limit) posting come
    → end_of_step end come ≤ end
within-end base end from station limit posting (reached.Further began number told) is =
    omega (arith, is.1.1)
within-end base end from station limit posting (reached.All began since) is = omega arith
within-end base end from station limit posting reached.LookingBack is = absurd is

spans-honest : {D : Type 0} (state : D → DeviceState) (moves : ℕ) (at : Rest D)
    (spans : List (Span D)) (after : Rest D) → AreSpans state moves at spans after
    → (state at.device).honest → (state after.device).honest
spans-honest state moves at [] after are honest =
    subst (λ (rest : Rest _). (state rest.device).honest) (sym are) honest
spans-honest state moves at (span ∷ spans) after are honest =
    let (next, left, more) = are.1 in
    spans-honest state moves next spans after more
    (left.looked.stays_honest (are.0.closed.opened.stays_honest honest))

-- the later of two postings has the greatest reference
later-greatest : (first second result : Option Posting) → IsLater first second result
    → (greatest_in first ≤ greatest_in result) × (greatest_in second ≤ greatest_in result)
later-greatest None second result later =
    (omega arith, omega (arith, ap greatest_in later))
later-greatest (Some before) None result later =
    (omega (arith, ap greatest_in later), omega arith)
later-greatest (Some before) (Some here) result (inl less) =
    (omega (arith, ap greatest_in less.1), omega (arith, less.0, ap greatest_in less.1))
later-greatest (Some before) (Some here) result (inr more) =
    (omega (arith, more.0, ap greatest_in more.1), omega (arith, ap greatest_in more.1))

module _ {D : Type 0} (state : D → DeviceState) (moves : ℕ) (from : Rest D) (own : OwnPostings)
    (limit : ℕ) (heard : List Reply) (honest : (state from.device).honest) where
  abbrev Right : Reply → Type 0
  Right = IsRight (WasReported state moves from)

  -- each record from one number up to another was looked through
  abbrev Covers : ℕ → ℕ → ℕ → Type 0
  Covers most first end =
      (number : ℕ) → first ≤ number → number < end
      → WasLookedThrough state moves from own limit heard most number

  raised : (most more first end : ℕ) → most ≤ more → Covers most first end
      → Covers more first end
  raised most more first end le covers number low high =
      let was = covers number low high in
      record {
        one = was.one;
        among = was.among;
        r = was.r;
        end = was.end;
        there = was.there;
        none = λ of place entry used there above within.
            omega (arith, le, was.none of place entry used there above within);
      }

  -- a step that was reported
  module _ (one : IsStepOf state moves from own limit)
      (among : Contains heard (reported_by one)) where
    between-honest : (state one.was.between.device).honest
    between-honest =
        spans-honest state moves from one.was.spans one.was.between one.was.behind honest

    abbrev End : ℕ
    End = min (2 ^ 64 - 1) one.was.is.clerk.journal.next

    step-covers : (picked : HasPicked state one.was.is.clerk (sought.OfStation own.station limit)
        one.first (2 ^ 64 - 1) one.step)
        → Covers (greatest_in one.step.posting) (max one.first picked.seen.sight.base)
        (end_of_step End one.step.reached)
    step-covers picked number low high =
        let clerk = one.was.is.clerk in
        let seen = picked.seen in
        let within = within-end seen.sight.base End one.first own.station limit one.step.posting
        one.step.reached seen.reached in
        let next = min-le_right (2 ^ 64 - 1) clerk.journal.next in
        let last = picked.is_at.next in
        record {
          one = one;
          among = among;
          r = numbered seen.sight number;
          end = clerk.journal.live.base + length picked.contents.records;
          there = has-record (state clerk.journal.device).reads clerk.journal.slots
              clerk.journal.live picked.contents seen.sight number seen.earlier
              picked.is_at.reads seen.in_sight
              (omega (arith, low, le-max_right one.first seen.sight.base))
              (omega (arith, high, within, next, last));
          none = none-above seen.sight own.station limit (max one.first seen.sight.base)
              (end_of_step End one.step.reached) number one.step.posting seen.told low high;
        }

  -- what a look covers with a step more
  taken-in : (old new : Look) (began next stop : ℕ) (posting : Option Posting)
      → IsTakenIn old began posting next new → old.from ≤ began
      → Covers (greatest_in old.posting) old.since old.from
      → Covers (greatest_in posting) began stop
      → Covers (greatest_in new.posting) new.since stop
  taken-in old new began next stop posting taken past before step number low high =
      let seen = greatest_in old.posting in
      let found = greatest_in posting in
      let most = greatest_in new.posting in
      elim (cases_lt old.from began) [
        | inl over ↦
            let anew = taken.1 over in
            raised found most began stop (omega (arith, ap greatest_in anew.1)) step number
            (omega (arith, low, anew.0)) high
        | inr met ↦
            let meets = taken.0 met in
            let later = later-greatest old.posting posting new.posting meets.1 in
            elim (cases_lt number old.from) [
              | inl earlier ↦
                  raised seen most old.since old.from later.0 before number
                  (omega (arith, low, meets.0)) earlier
              | inr here ↦
                  raised found most began stop later.1 step number (omega (arith, met, here)) high
            ]
      ]

  -- the step of a look that was reported so
  step-at : (first : ℕ) (posting : Option Posting) (come : Reached)
      → WasReported state moves from (own_question own.station limit first)
      (report.Searched (Ok (record { posting = posting; reached = come })))
      → IsStepOf state moves from own limit
  step-at first posting come was =
      record { first = first; step = record { posting = posting; reached = come }; was = was }

  goes-on : (before after : Look) (posting : Option Posting) (come : Reached)
      → Covers (greatest_in before.posting) before.since before.from
      → (was : WasReported state moves from (own_question own.station limit before.from)
      (report.Searched (Ok (record { posting = posting; reached = come }))))
      → Contains heard (reported_by (step-at before.from posting come was))
      → GoesOnBy before posting come after
      → Covers (greatest_in after.posting) after.since after.from
  unfolding step-at
  goes-on before after posting (reached.Further began number end) covers was among on at low high =
      let one = step-at before.from posting (reached.Further began number end) was in
      let picked = was.is.picked (between-honest one among)
      (λ same. let never = same in cc) in
      let began-at = picked.seen.reached.0 in
      taken-in before after began number number posting on
      (omega (arith, began-at, le-max_left before.from picked.seen.sight.base)) covers
      (subst (λ (first : ℕ). Covers (greatest_in posting) first number) (sym began-at)
      (step-covers one among picked))
      at low (omega (arith, high, on.2))
  goes-on before after posting (reached.All began since) covers was among on at low high =
      let one = step-at before.from posting (reached.All began since) was in
      let picked = was.is.picked (between-honest one among)
      (λ same. let never = same in cc) in
      let began-at = picked.seen.reached.0 in
      let past : before.from ≤ began =
      omega (arith, began-at, le-max_left before.from picked.seen.sight.base) in
      taken-in before after began before.from before.from posting on past covers
      (λ number first last. absurd (omega (arith, first, last, past)))
      at low (omega (arith, high, on.2))
  goes-on before after posting reached.LookingBack covers was among on at low high =
      subst (λ (look : Look). Covers (greatest_in look.posting) look.since look.from) (sym on)
      covers at low high

  looked-through : ((one : Reply) → Contains heard one → Right one)
      → (look : Look) → HasLooked own limit heard look
      → Covers (greatest_in look.posting) look.since look.from
  unfolding step-at
  looked-through right look look_begins number low high = absurd (omega (arith, low, high))
  looked-through right look (look_goes_on before after step was among on) number low high =
      goes-on before after step.posting step.reached (looked-through right before was)
      (right (step_of_look own limit before (Ok step)) among) among on number low high

  ended : (look after : Look) (posting : Option Posting) (come : Reached) (seen : LookAnswer)
      → Covers (greatest_in look.posting) look.since look.from
      → (was : WasReported state moves from (own_question own.station limit look.from)
      (report.Searched (Ok (record { posting = posting; reached = come }))))
      → CameLast (reported_by (step-at look.from posting come was)) heard
      → GoesOnBy look posting come after → seen_at after come ≡ Some (Ok seen)
      → IsCovered state moves from own limit heard (greatest_of seen) seen.since
  unfolding step-at
  ended look after posting (reached.Further began number end) seen covers was came on tells =
      absurd (cc)
  ended look after posting (reached.All began since) seen covers was came on tells =
      let one = step-at look.from posting (reached.All began since) was in
      let among = last-among (reported_by one) heard came in
      let picked = was.is.picked (between-honest one among)
      (λ same. let never = same in cc) in
      let began-at = picked.seen.reached.0 in
      let here : LookAnswer = record { posting = after.posting; since = after.since } in
      let told : here ≡ seen = cc in
      subst (λ (answer : LookAnswer).
      IsCovered state moves from own limit heard (greatest_of answer) answer.since) told
      (record {
        last = one;
        came = came;
        each = taken-in look after began look.from (End one among) posting on
            (omega (arith, began-at, le-max_left look.from picked.seen.sight.base)) covers
            (subst (λ (first : ℕ). Covers (greatest_in posting) first (End one among))
            (sym began-at) (step-covers one among picked));
      })
  ended look after posting reached.LookingBack seen covers was came on tells = absurd (cc)

  pub seen-covers : ((one : Reply) → Contains heard one → Right one)
      → (seen : LookAnswer) → HasSeenLast own limit seen heard
      → ∥ IsCovered state moves from own limit heard (greatest_of seen) seen.since ∥₁
  unfolding step-at
  seen-covers right seen last =
      ∥∥₁_map last.looked (λ was.
      ended last.look last.after last.step.posting last.step.reached seen
      (looked-through right last.look was)
      (right (step_of_look own limit last.look (Ok last.step)) (last-among _ heard last.came))
      last.came last.goes_on last.tells)

-- what a counter used is above what was looked through
above-seen : (posting : Option Posting) (reference : ℕ) → 0 < reference
    → IfSome posting (λ last. reference_of last.entry < reference)
    → greatest_in posting < reference
above-seen None reference positive above = positive
above-seen (Some last) reference positive above = above

-- the replies that had come at some moment were right too
right-before : {D : Type 0} (state : D → DeviceState) (moves : ℕ) (from : Rest D)
    (heard before later : List Reply)
    → ((one : Reply) → Contains heard one → IsRight (WasReported state moves from) one)
    → heard ≡ before ++ later
    → (one : Reply) → Contains before one → IsRight (WasReported state moves from) one
right-before state moves from heard before later right all one among =
    right one
    (subst (λ (l : List Reply). Contains l one) (sym all)
    (Contains-append_left before later one among))

module _ {D : Type 0} (state : D → DeviceState) (moves : ℕ) (from : Rest D) (own : OwnPostings)
    (heard : List Reply) (told : List Response) (asked : List Entry)
    (honest : (state from.device).honest)
    (right : (one : Reply) → Contains heard one → IsRight (WasReported state moves from) one) where
  covered-all : (above : AreAboveEarlier own heard told asked) (before later : List Reply)
      → heard ≡ before ++ later → HasSeenAll own above.seen before
      → ∥ AreAboveRecords state moves from own heard told asked ∥₁
  covered-all above before later all (in_sight last known) =
      ∥∥₁_map (seen-covers state moves from own (2 ^ 64 - 1) before honest
      (right-before state moves from heard before later right all) above.seen last)
      (λ covered. record {
        in_sight = above.seen;
        looked = record { before = before; later = later; all = all; so = (last, covered) };
        seen = above.seen;
        known = inl refl;
        enough = above.enough;
        above = λ k other low positive.
            let over = above-seen above.seen.posting _ positive
            (above.above k other low positive) in
            (over, over);
      })
  covered-all above before later all (in_archive since kept mid last more is) =
      let seen = above.seen in
      let earlier = right-before state moves from before mid (reply.Outcome (wish.Last kept) ∷ [])
      (right-before state moves from heard before later right all) more in
      ∥∥₁_map (seen-covers state moves from own (2 ^ 64 - 1) mid honest earlier
      (nothing_since since) last)
      (λ covered. record {
        in_sight = nothing_since since;
        looked = record {
          before = mid;
          later = reply.Outcome (wish.Last kept) ∷ [] ++ later;
          all = all ∙ ap (λ (l : List Reply). l ++ later) more
              ∙ append_assoc mid (reply.Outcome (wish.Last kept) ∷ []) later;
          so = (last, covered);
        };
        seen = seen;
        known = inr (kept, refl, is);
        enough = above.enough;
        above = λ k other low positive.
            let over = above-seen seen.posting _ positive (above.above k other low positive) in
            (positive, over);
      })

  pub rise-above : RiseFromEarlier own heard told asked
      → ∥ AreWithoutReference asked ⊎ AreAboveRecords state moves from own heard told asked ∥₁
  rise-above (inl without) = ∣ inl without ∣₁
  rise-above (inr earlier) =
      let looked = earlier.looked in
      ∥∥₁_map (covered-all earlier looked.before looked.later looked.all looked.so)
      (λ above. inr above)
