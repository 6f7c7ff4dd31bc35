-- The references of a counter rise: what submitting an entry and collecting an answer leave true,
-- and what it comes to.
use Rattle.std.specs.Prelude.{◌≡◌, ◌<◌, ◌≤◌, ◌+◌, ◌-◌, ◌⊎◌, ℕ, zero, suc, List, [], ◌∷◌, ◌++◌}
use Rattle.std.specs.Prelude.{length, Some, slice_get, option_map, unwrap_or, refl}
use Rattle.std.proofs.Common.{inl, inr, sym, ◌∙◌, ap, subst, arith}
use Rattle.std.proofs.lemmas.Bool.{cases_lt}
use Rattle.std.proofs.lemmas.List.{length-append, map-append}
use Rattle.std.proofs.lemmas.Option.{slice_get-map, slice_get-get_or, slice_get_within}
use Rattle.turn_ledger.specs.Entry.{reference_of}
use Rattle.station_desk.specs.declared.messages.Ask.{Ask}
use Rattle.station_desk.specs.declared.messages.Answer.{Answer}
use Rattle.station_desk.specs.declared.messages.Outcome.TheVariants as outcome
use Rattle.station_desk.specs.Messages.{ask_of, asks_of}
use Rattle.office_sessions.specs.Rising.{AreWithin, AreUnderWay, AreAbove, PostsRising}

-- two that are there are one
same-some : {A : Type 0} (x y : A) → Some x ≡ Some y → x ≡ y
same-some x y same = ap (λ o. unwrap_or o x) same

-- what stands in the front of a list stands there with more behind it
front : {A : Type 0} (xs ys : List A) (i : ℕ) (x : A) → slice_get xs i ≡ Some x
    → slice_get (xs ++ ys) i ≡ Some x
front [] ys i x at = elim (slice_get_within [] i x at) [ ]
front (z ∷ xs) ys zero x at = at
front (z ∷ xs) ys (suc i) x at = front xs ys i x at

-- what stands in a list with one more is that one, or stood there before
back : {A : Type 0} (xs : List A) (y : A) (i : ℕ) (x : A) → slice_get (xs ++ y ∷ []) i ≡ Some x
    → (slice_get xs i ≡ Some x) ⊎ ((i ≡ length xs) × (Some y ≡ Some x))
back [] y zero x at = inr (refl, at)
back [] y (suc i) x at = inl at
back (z ∷ xs) y zero x at = inl at
back (z ∷ xs) y (suc i) x at = elim (back xs y i x at) [
  | inl there ↦ inl there
  | inr last ↦ inr (ap suc last.0, last.1)
]

-- collecting an answer
pub within-more : (most more : ℕ) (answers : List Answer) (answer : Answer) → AreWithin most answers
    → most ≤ more
    → ((number : ℕ) → answer.outcome ≡ outcome.Posted number → reference_of answer.entry ≤ more)
    → AreWithin more (answers ++ answer ∷ [])
within-more most more answers answer within grows own =
    λ i one at number posted. elim (back answers answer i one at) [
      | inl before ↦
          let old = within i one before number posted in
          omega (arith, old, grows)
      | inr last ↦
          let same = same-some answer one last.1 in
          subst (λ (a : Answer). reference_of a.entry ≤ more) same
          (own number (ap (λ (a : Answer). a.outcome) same ∙ posted))
    ]

pub under-collected : (most : ℕ) (asked : List Ask) (answers : List Answer) (answer : Answer)
    → AreUnderWay most asked answers → AreUnderWay most asked (answers ++ answer ∷ [])
under-collected most asked answers answer under = λ i ask at behind.
    let long = length-append answers (answer ∷ []) in
    under i ask at (omega (arith, behind, long))

pub above-collected : (asked : List Ask) (answers : List Answer) (answer : Answer)
    → AreAbove asked answers → AreAbove asked (answers ++ answer ∷ [])
above-collected asked answers answer above = λ i j earlier later before at-i at-j positive low.
    let old = above i j earlier later before at-i at-j positive low in
    let answered = old.0 in
    let long = length-append answers (answer ∷ []) in (
      omega (arith, answered, long),
      λ one at. elim (back answers answer i one at) [
        | inl there ↦ old.1 one there
        | inr last ↦
            let end = last.0 in
            absurd (omega (arith, end, answered))
      ],
    )

-- submitting an entry
pub under-asked : (most more : ℕ) (asked : List Ask) (ask : Ask) (answers : List Answer)
    → AreUnderWay most asked answers → most ≤ more → reference_of ask.entry ≤ more
    → AreUnderWay more (asked ++ ask ∷ []) answers
under-asked most more asked ask answers under grows own =
    λ i one at behind. elim (back asked ask i one at) [
      | inl before ↦
          let old = under i one before behind in
          omega (arith, old, grows)
      | inr last ↦ subst (λ (a : Ask). reference_of a.entry ≤ more) (same-some ask one last.1) own
    ]

pub above-asked : (posted under_way : ℕ) (asked : List Ask) (ask : Ask) (answers : List Answer)
    → AreWithin posted answers → AreUnderWay under_way asked answers
    → (0 < reference_of ask.entry
    → (posted < reference_of ask.entry) × (under_way < reference_of ask.entry))
    → AreAbove asked answers → AreAbove (asked ++ ask ∷ []) answers
above-asked posted under_way asked ask answers within under own above =
    λ i j earlier later before at-i at-j positive low. elim (back asked ask j later at-j) [
      | inl there ↦
          let short = slice_get_within asked j later there in
          elim (back asked ask i earlier at-i) [
            | inl also ↦ above i j earlier later before also there positive low
            | inr last ↦
                let end = last.0 in
                absurd (omega (arith, end, before, short))
          ]
      | inr newest ↦
          let end = newest.0 in
          let same : ask ≡ later = same-some ask later newest.1 in
          let is = own (subst (λ (a : Ask). 0 < reference_of a.entry) (sym same) positive) in
          let over-posted : posted < reference_of later.entry =
          subst (λ (a : Ask). posted < reference_of a.entry) same is.0 in
          let over-under : under_way < reference_of later.entry =
          subst (λ (a : Ask). under_way < reference_of a.entry) same is.1 in
          elim (back asked ask i earlier at-i) [
            | inr last ↦
                let first = last.0 in
                absurd (omega (arith, end, first, before))
            | inl there ↦ elim (cases_lt i (length answers)) [
              | inl answered ↦ (
                answered,
                λ answer at number is-posted.
                    let most = within i answer at number is-posted in
                    omega (arith, most, over-posted),
              )
              | inr waiting ↦
                  let most = under i earlier there waiting in
                  absurd (omega (arith, most, over-under, low))
            ]
          ]
    ]

-- where each request is answered none is under way
pub none-under-way : (asked : List Ask) (answers : List Answer) → length answers ≡ length asked
    → AreUnderWay 0 asked answers
none-under-way asked answers same = λ i ask at behind.
    let short = slice_get_within asked i ask at in
    absurd (omega (arith, short, behind, same))

-- At the end the requests are those of the answers, whether they were collected or not, and then
-- those without one.
pub posts-rising : (asked : List Ask) (collected answers : List Answer) (rest : List Ask)
    → asked ≡ asks_of collected ++ asks_of answers ++ rest
    → AreAbove asked collected → PostsRising (collected ++ answers)
posts-rising asked collected answers rest whole above =
    λ i j earlier later before at-i at-j m n is-posted also-posted positive.
    let all = collected ++ answers in
    let spelled : asked ≡ asks_of all ++ rest =
    whole ∙ ap (λ (asks : List Ask). asks ++ rest)
    (sym (map-append ask_of collected answers)) in
    let asked-at : (k : ℕ) (answer : Answer) → slice_get all k ≡ Some answer
    → slice_get asked k ≡ Some (ask_of answer) =
    λ k answer at. ap (λ (asks : List Ask). slice_get asks k) spelled
    ∙ front (asks_of all) rest k (ask_of answer)
    (slice_get-map ask_of all k ∙ ap (option_map ask_of) at) in
    elim (cases_lt (reference_of earlier.entry) (reference_of later.entry)) [
      | inl less ↦ less
      | inr low ↦
          let free = above i j (ask_of earlier) (ask_of later) before (asked-at i earlier at-i)
          (asked-at j later at-j) positive low in
          let here = slice_get-get_or collected i earlier free.0 in
          let same = same-some _ _ (sym (front collected answers i _ here) ∙ at-i) in
          free.1 earlier (here ∙ ap Some same) m is-posted
    ]

-- one answer more, and one request fewer without one
pub collected-count : (waiting : ℕ) (asked : List Ask) (answers : List Answer) (answer : Answer)
    (asked' : List Ask) (answers' : List Answer)
    → asked' ≡ asked → answers' ≡ answers ++ answer ∷ [] → (waiting ≡ 0 → ⊥)
    → waiting + length answers ≡ length asked → waiting - 1 + length answers' ≡ length asked'
collected-count waiting asked answers answer asked' answers' same more some counted =
    let long = ap length more ∙ length-append answers (answer ∷ []) in
    let equal = ap length same in
    omega (arith, long, equal, some, counted)
