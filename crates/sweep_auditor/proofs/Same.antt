-- Two legitimate lines at the same phase are the same.
use Rattle.std.proofs.Common.{◌≡◌, ℕ, zero, suc, ◌+◌, ◌-◌, ◌*◌, ◌<◌, ◌≤◌, ◌⊎◌, Bool, true, false}
use Rattle.std.proofs.Common.{cond, List, [], ◌∷◌, ◌++◌, length, take, get_or, refl, sym, ap, ◌∙◌}
use Rattle.std.proofs.Common.{arith, inl, inr, add-one}
use Rattle.std.proofs.lemmas.Bool.{cases_lt, cases_Bool, false≢true}
use Rattle.std.proofs.lemmas.List.{ext_get_or}
use Rattle.std.proofs.lemmas.List.FromFn.{length-map-range_with_len, take-map-range_with_len}
use Rattle.std.proofs.lemmas.List.FromFn.{get_or-map-range_with_len}
use Rattle.four_state.specs.Configuration.{Configuration, IsConfiguration, stations, x_at, up_at}
use Rattle.four_state.specs.Configuration.{differ}
use Rattle.four_state.specs.Privilege.{IsLegitimate}
use Rattle.four_state.specs.Marks.{Mark, Rising, Falling, Still, rises, mark_at, marks_from}
use Rattle.four_state.specs.Marks.{marks_of, mark_count}
use Rattle.four_state.specs.PrivilegeLaws.{mark_count-append, length-privileges_of, up_above}
use Rattle.sweep_auditor.proofs.Rows.{map_range-add}
use Rattle.sweep_auditor.proofs.Phases.{place, place-most, phase_of}

-- ---- the same marks

-- two lists without a mark
bare_same : (ms ks : List Mark) → length ms ≡ length ks → mark_count ms ≡ 0 → mark_count ks ≡ 0
    → ms ≡ ks
bare_same [] [] e p q = refl
bare_same [] (k ∷ ks) e p q = absurd (omega arith)
bare_same (m ∷ ms) [] e p q = absurd (omega arith)
bare_same (Rising ∷ ms) (k ∷ ks) e p q = absurd (omega arith)
bare_same (Falling ∷ ms) (k ∷ ks) e p q = absurd (omega arith)
bare_same (Still ∷ ms) (Rising ∷ ks) e p q = absurd (omega arith)
bare_same (Still ∷ ms) (Falling ∷ ks) e p q = absurd (omega arith)
bare_same (Still ∷ ms) (Still ∷ ks) e p q =
    ap (λ (l : List Mark). Still ∷ l) (bare_same ms ks (omega arith) (omega arith) (omega arith))

place-least : (ms : List Mark) (b : ℕ) → 1 ≤ mark_count ms → b ≤ place b ms
place-least [] b h = absurd (omega arith)
place-least (Rising ∷ ms) b h = omega arith
place-least (Falling ∷ ms) b h = omega arith
place-least (Still ∷ ms) b h = let rest = place-least ms (b + 1) (omega arith) in omega arith

-- one mark each, at one place
same_place : (ms ks : List Mark) (b : ℕ) → length ms ≡ length ks → mark_count ms ≡ 1
    → mark_count ks ≡ 1 → place b ms ≡ place b ks → ms ≡ ks
same_place [] ks b e p q same = absurd (omega arith)
same_place (m ∷ ms) [] b e p q same = absurd (omega arith)
same_place (Rising ∷ ms) (Rising ∷ ks) b e p q same =
    ap (λ (l : List Mark). Rising ∷ l) (bare_same ms ks (omega arith) (omega arith) (omega arith))
same_place (Falling ∷ ms) (Falling ∷ ks) b e p q same =
    ap (λ (l : List Mark). Falling ∷ l) (bare_same ms ks (omega arith) (omega arith) (omega arith))
same_place (Still ∷ ms) (Still ∷ ks) b e p q same =
    ap (λ (l : List Mark). Still ∷ l)
    (same_place ms ks (b + 1) (omega arith) (omega arith) (omega arith) same)
same_place (Rising ∷ ms) (Falling ∷ ks) b e p q same = absurd (omega arith)
same_place (Falling ∷ ms) (Rising ∷ ks) b e p q same = absurd (omega arith)
same_place (Rising ∷ ms) (Still ∷ ks) b e p q same = let low =
    place-least ks (b + 1) (omega arith) in absurd (omega arith)
same_place (Still ∷ ms) (Rising ∷ ks) b e p q same = let low =
    place-least ms (b + 1) (omega arith) in absurd (omega arith)
same_place (Falling ∷ ms) (Still ∷ ks) b e p q same = let high =
    place-most ks (b + 1) (omega arith) in absurd (omega arith)
same_place (Still ∷ ms) (Falling ∷ ks) b e p q same = let high =
    place-most ms (b + 1) (omega arith) in absurd (omega arith)

-- ---- the same bits x

abbrev is_rising : Mark → Bool
is_rising Rising = true
is_rising Falling = false
is_rising Still = false

rising-mark : (r f : Bool) → is_rising (cond r Rising (cond f Falling Still)) ≡ r
rising-mark true f = refl
rising-mark false true = refl
rising-mark false false = refl

differ-cancel : (a b c : Bool) → differ a b ≡ differ a c → b ≡ c
differ-cancel a true true h = refl
differ-cancel a false false h = refl
differ-cancel true true false h = absurd (false≢true h)
differ-cancel true false true h = absurd (false≢true (sym h))
differ-cancel false true false h = absurd (false≢true (sym h))
differ-cancel false false true h = absurd (false≢true h)

rises_same : (c d : Configuration) (b : ℕ) → mark_at c b ≡ mark_at d b → rises c b ≡ rises d b
rises_same c d b e = sym (rising-mark (rises c b) _) ∙ ap is_rising e ∙ rising-mark (rises d b) _

x_same : (c d : Configuration) (n i : ℕ) → ((b : ℕ) → b < n → mark_at c b ≡ mark_at d b)
    → x_at c 0 ≡ x_at d 0 → i ≤ n → x_at c i ≡ x_at d i
x_same c d n zero marks first l = first
x_same c d n (suc i) marks first l =
    let here = x_same c d n i marks first (omega arith) in
    let step = rises_same c d i (marks i (omega arith)) in
    let next = differ-cancel (x_at d i) (x_at c (i + 1)) (x_at d (i + 1)) (rw here at step) in
    rw add-one at next

-- ---- the same bits up

-- of a line with one mark, those below the mark are up
up_is : (c : Configuration) (n i : ℕ) → IsConfiguration c → stations c ≡ n + 1
    → mark_count (marks_from c 0 n) ≡ 1 → i ≤ n
    → ((mark_count (marks_from c 0 i) ≡ 0) × (up_at c i ≡ true))
    ⊎ ((1 ≤ mark_count (marks_from c 0 i)) × (up_at c i ≡ false))
up_is c n i h e one l =
    let rest = n - i in
    let whole : i + rest ≡ n = omega arith in
    let parts : marks_from c 0 n ≡ marks_from c 0 i ++ marks_from c (0 + i) rest =
    ap (marks_from c 0) (sym whole) ∙ map_range-add (mark_at c) i rest 0 in
    let counts = ap mark_count parts
    ∙ mark_count-append (marks_from c 0 i) (marks_from c (0 + i) rest) in
    let here : 0 + i ≡ i = omega arith in
    elim (cases_lt 0 (mark_count (marks_from c 0 i))) [
      | inr none ↦
          let up = up_above c i 0 (omega arith) h.up_at_the_bottom in
          inl (omega arith, rw here at up)
      | inl some ↦
          elim (cases_Bool (up_at c i)) [
            | inr low ↦ inr (some, low)
            | inl high ↦
                let bare : mark_count (marks_from c i rest) ≡ 0 =
                ap (λ k. mark_count (marks_from c k rest)) (sym here) ∙ omega arith in
                let top = up_above c rest i bare high in
                let last : i + rest ≡ stations c - 1 = omega arith in
                absurd (false≢true (sym h.not_up_at_the_top ∙ ap (up_at c) (sym last) ∙ top))
          ]
    ]

-- two lines of n + 1 stations have the same one mark
record HaveOneMark (c d : Configuration) (n : ℕ) : Type 0 where
  first : IsConfiguration c
  second : IsConfiguration d
  first_long : stations c ≡ n + 1
  second_long : stations d ≡ n + 1
  same : marks_from c 0 n ≡ marks_from d 0 n
  one : mark_count (marks_from c 0 n) ≡ 1

up_same : (c d : Configuration) (n i : ℕ) → HaveOneMark c d n → i ≤ n → up_at c i ≡ up_at d i
up_same c d n i have l =
    let front : marks_from c 0 i ≡ marks_from d 0 i =
    sym (take-map-range_with_len (mark_at c) 0 n i l) ∙ ap (take i) have.same
    ∙ take-map-range_with_len (mark_at d) 0 n i l in
    let count = ap mark_count front in
    let of_c = up_is c n i have.first have.first_long have.one l in
    let of_d = up_is d n i have.second have.second_long (ap mark_count (sym have.same) ∙ have.one)
    l in
    elim of_c [
      | inl a ↦ elim of_d [ inl b ↦ a.1 ∙ sym b.1 | inr b ↦ absurd (omega (arith, a.0, b.0)) ]
      | inr a ↦ elim of_d [ inl b ↦ absurd (omega (arith, a.0, b.0)) | inr b ↦ a.1 ∙ sym b.1 ]
    ]

-- ---- the same line

same_phase : (x y : Bool) (p q n : ℕ) → p < 2 * n → q < 2 * n
    → p + cond x (2 * n) 0 ≡ q + cond y (2 * n) 0 → (x ≡ y) × (p ≡ q)
same_phase true true p q n a b e = (refl, omega arith)
same_phase false false p q n a b e = (refl, omega arith)
same_phase true false p q n a b e = absurd (omega arith)
same_phase false true p q n a b e = absurd (omega arith)

pub same_configuration : (n : ℕ) (c d : Configuration) → IsConfiguration c → IsConfiguration d
    → stations c ≡ n + 1 → stations d ≡ n + 1 → IsLegitimate c → IsLegitimate d
    → phase_of n c ≡ phase_of n d → c ≡ d
same_configuration n c d h k ec ed one_c one_d phase =
    let count_c = length-privileges_of c h in
    let count_d = length-privileges_of d k in
    let long_c = length-map-range_with_len (mark_at c) 0 (stations c - 1) in
    let long_d = length-map-range_with_len (mark_at d) 0 (stations d - 1) in
    let most_c = place-most (marks_of c) 0 (omega arith) in
    let most_d = place-most (marks_of d) 0 (omega arith) in
    let parts = same_phase (x_at c 0) (x_at d 0) (place 0 (marks_of c)) (place 0 (marks_of d)) n
    (omega arith) (omega arith) phase in
    let marks = same_place (marks_of c) (marks_of d) 0 (omega arith) (omega arith) (omega arith)
    parts.1 in
    let top_c : stations c - 1 ≡ n = omega arith in
    let top_d : stations d - 1 ≡ n = omega arith in
    let marks_n : marks_from c 0 n ≡ marks_from d 0 n =
    ap (marks_from c 0) (sym top_c) ∙ marks ∙ ap (marks_from d 0) top_d in
    let one : mark_count (marks_from c 0 n) ≡ 1 =
    ap (λ k. mark_count (marks_from c 0 k)) (sym top_c) ∙ sym count_c ∙ one_c in
    let each : (b : ℕ) → b < n → mark_at c b ≡ mark_at d b =
    λ b l. sym (get_or-map-range_with_len (mark_at c) 0 n b b Still l (omega arith))
    ∙ ap (λ (ms : List Mark). get_or ms b Still) marks_n
    ∙ get_or-map-range_with_len (mark_at d) 0 n b b Still l (omega arith) in
    let long_up_c = h.as_long in
    let long_up_d = k.as_long in
    let xs : c.x ≡ d.x =
    ext_get_or false c.x d.x (ec ∙ sym ed) (λ i l. x_same c d n i each parts.0 (omega arith)) in
    let ups : c.up ≡ d.up =
    ext_get_or false c.up d.up (omega arith)
    (λ i l. up_same c d n i
    (record {
      first = h;
      second = k;
      first_long = ec;
      second_long = ed;
      same = marks_n;
      one = one;
    }) (omega arith)) in
    let along_x : c ≡ record { x = d.x; up = c.up } =
    ap (λ (l : List Bool). record { x = l; up = c.up }) xs in
    along_x ∙ ap (λ (l : List Bool). record { x = d.x; up = l }) ups
