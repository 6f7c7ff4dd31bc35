-- Laws of privileges that the crates above may cite: there are as many as marks.
use Rattle.std.specs.Prelude.{◌≡◌, ℕ, zero, suc, ◌+◌, ◌-◌, ◌<◌, Bool, true, false, cond, not, ◌&&◌}
use Rattle.std.specs.Prelude.{List, [], ◌∷◌, ◌++◌, map, length}
use Rattle.std.specs.List.{count_by, flat_map, range_with_len}
use Rattle.std.specs.Bool.{beq}
use Rattle.std.proofs.Common.{refl, sym, ◌∙◌, ap, arith, add_assoc, add-zero, zero-add}
use Rattle.std.proofs.lemmas.Bool.{lt-ltb, le-ltb, eq-eqb, ne_eqb, false≢true}
use Rattle.std.proofs.lemmas.List.Sums.{length-filter, sum_by-append}
use Rattle.std.proofs.lemmas.List.FromFn.{map-range_with_len_more}
use Rattle.four_state.specs.Configuration.{Configuration, IsConfiguration, stations, x_at, up_at}
use Rattle.four_state.specs.Configuration.{differ}
use Rattle.four_state.specs.Privilege.{guard, is_middle, every_rule, every_pair, privileges_of}
use Rattle.four_state.specs.Laws.{SomeoneIsPrivileged}
use Rattle.four_state.specs.Marks.{Mark, Rising, Falling, Still, rises, falls, mark_at, marks_from}
use Rattle.four_state.specs.Marks.{marks_of, mark_count, is_privilege}
use Rattle.four_state.specs.declared.rules.Rule.{Rule}
use Rattle.four_state.specs.declared.rules.Rule.TheVariants.{Bottom, Top, Raise, Lower}

-- 1 for what is so, else 0
abbrev one : Bool → ℕ
one b = cond b 1 0

differ-comm : (a b : Bool) → differ a b ≡ differ b a
differ-comm true true = refl
differ-comm true false = refl
differ-comm false true = refl
differ-comm false false = refl

not-not : (b : Bool) → not (not b) ≡ b
not-not true = refl
not-not false = refl

-- ---- the guards by marks

pub guard-bottom : (c : Configuration) → IsConfiguration c → guard c 0 Bottom ≡ falls c 0
guard-bottom c h = rw (h.up_at_the_bottom, not-not (beq (x_at c 0) (x_at c 1)))

pub guard-top : (c : Configuration) (b : ℕ) → b + 2 ≡ stations c → guard c (b + 1) Top ≡ rises c b
guard-top c b e =
    let last = eq-eqb (b + 1 + 1) (stations c) (omega arith) in
    let below : b + 1 - 1 ≡ b = omega arith in
    rw (last, below) (differ-comm (x_at c (b + 1)) (x_at c b))

pub middle : (c : Configuration) (b : ℕ) → b + 2 < stations c → is_middle c (b + 1) ≡ true
middle c b l =
    let above = lt-ltb 0 (b + 1) (omega arith) in
    let under = lt-ltb (b + 1 + 1) (stations c) (omega arith) in
    rw (above, under)

pub guard-raise : (c : Configuration) (b : ℕ) → b + 2 < stations c
    → guard c (b + 1) Raise ≡ rises c b
guard-raise c b l =
    let below : b + 1 - 1 ≡ b = omega arith in
    rw (middle c b l, below) (differ-comm (x_at c (b + 1)) (x_at c b))

pub guard-lower : (c : Configuration) (b : ℕ) → b + 2 < stations c
    → guard c (b + 1) Lower ≡ falls c (b + 1)
guard-lower c b l = rw (middle c b l, not-not (beq (x_at c (b + 1)) (x_at c (b + 1 + 1))))

-- ---- the marks are as many as the privileges

-- the pairs of one station
abbrev pairs_at : ℕ → List (ℕ × Rule)
pairs_at s = map (λ rule. (s, rule)) every_rule

-- how many of them are privileges
abbrev privileges_at : Configuration → ℕ → ℕ
privileges_at c s = count_by (λ pair. guard c pair.0 pair.1) (pairs_at s)

-- how many privileges there are among the pairs of n stations, from station a on
abbrev privileges_from : Configuration → ℕ → ℕ → ℕ
privileges_from c a n =
    count_by (λ pair. guard c pair.0 pair.1) (flat_map pairs_at (range_with_len a n))

privileges_from-suc : (c : Configuration) (a n : ℕ)
    → privileges_from c a (suc n) ≡ privileges_at c a + privileges_from c (a + 1) n
privileges_from-suc c a n =
    sum_by-append (λ (pair : ℕ × Rule). one (guard c pair.0 pair.1)) (pairs_at a)
    (flat_map pairs_at (range_with_len (a + 1) n))

privileges_at-bottom : (c : Configuration) → IsConfiguration c → privileges_at c 0 ≡ one (falls c 0)
privileges_at-bottom c h =
    let two = h.at_least_two in
    let not_top = ne_eqb 1 (stations c) (λ e. absurd (omega arith)) in
    rw (guard-bottom c h, not_top) (omega arith)

privileges_at-top : (c : Configuration) (b : ℕ) → b + 2 ≡ stations c
    → privileges_at c (b + 1) ≡ one (rises c b)
privileges_at-top c b e =
    let not_bottom = ne_eqb (b + 1) 0 (λ q. absurd (omega arith)) in
    let not_middle = le-ltb (b + 1 + 1) (stations c) (omega arith) in
    let above = lt-ltb 0 (b + 1) (omega arith) in
    rw (guard-top c b e, not_bottom, above, not_middle) (omega arith)

privileges_at-middle : (c : Configuration) (b : ℕ) → b + 2 < stations c
    → privileges_at c (b + 1) ≡ one (rises c b) + one (falls c (b + 1))
privileges_at-middle c b l =
    let not_bottom = ne_eqb (b + 1) 0 (λ q. absurd (omega arith)) in
    let not_top = ne_eqb (b + 1 + 1) (stations c) (λ q. absurd (omega arith)) in
    rw (guard-raise c b l, guard-lower c b l, not_bottom, not_top) (omega arith)

one-mark : (r u v : Bool)
    → one (is_privilege (cond r Rising (cond (not r && (u && not v)) Falling Still)))
    ≡ one r + one (not r && (u && not v))
one-mark true u v = refl
one-mark false true true = refl
one-mark false true false = refl
one-mark false false v = refl

-- a mark is one privilege
pub one-mark_at : (c : Configuration) (b : ℕ)
    → one (is_privilege (mark_at c b)) ≡ one (rises c b) + one (falls c b)
one-mark_at c b = one-mark (rises c b) (up_at c b) (up_at c (b + 1))

joined : {total here above mark : ℕ} (rises_below falls_here rises_here marks : ℕ)
    → total ≡ here + above → here ≡ rises_below + falls_here → above ≡ rises_here + marks
    → mark ≡ rises_here + falls_here → total ≡ rises_below + (mark + marks)
joined rises_below falls_here rises_here marks a b c d = omega arith

privileges_above : (c : Configuration) (n b : ℕ) → b + n + 2 ≡ stations c
    → privileges_from c (b + 1) (suc n) ≡ one (rises c b) + mark_count (marks_from c (b + 1) n)
privileges_above c zero b e =
    privileges_from-suc c (b + 1) 0 ∙ ap (λ k. k + 0) (privileges_at-top c b (omega arith))
privileges_above c (suc n) b e =
    joined (one (rises c b)) (one (falls c (b + 1))) (one (rises c (b + 1)))
    (mark_count (marks_from c (b + 1 + 1) n)) (privileges_from-suc c (b + 1) (suc n))
    (privileges_at-middle c b (omega arith)) (privileges_above c n (b + 1) (omega arith))
    (one-mark_at c (b + 1))

-- As many privileges are present as there are marks.
pub length-privileges_of : (c : Configuration) → IsConfiguration c
    → length (privileges_of c) ≡ mark_count (marks_of c)
length-privileges_of c h =
    let two = h.at_least_two in
    let n = stations c - 2 in
    let counted = length-filter (λ (pair : ℕ × Rule). guard c pair.0 pair.1) (every_pair c) in
    let all : suc (suc n) ≡ stations c = omega arith in
    let rest : suc n ≡ stations c - 1 = omega arith in
    let whole : privileges_from c 0 (suc (suc n)) ≡ mark_count (marks_from c 0 (suc n)) =
    joined 0 (one (falls c 0)) (one (rises c 0)) (mark_count (marks_from c 1 n))
    (privileges_from-suc c 0 (suc n)) (privileges_at-bottom c h
    ∙ sym (zero-add (one (falls c 0)))) (privileges_above c n 0 (omega arith)) (one-mark_at c 0)
    ∙ zero-add (mark_count (marks_from c 0 (suc n))) in
    counted ∙ sym (ap (privileges_from c 0) all) ∙ whole
    ∙ ap (λ k. mark_count (marks_from c 0 k)) rest

-- ---- the marks so far

pub mark_count-append : (front back : List Mark)
    → mark_count (front ++ back) ≡ mark_count front + mark_count back
mark_count-append [] back = sym (zero-add (mark_count back))
mark_count-append (m ∷ front) back =
    ap (λ k. one (is_privilege m) + k) (mark_count-append front back)
    ∙ sym (add_assoc (one (is_privilege m)) (mark_count front) (mark_count back))

pub mark_count-more : (c : Configuration) (b : ℕ)
    → mark_count (marks_from c 0 (b + 1))
    ≡ mark_count (marks_from c 0 b) + (one (rises c b) + one (falls c b))
mark_count-more c b =
    ap mark_count (map-range_with_len_more (mark_at c) 0 b b (omega arith))
    ∙ mark_count-append (marks_from c 0 b) (mark_at c b ∷ [])
    ∙ ap (λ k. mark_count (marks_from c 0 b) + k)
    (add-zero (one (is_privilege (mark_at c b))) ∙ one-mark_at c b)

-- ---- someone is always privileged

still_up : (r u v : Bool)
    → one (is_privilege (cond r Rising (cond (not r && (u && not v)) Falling Still))) ≡ 0 → u ≡ true
    → v ≡ true
still_up r u true e up = refl
still_up true u false e up = absurd (omega arith)
still_up false true false e up = absurd (omega arith)
still_up false false false e up = up

-- without a mark, whoever stands above one that is up is up
pub up_above : (c : Configuration) (n a : ℕ) → mark_count (marks_from c a n) ≡ 0 → up_at c a ≡ true
    → up_at c (a + n) ≡ true
up_above c zero a e up = rw add-zero up
up_above c (suc n) a e up =
    let next = still_up (rises c a) (up_at c a) (up_at c (a + 1)) (omega arith) up in
    let top = up_above c n (a + 1) (omega arith) next in
    let same : a + 1 + n ≡ a + suc n = omega arith in
    rw same at top

some_mark : (c : Configuration) → IsConfiguration c → mark_count (marks_of c) ≡ 0 → ⊥
some_mark c h e =
    let top = up_above c (stations c - 1) 0 e h.up_at_the_bottom in
    false≢true (sym h.not_up_at_the_top ∙ ap (up_at c) (sym (zero-add (stations c - 1))) ∙ top)

pub one-le-privileges : SomeoneIsPrivileged
one-le-privileges c h =
    let counted = length-privileges_of c h in
    let none : length (privileges_of c) ≡ 0 → ⊥ = λ e. some_mark c h (sym counted ∙ e) in
    omega arith
