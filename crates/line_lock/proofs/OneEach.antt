-- As many seats as stations, and one at least for each: then one for each.
use Rattle.std.proofs.Common.{◌≡◌, ◌≢◌, ◌+◌, ◌<◌, ◌≤◌, ◌==◌, ◌∷◌, [], ℕ, zero, suc, Bool, true}
use Rattle.std.proofs.Common.{false, cond, List, length, refl, sym, ◌∙◌, ap, subst, arith, inl, inr}
use Rattle.std.proofs.lemmas.Bool.{cases_eq}
use Rattle.std.proofs.lemmas.List.Sums.{sum_by-cons}
use Rattle.std.proofs.lemmas.Bool.Decides.{nat_tests}
use Rattle.line_lock.specs.Seat.{SeatState}
use Rattle.line_lock.specs.Account.{seats_of}

-- the sum of the first values of a function
abbrev below : ℕ → (ℕ → ℕ) → ℕ
below zero f = 0
below (suc n) f = below n f + f n

-- 1 at one number, 0 elsewhere
abbrev at : ℕ → ℕ → ℕ
at s k = cond (s == k) 1 0

below-none : (n : ℕ) → below n (λ k. 0) ≡ 0
below-none zero = refl
below-none (suc n) = omega (arith, below-none n)

below-both : (n : ℕ) (f h : ℕ → ℕ) → below n (λ k. f k + h k) ≡ below n f + below n h
below-both zero f h = refl
below-both (suc n) f h = omega (arith, below-both n f h)

-- all of them are at most 1, and below that number 0
below-early : (n s : ℕ) → n ≤ s → below n (at s) ≡ 0
below-early zero s le = refl
below-early (suc n) s le =
    let no : (s == n) ≡ false = grind (arith, nat_tests, le) in
    let none : at s n ≡ 0 = ap (λ (b : Bool). cond b 1 0) no in
    omega (arith, below-early n s (omega (arith, le)), none)

below-at : (n s : ℕ) → below n (at s) ≤ 1
below-at zero s = omega arith
below-at (suc n) s = elim (cases_eq s n) [
  | inl here ↦
      let yes : (s == n) ≡ true = grind (arith, nat_tests, here) in
      let one : at s n ≡ 1 = ap (λ (b : Bool). cond b 1 0) yes in
      omega (arith, below-early n s (omega (arith, here)), one)
  | inr differs ↦
      let no : (s == n) ≡ false = grind (arith, nat_tests, differs) in
      let none : at s n ≡ 0 = ap (λ (b : Bool). cond b 1 0) no in
      omega (arith, below-at n s, none)
]

-- the seats of the first stations are seats
most : (n : ℕ) (seats : List SeatState) → below n (λ k. seats_of k seats) ≤ length seats
most n [] = omega (arith, below-none n)
most n (seat ∷ seats) =
    let each : (k : ℕ) → seats_of k (seat ∷ seats) ≡ at seat.station k + seats_of k seats =
    λ k. sum_by-cons (λ (s : SeatState). at s.station k) seat seats in
    let sum : below n (λ k. seats_of k (seat ∷ seats))
    ≡ below n (at seat.station) + below n (λ k. seats_of k seats) =
    ap (below n) (λ i k. each k i) ∙ below-both n (at seat.station) (λ k. seats_of k seats) in
    omega (arith, sum, below-at n seat.station, most n seats)

-- where each value is 1 at least, and they are as many at most as their sum
least : (n : ℕ) (f : ℕ → ℕ) → ((k : ℕ) → k < n → f k ≢ 0) → n ≤ below n f
least zero f each = omega arith
least (suc n) f each = let there = each n (omega arith) in
    omega (arith, least n f (λ k lt. each k (omega (arith, lt))), there)

all_one : (n : ℕ) (f : ℕ → ℕ) → ((k : ℕ) → k < n → f k ≢ 0) → below n f ≤ n → (k : ℕ) → k < n
    → f k ≡ 1
all_one zero f each sum k lt = absurd (omega (arith, lt))
all_one (suc n) f each sum k lt =
    let there = each n (omega arith) in
    let others = least n f (λ j l. each j (omega (arith, l))) in
    elim (cases_eq k n) [
      | inl here ↦ subst (λ (j : ℕ). f j ≡ 1) (sym here) (omega (arith, sum, others, there))
      | inr differs ↦
          all_one n f (λ j l. each j (omega (arith, l))) (omega (arith, sum, there)) k
          (omega (arith, lt, differs))
    ]

pub one_each : (n : ℕ) (seats : List SeatState) → length seats ≡ n
    → ((k : ℕ) → k < n → seats_of k seats ≢ 0) → (k : ℕ) → k < n → seats_of k seats ≡ 1
one_each n seats size each =
    all_one n (λ k. seats_of k seats) each (omega (arith, most n seats, size))
