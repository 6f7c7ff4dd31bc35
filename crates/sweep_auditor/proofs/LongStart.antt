-- The start of the longest run.
use Rattle.std.proofs.Common.{◌≡◌, ℕ, zero, suc, ◌+◌, ◌-◌, ◌*◌, ◌^◌, ◌<◌, ◌≤◌, Bool, true, false}
use Rattle.std.proofs.Common.{cond, not, ◌&&◌, List, ◌∷◌, ◌++◌, map, refl, sym, ap, ◌∙◌, arith}
use Rattle.std.proofs.Common.{zero-add}
use Rattle.std.specs.Prelude.{◌==◌, nat_lt}
use Rattle.std.specs.List.{range_with_len}
use Rattle.std.proofs.lemmas.Bool.{ne_eqb, lt-ltb, le-ltb}
use Rattle.std.proofs.lemmas.List.FromFn.{length-map-range_with_len, get_or-map-range_with_len}
use Rattle.four_state.specs.Configuration.{Configuration, IsConfiguration, stations, x_at, up_at}
use Rattle.sweep_auditor.specs.Sharpness.{NoFewerMoves, NoFewerMovesFromAny}
use Rattle.sweep_auditor.proofs.Rows.{Cell, Rise, Fall, Bare, count, cell_at, cells_from, cells_of}
use Rattle.sweep_auditor.proofs.Rows.{map_range-add}
use Rattle.sweep_auditor.proofs.Local.{cell, cell_is}
use Rattle.sweep_auditor.proofs.Bound.{counted, square_is}
use Rattle.sweep_auditor.proofs.Longest.{many, long_row, count-long_row, longest_row}

-- x is the same at stations 0 and 1, differs between neighbors from there to station k, and is the
-- same above
abbrev x_bit : ℕ → ℕ → Bool
x_bit k zero = false
x_bit k (suc zero) = false
x_bit k (suc (suc s)) = cond (nat_lt (suc s) k) (not (x_bit k (suc s))) (x_bit k (suc s))

-- the stations below station k are up, but station 1
abbrev up_bit : ℕ → ℕ → Bool
up_bit k s = not (s == 1) && nat_lt s k

abbrev start : ℕ → ℕ → Configuration
start n k = record {
  x = map (x_bit k) (range_with_len 0 (n + 1));
  up = map (up_bit k) (range_with_len 0 (n + 1));
}

x_start : (n k s : ℕ) → s < n + 1 → x_at (start n k) s ≡ x_bit k s
x_start n k s l = get_or-map-range_with_len (x_bit k) 0 (n + 1) s s false l (zero-add s)

up_start : (n k s : ℕ) → s < n + 1 → up_at (start n k) s ≡ up_bit k s
up_start n k s l = get_or-map-range_with_len (up_bit k) 0 (n + 1) s s false l (zero-add s)

up_below : (n k s : ℕ) → s < k → k ≤ n → (s ≡ 1 → ⊥) → up_at (start n k) s ≡ true
up_below n k s l within other =
    let not_first = ne_eqb s 1 other in
    let below = lt-ltb s k l in
    up_start n k s (omega arith) ∙ rw (not_first, below) refl

up_above : (n k s : ℕ) → 2 ≤ k → k ≤ s → s ≤ n → up_at (start n k) s ≡ false
up_above n k s two l within =
    let not_first = ne_eqb s 1 (λ e. absurd (omega arith)) in
    let above = le-ltb s k l in
    up_start n k s (omega arith) ∙ rw (not_first, above) refl

start_long : (n k : ℕ) → stations (start n k) ≡ n + 1
start_long n k = length-map-range_with_len (x_bit k) 0 (n + 1)

start_is : (n k : ℕ) → 3 ≤ n → 2 ≤ k → k ≤ n → IsConfiguration (start n k)
start_is n k three two within =
    let long = start_long n k in
    let last : stations (start n k) - 1 ≡ n = omega arith in
    record {
      as_long = length-map-range_with_len (up_bit k) 0 (n + 1) ∙ sym long;
      at_least_two = omega arith;
      up_at_the_bottom = up_below n k 0 (omega arith) within (λ e. absurd (omega arith));
      not_up_at_the_top = ap (up_at (start n k)) last ∙ up_above n k n two within (omega arith);
    }

-- ---- its row

rises_by : (a u v : Bool) → cell a (not a) u v ≡ Rise v
rises_by true u v = refl
rises_by false u v = refl

bare_by : (a : Bool) → cell a a false false ≡ Bare false
bare_by true = refl
bare_by false = refl

first_cell : (n k : ℕ) → 3 ≤ n → 2 ≤ k → k ≤ n → cell_at (start n k) 0 ≡ Fall
first_cell n k three two within =
    cell_is (start n k) 0 false false true false (x_start n k 0 (omega arith))
    (x_start n k 1 (omega arith))
    (up_below n k 0 (omega arith) within (λ e. absurd (omega arith))) (up_start n k 1 (omega arith))

rise_cell : (n k s : ℕ) (v : Bool) → suc s < k → k ≤ n → up_at (start n k) (suc s + 1) ≡ v
    → cell_at (start n k) (suc s) ≡ Rise v
rise_cell n k s v l within up =
    let here = x_bit k (suc s) in
    let e : suc s + 1 ≡ suc (suc s) = omega arith in
    let below = lt-ltb (suc s) k l in
    let flips : x_bit k (suc (suc s)) ≡ not here = rw below refl in
    let next = ap (x_at (start n k)) e ∙ x_start n k (suc (suc s)) (omega arith) ∙ flips in
    cell_is (start n k) (suc s) here (not here) (up_at (start n k) (suc s)) v
    (x_start n k (suc s) (omega arith)) next refl up
    ∙ rises_by here (up_at (start n k) (suc s)) v

bare_cell : (n k s : ℕ) → 2 ≤ k → k ≤ suc s → suc s + 1 ≤ n
    → cell_at (start n k) (suc s) ≡ Bare false
bare_cell n k s two l within =
    let here = x_bit k (suc s) in
    let e : suc s + 1 ≡ suc (suc s) = omega arith in
    let above = le-ltb (suc s) k l in
    let stays : x_bit k (suc (suc s)) ≡ here = rw above refl in
    let next = ap (x_at (start n k)) e ∙ x_start n k (suc (suc s)) (omega arith) ∙ stays in
    cell_is (start n k) (suc s) here here false false (x_start n k (suc s) (omega arith)) next
    (up_above n k (suc s) two l (omega arith))
    (up_above n k (suc s + 1) two (omega arith) within) ∙ bare_by here

rise_cells : (n k m s : ℕ) → k ≤ n → s + 1 + m + 1 ≤ k
    → cells_from (start n k) (suc s) m ≡ many m (Rise true)
rise_cells n k zero s within l = refl
rise_cells n k (suc m) s within l =
    let e : suc s + 1 ≡ suc (suc s) = omega arith in
    let first = rise_cell n k s true (omega arith) within
    (up_below n k (suc s + 1) (omega arith) within (λ e. absurd (omega arith))) in
    let rest = ap (λ a. cells_from (start n k) a m) e
    ∙ rise_cells n k m (suc s) within (omega arith) in
    ap (λ (c : Cell). c ∷ cells_from (start n k) (suc s + 1) m) first
    ∙ ap (λ (l : List Cell). Rise true ∷ l) rest

bare_cells : (n k m s : ℕ) → 2 ≤ k → k ≤ suc s → suc s + m ≤ n
    → cells_from (start n k) (suc s) m ≡ many m (Bare false)
bare_cells n k zero s two l within = refl
bare_cells n k (suc m) s two l within =
    let e : suc s + 1 ≡ suc (suc s) = omega arith in
    let first = bare_cell n k s two l (omega arith) in
    let rest = ap (λ a. cells_from (start n k) a m) e
    ∙ bare_cells n k m (suc s) two (omega arith) (omega arith) in
    ap (λ (c : Cell). c ∷ cells_from (start n k) (suc s + 1) m) first
    ∙ ap (λ (l : List Cell). Bare false ∷ l) rest

start_row : (n k i q : ℕ) → 3 ≤ n → k ≡ i + 2 → n ≡ i + 2 + q → cells_of (start n k) ≡ long_row i q
start_row n k i q three e all =
    let c = start n k in
    let long = start_long n k in
    let counts : stations c - 1 ≡ suc (i + suc q) = omega arith in
    let first = first_cell n k three (omega arith) (omega arith) in
    let parts = map_range-add (cell_at c) i (suc q) 1 in
    let middle = rise_cells n k i 0 (omega arith) (omega arith) in
    let place : 1 + i ≡ suc i = omega arith in
    let next : suc i + 1 ≡ suc (suc i) = omega arith in
    let last = rise_cell n k i false (omega arith) (omega arith)
    (up_above n k (suc i + 1) (omega arith) (omega arith) (omega arith)) in
    let beyond = ap (λ a. cells_from c a q) next
    ∙ bare_cells n k q (suc i) (omega arith) (omega arith) (omega arith) in
    let back : cells_from c (1 + i) (suc q) ≡ Rise false ∷ many q (Bare false) =
    ap (λ a. cells_from c a (suc q)) place ∙ ap (λ (m : Cell). m ∷ cells_from c (suc i + 1) q) last
    ∙ ap (λ (l : List Cell). Rise false ∷ l) beyond in
    ap (cells_from c 0) counts ∙ ap (λ (m : Cell). m ∷ cells_from c 1 (i + suc q)) first
    ∙ ap (λ (l : List Cell). Fall ∷ l) parts
    ∙ ap (λ (l : List Cell). Fall ∷ (l ++ cells_from c (1 + i) (suc q))) middle
    ∙ ap (λ (l : List Cell). Fall ∷ (many i (Rise true) ++ l)) back

-- From N = 3 on, for each k from 2 to N, there is a run of (k - 1)·(2·N - k) moves that contains no
-- legitimate configuration.
pub no_fewer_moves : NoFewerMoves
no_fewer_moves n k three two within =
    let i = k - 2 in
    let q = n - k in
    let p = n - 3 in
    let some : k ≡ i + 2 = omega arith in
    let all : n ≡ i + 2 + q = omega arith in
    let is = start_is n k three two within in
    let row = start_row n k i q three some all in
    let lasting = longest_row i q p (omega arith) (start n k) is row in
    let less : k - 1 ≡ i + 1 = omega arith in
    let twice : 2 * n - k ≡ i + q + q + 2 = omega arith in
    let number : (i + 1) * (i + q + q + 2) ≡ (k - 1) * (2 * n - k) = rw (less, twice) refl in
    let long = start_long n k in
    let marks = sym (counted (start n k) is) ∙ ap count row in
    let known = count-long_row i q in
    record {
      start = start n k;
      moves = lasting.moves;
      configuration = is;
      top = omega arith;
      privileges = omega arith;
      run = lasting.run;
      as_many = let long_run = lasting.as_many in omega arith;
      never_legitimate = λ j l one. let crowd = lasting.crowded j (omega arith) in
          absurd (omega arith);
    }

pub no_fewer_moves_from_any : NoFewerMovesFromAny
no_fewer_moves_from_any n three =
    let j = n - 1 in
    let most = no_fewer_moves n n three (omega arith) (omega arith) in
    let square : n ^ 2 ≡ (j + 1) * (j + 1) = square_is n ∙ ap (λ k. k * k) (omega arith) in
    let less : n - 1 ≡ j = refl in
    let twice : 2 * n - n ≡ j + 1 = omega arith in
    let number : (n - 1) * (2 * n - n) ≡ j * (j + 1) = ap (λ a. j * a) twice in
    let same : (n - 1) * (2 * n - n) ≡ n ^ 2 - n = omega arith in
    rw same at most
