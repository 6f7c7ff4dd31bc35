-- Rows: the marks of the line from the bottom up, each with the bit up of the station above its
-- boundary; and what a move does to them, at the station's own two boundaries.
use Rattle.std.proofs.Common.{◌≡◌, ℕ, zero, suc, ◌+◌, ◌-◌, ◌≤◌, Bool, true, false, cond, List, []}
use Rattle.std.proofs.Common.{◌∷◌, ◌++◌, map, length, refl, ap, ◌∙◌, arith, zero-add, add-zero}
use Rattle.std.specs.List.{range_with_len}
use Rattle.four_state.specs.Configuration.{Configuration, stations, up_at}
use Rattle.four_state.specs.Marks.{Mark, Rising, Falling, Still, is_privilege, mark_at, marks_from}
use Rattle.four_state.specs.Marks.{mark_count}

-- a boundary with its mark, or bare; above a mark D the station is never up
pub data Cell : Type 0 where
  Rise : Bool → Cell
  Fall : Cell
  Bare : Bool → Cell

abbrev pub cell_of : Mark → Bool → Cell
cell_of Rising up = Rise up
cell_of Falling up = Fall
cell_of Still up = Bare up

abbrev pub mark_of : Cell → Mark
mark_of (Rise up) = Rising
mark_of Fall = Falling
mark_of (Bare up) = Still

-- the boundary between stations b and b + 1
abbrev pub cell_at : Configuration → ℕ → Cell
cell_at c b = cell_of (mark_at c b) (up_at c (b + 1))

-- n boundaries, from boundary a on
abbrev pub cells_from : Configuration → ℕ → ℕ → List Cell
cells_from c a n = map (cell_at c) (range_with_len a n)

-- all boundaries, from the bottom
abbrev pub cells_of : Configuration → List Cell
cells_of c = cells_from c 0 (stations c - 1)

-- how many marks there are
abbrev pub count : List Cell → ℕ
count [] = 0
count (Rise up ∷ cells) = count cells + 1
count (Fall ∷ cells) = count cells + 1
count (Bare up ∷ cells) = count cells

-- A rise goes up onto a boundary, and what it leaves there. The station between was up, or not.
pub data Onto : Bool → Cell → Cell → Type 0 where
  leaves_fall : (up : Bool) → Onto up (Rise false) Fall
  leaves_none : (up : Bool) → Onto up (Rise true) (Bare true)
  onto_up : (up : Bool) → Onto up (Bare true) (Rise true)
  onto_low : Onto false (Bare false) (Rise false)
  onto_fall : Onto true Fall (Rise false)

-- A fall goes down onto a boundary, and what it leaves there. It vanishes only where there is a
-- mark below.
pub data Under (below : ℕ) : Cell → Cell → Type 0 where
  under_rise : Under below (Rise true) (Rise false)
  falls_on : Under below (Bare true) Fall
  vanishes : 1 ≤ below → Under below (Bare true) (Bare false)

-- a rise at the top turns into a fall, or vanishes
pub data AtTop : Cell → Type 0 where
  turns : AtTop Fall
  ends : AtTop (Bare false)

-- how station s changes the row
pub data Change (s : ℕ) (before later : List Cell) : Type 0 where
  bottom : (back : List Cell) → s ≡ 0 → before ≡ Fall ∷ back → later ≡ Rise false ∷ back
      → Change s before later
  raise : (front back : List Cell) (up : Bool) (m k : Cell) → Onto up m k → s ≡ length front + 1
      → before ≡ front ++ Rise up ∷ m ∷ back → later ≡ front ++ Bare true ∷ k ∷ back
      → Change s before later
  lower : (front back : List Cell) (m k : Cell) → Under (count front) m k → s ≡ length front + 1
      → before ≡ front ++ m ∷ Fall ∷ back → later ≡ front ++ k ∷ Bare false ∷ back
      → Change s before later
  top : (front : List Cell) (k : Cell) → AtTop k → s ≡ length front + 1
      → before ≡ front ++ Rise false ∷ [] → later ≡ front ++ k ∷ [] → Change s before later

-- ---- a row has the marks of the line

count-cell : (m : Mark) (up : Bool) (cells : List Cell)
    → count (cell_of m up ∷ cells) ≡ cond (is_privilege m) 1 0 + count cells
count-cell Rising up cells = omega arith
count-cell Falling up cells = omega arith
count-cell Still up cells = omega arith

pub count-cells_from : (c : Configuration) (n a : ℕ)
    → count (cells_from c a n) ≡ mark_count (marks_from c a n)
count-cells_from c zero a = refl
count-cells_from c (suc n) a =
    let first = count-cell (mark_at c a) (up_at c (a + 1)) (cells_from c (a + 1) n) in
    let rest = count-cells_from c n (a + 1) in
    omega arith

mark-cell : (m : Mark) (up : Bool) → mark_of (cell_of m up) ≡ m
mark-cell Rising up = refl
mark-cell Falling up = refl
mark-cell Still up = refl

pub marks-cells_from : (c : Configuration) (n a : ℕ)
    → map mark_of (cells_from c a n) ≡ marks_from c a n
marks-cells_from c zero a = refl
marks-cells_from c (suc n) a =
    let first = mark-cell (mark_at c a) (up_at c (a + 1)) in
    ap (λ (m : Mark). m ∷ map mark_of (cells_from c (a + 1) n)) first
    ∙ ap (λ (ms : List Mark). mark_at c a ∷ ms) (marks-cells_from c n (a + 1))

-- boundaries in two parts
pub map_range-add : {X : Type 0} (at : ℕ → X) (n k a : ℕ)
    → map at (range_with_len a (n + k))
    ≡ map at (range_with_len a n) ++ map at (range_with_len (a + n) k)
map_range-add at zero k a = rw (zero-add, add-zero)
map_range-add {X = X} at (suc n) k a =
    let counted : suc n + k ≡ suc (n + k) = omega arith in
    let place : a + 1 + n ≡ a + suc n = omega arith in
    rw (counted, ← place) (ap (λ (xs : List X). at a ∷ xs) (map_range-add at n k (a + 1)))
