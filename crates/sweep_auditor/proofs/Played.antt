-- Moves that a row allows, and how long a line with that row can go on without a legitimate
-- configuration.
use Rattle.std.proofs.Common.{◌≡◌, ℕ, zero, suc, ◌+◌, ◌-◌, ◌<◌, ◌≤◌, Bool, true, false, not, ◌&&◌}
use Rattle.std.proofs.Common.{List, [], ◌∷◌, ◌++◌}
use Rattle.std.proofs.Common.{length, take, drop, get_or, refl, sym, ap, ◌∙◌, subst, arith}
use Rattle.std.proofs.Common.{length-append, zero-add}
use Rattle.std.specs.Bool.{beq}
use Rattle.std.proofs.lemmas.Bool.{and_parts, not-true, false≢true}
use Rattle.std.proofs.lemmas.List.{take_at, append_cancel_left}
use Rattle.std.proofs.lemmas.List.FromFn.{length-map-range_with_len}
use Rattle.four_state.specs.Configuration.{Configuration, IsConfiguration, stations, x_at, up_at}
use Rattle.four_state.specs.Configuration.{differ}
use Rattle.four_state.specs.Privilege.{IsPrivilege}
use Rattle.four_state.specs.Motion.{moved}
use Rattle.four_state.specs.MotionLaws.{IsConfiguration-moved}
use Rattle.four_state.specs.PrivilegeLaws.{guard-bottom, guard-top, guard-raise, guard-lower}
use Rattle.four_state.specs.declared.rules.Rule.{Rule}
use Rattle.four_state.specs.declared.rules.Rule.TheVariants.{Bottom, Top, Raise, Lower}
use Rattle.sweep_auditor.specs.Run.{next, configuration_at, IsRun}
use Rattle.sweep_auditor.specs.declared.moves.Move.{Move}
use Rattle.sweep_auditor.proofs.Rows.{Cell, Rise, Fall, Bare, cell_of, cell_at, cells_from}
use Rattle.sweep_auditor.proofs.Rows.{cells_of, count}
use Rattle.sweep_auditor.proofs.Local.{cell, mark-bottom, cells_round, cells_to_top}
use Rattle.sweep_auditor.proofs.Local.{cells_from_bottom, raise_row, lower_row, bottom_row, top_row}
use Rattle.sweep_auditor.proofs.Bound.{IsCrowded, counted}

-- ---- what a cell tells of its four bits

abbrev is_rise : Cell → Bool
is_rise (Rise up) = true
is_rise Fall = false
is_rise (Bare up) = false

abbrev is_fall : Cell → Bool
is_fall (Rise up) = false
is_fall Fall = true
is_fall (Bare up) = false

abbrev up_of : Cell → Bool
up_of (Rise up) = up
up_of Fall = false
up_of (Bare up) = up

is_rise-cell : (a b u v : Bool) → is_rise (cell a b u v) ≡ differ a b
is_rise-cell true true true true = refl
is_rise-cell true true true false = refl
is_rise-cell true true false v = refl
is_rise-cell true false u v = refl
is_rise-cell false true u v = refl
is_rise-cell false false true true = refl
is_rise-cell false false true false = refl
is_rise-cell false false false v = refl

is_fall-cell : (a b u v : Bool) → is_fall (cell a b u v) ≡ (not (differ a b) && (u && not v))
is_fall-cell true true true true = refl
is_fall-cell true true true false = refl
is_fall-cell true true false v = refl
is_fall-cell true false u v = refl
is_fall-cell false true u v = refl
is_fall-cell false false true true = refl
is_fall-cell false false true false = refl
is_fall-cell false false false v = refl

up_of-cell : (a b u v : Bool) → up_of (cell a b u v) ≡ v
up_of-cell true true true true = refl
up_of-cell true true true false = refl
up_of-cell true true false v = refl
up_of-cell true false u v = refl
up_of-cell false true u v = refl
up_of-cell false false true true = refl
up_of-cell false false true false = refl
up_of-cell false false false v = refl

differ-turned : (a b : Bool) → differ a b ≡ true → differ b a ≡ true
differ-turned true true e = absurd (cc)
differ-turned true false e = refl
differ-turned false true e = refl
differ-turned false false e = absurd (cc)

beq-same : (a b : Bool) → differ a b ≡ false → beq a b ≡ true
beq-same true true e = refl
beq-same true false e = absurd (cc)
beq-same false true e = absurd (cc)
beq-same false false e = refl

-- a bare boundary becomes a rise where the station below it flips x
raised_bare : (a b u v w : Bool) → cell a b u v ≡ Bare w → cell (not a) b true v ≡ Rise w
raised_bare a b u v w e =
    let same = beq-same a b (sym (is_rise-cell a b u v) ∙ ap is_rise e) in
    let bit = sym (up_of-cell a b u v) ∙ ap up_of e in
    ap (λ m. cell_of m v) (mark-bottom a b true v same) ∙ ap Rise bit

-- a bare boundary becomes a fall, and a rise stays, where the station above it is lowered
lowered_bare : (a b u : Bool) → cell a b u true ≡ Bare true → u ≡ true → cell a b u false ≡ Fall
lowered_bare true true true e up = refl
lowered_bare false false true e up = refl
lowered_bare true false u e up = absurd (false≢true (sym (ap is_rise e)))
lowered_bare false true u e up = absurd (false≢true (sym (ap is_rise e)))
lowered_bare a b false e up = absurd (false≢true up)

lowered_rise : (a b u : Bool) → cell a b u true ≡ Rise true → cell a b u false ≡ Rise false
lowered_rise true false u e = refl
lowered_rise false true u e = refl
lowered_rise true true true e = absurd (false≢true (ap is_rise e))
lowered_rise true true false e = absurd (false≢true (ap is_rise e))
lowered_rise false false true e = absurd (false≢true (ap is_rise e))
lowered_rise false false false e = absurd (false≢true (ap is_rise e))

-- a rise at the top becomes a fall
turned_rise : (a b u : Bool) → differ a b ≡ true → u ≡ true → cell a (not b) u false ≡ Fall
turned_rise true false true e up = refl
turned_rise false true true e up = refl
turned_rise true true u e up = absurd (cc)
turned_rise false false u e up = absurd (cc)
turned_rise a b false e up = absurd (false≢true up)

-- ---- the parts of a row

-- the bit up of the station above a row, where that of the station below it is given
abbrev pub above : Bool → List Cell → Bool
above up [] = up
above up (c ∷ cells) = above (up_of c) cells

above-cells_from : (c : Configuration) (n a : ℕ)
    → up_at c (a + n) ≡ above (up_at c a) (cells_from c a n)
above-cells_from c zero a = let here : a + 0 ≡ a = omega arith in ap (up_at c) here
above-cells_from c (suc n) a =
    let bit = up_of-cell (x_at c a) (x_at c (a + 1)) (up_at c a) (up_at c (a + 1)) in
    let place : a + suc n ≡ a + 1 + n = omega arith in
    ap (up_at c) place ∙ above-cells_from c n (a + 1)
    ∙ ap (λ u. above u (cells_from c (a + 1) n)) (sym bit)

append_parts : (front rest front' rest' : List Cell) → length front ≡ length front'
    → front ++ rest ≡ front' ++ rest' → (front ≡ front') × (rest ≡ rest')
append_parts front rest front' rest' long e =
    let fronts : front ≡ front' =
    sym (take_at front rest (length front') long) ∙ ap (take (length front')) e
    ∙ take_at front' rest' (length front') refl in (
      fronts,
      append_cancel_left front' rest rest'
          (ap (λ (xs : List Cell). xs ++ rest) (sym fronts) ∙ e),
    )

-- two boundaries of the row
record IsRound (c : Configuration) (front : List Cell) (x y : Cell)
    (back : List Cell) : Type 0 where
  long : stations c ≡ length front + length back + 3
  front_is : cells_from c 0 (length front) ≡ front
  here_is : cell_at c (length front) ≡ x
  next_is : cell_at c (length front + 1) ≡ y
  back_is : cells_from c (length front + 1 + 1) (length back) ≡ back

is_round : (c : Configuration) (front : List Cell) (x y : Cell) (back : List Cell)
    → IsConfiguration c → cells_of c ≡ front ++ x ∷ y ∷ back → IsRound c front x y back
is_round c front x y back h e =
    let b = length front in
    let q = length back in
    let two = h.at_least_two in
    let cells = length-map-range_with_len (cell_at c) 0 (stations c - 1) in
    let row = length-append front (x ∷ y ∷ back) in
    let same : length (cells_of c) ≡ length (front ++ x ∷ y ∷ back) = ap length e in
    let long : stations c ≡ b + q + 3 = omega arith in
    let here = length-map-range_with_len (cell_at c) 0 b in
    let parts = append_parts (cells_from c 0 b)
    (cell_at c b ∷ cell_at c (b + 1) ∷ cells_from c (b + 1 + 1) q) front (x ∷ y ∷ back) here
    (sym (cells_round c b q long) ∙ e) in
    record {
      long = long;
      front_is = parts.0;
      here_is = ap (λ (l : List Cell). get_or l 0 Fall) parts.1;
      next_is = ap (λ (l : List Cell). get_or l 1 Fall) parts.1;
      back_is = ap (drop 2) parts.1;
    }

-- ---- moves that a row allows

-- the station moves by this rule, and leaves that row
pub record Allows (c : Configuration) (s : ℕ) (rule : Rule) (later : List Cell) : Type 0 where
  pub privilege : IsPrivilege c s rule
  pub row : cells_of (moved c s rule) ≡ later

pub allows_raise : (front back : List Cell) (v w : Bool) (c : Configuration) → IsConfiguration c
    → cells_of c ≡ front ++ Rise v ∷ Bare w ∷ back
    → Allows c (length front + 1) Raise (front ++ Bare true ∷ Rise w ∷ back)
allows_raise front back v w c h e =
    let b = length front in
    let q = length back in
    let r = is_round c front (Rise v) (Bare w) back h e in
    let long = r.long in
    let p : differ (x_at c b) (x_at c (b + 1)) ≡ true =
    sym (is_rise-cell (x_at c b) (x_at c (b + 1)) (up_at c b) (up_at c (b + 1)))
    ∙ ap is_rise r.here_is in
    let now = raised_bare (x_at c (b + 1)) (x_at c (b + 1 + 1)) (up_at c (b + 1))
    (up_at c (b + 1 + 1)) w r.next_is in
    record {
      privilege = guard-raise c b (omega arith) ∙ p;
      row = raise_row c b q h long (differ-turned _ _ p)
          ∙ ap (λ (m : Cell). cells_from c 0 b ++ Bare true ∷ m ∷ cells_from c (b + 1 + 1) q) now
          ∙ ap (λ (l : List Cell). l ++ Bare true ∷ Rise w ∷ cells_from c (b + 1 + 1) q) r.front_is
          ∙ ap (λ (l : List Cell). front ++ Bare true ∷ Rise w ∷ l) r.back_is;
    }

allows_lower : (front back : List Cell) (x y : Cell) (c : Configuration) → IsConfiguration c
    → cells_of c ≡ front ++ x ∷ Fall ∷ back
    → cell (x_at c (length front)) (x_at c (length front + 1)) (up_at c (length front)) false ≡ y
    → Allows c (length front + 1) Lower (front ++ y ∷ Bare false ∷ back)
allows_lower front back x y c h e now =
    let b = length front in
    let q = length back in
    let r = is_round c front x Fall back h e in
    let long = r.long in
    let room : b + 2 < stations c = omega arith in
    let p = sym (is_fall-cell (x_at c (b + 1)) (x_at c (b + 1 + 1)) (up_at c (b + 1))
    (up_at c (b + 1 + 1))) ∙ ap is_fall r.next_is in
    let parts = and_parts _ _ p in
    let ups = and_parts _ _ parts.1 in
    record {
      privilege = guard-lower c b room ∙ p;
      row = lower_row c b q h long (beq-same _ _ (not-true _ parts.0)) (not-true _ ups.1)
          ∙ ap (λ (m : Cell). cells_from c 0 b ++ m ∷ Bare false ∷ cells_from c (b + 1 + 1) q) now
          ∙ ap (λ (l : List Cell). l ++ y ∷ Bare false ∷ cells_from c (b + 1 + 1) q) r.front_is
          ∙ ap (λ (l : List Cell). front ++ y ∷ Bare false ∷ l) r.back_is;
    }

-- the bit up of the station below two boundaries
up_below : (c : Configuration) (front : List Cell) → IsConfiguration c
    → cells_from c 0 (length front) ≡ front → above true front ≡ true
    → up_at c (length front) ≡ true
up_below c front h same up =
    let here : 0 + length front ≡ length front = zero-add (length front) in
    ap (up_at c) (sym here) ∙ above-cells_from c (length front) 0
    ∙ ap (λ u. above u (cells_from c 0 (length front))) h.up_at_the_bottom
    ∙ ap (above true) same ∙ up

bit_above : (c : Configuration) (b : ℕ) (x : Cell) → cell_at c b ≡ x → up_at c (b + 1) ≡ up_of x
bit_above c b x e =
    sym (up_of-cell (x_at c b) (x_at c (b + 1)) (up_at c b) (up_at c (b + 1))) ∙ ap up_of e

pub allows_sink : (front back : List Cell) (c : Configuration) → above true front ≡ true
    → IsConfiguration c → cells_of c ≡ front ++ Bare true ∷ Fall ∷ back
    → Allows c (length front + 1) Lower (front ++ Fall ∷ Bare false ∷ back)
allows_sink front back c up h e =
    let b = length front in
    let r = is_round c front (Bare true) Fall back h e in
    let bit = bit_above c b (Bare true) r.here_is in
    let here = rw bit at r.here_is in
    allows_lower front back (Bare true) Fall c h e
    (lowered_bare (x_at c b) (x_at c (b + 1)) (up_at c b) here
    (up_below c front h r.front_is up))

pub allows_fade : (front back : List Cell) (c : Configuration) → IsConfiguration c
    → cells_of c ≡ front ++ Rise true ∷ Fall ∷ back
    → Allows c (length front + 1) Lower (front ++ Rise false ∷ Bare false ∷ back)
allows_fade front back c h e =
    let b = length front in
    let r = is_round c front (Rise true) Fall back h e in
    let bit = bit_above c b (Rise true) r.here_is in
    let here = rw bit at r.here_is in
    allows_lower front back (Rise true) (Rise false) c h e
    (lowered_rise (x_at c b) (x_at c (b + 1)) (up_at c b) here)

pub allows_turn : (front : List Cell) (c : Configuration) → above true front ≡ true
    → IsConfiguration c → cells_of c ≡ front ++ Rise false ∷ []
    → Allows c (length front + 1) Top (front ++ Fall ∷ [])
allows_turn front c up h e =
    let b = length front in
    let two = h.at_least_two in
    let cells = length-map-range_with_len (cell_at c) 0 (stations c - 1) in
    let row = length-append front (Rise false ∷ []) in
    let same : length (cells_of c) ≡ length (front ++ Rise false ∷ []) = ap length e in
    let long : stations c ≡ b + 2 = omega arith in
    let here = length-map-range_with_len (cell_at c) 0 b in
    let parts = append_parts (cells_from c 0 b) (cell_at c b ∷ []) front (Rise false ∷ []) here
    (sym (cells_to_top c b long) ∙ e) in
    let here_is : cell_at c b ≡ Rise false = ap (λ (l : List Cell). get_or l 0 Fall) parts.1 in
    let p : differ (x_at c b) (x_at c (b + 1)) ≡ true =
    sym (is_rise-cell (x_at c b) (x_at c (b + 1)) (up_at c b) (up_at c (b + 1)))
    ∙ ap is_rise here_is in
    let now = turned_rise (x_at c b) (x_at c (b + 1)) (up_at c b) p
    (up_below c front h parts.0 up) in
    record {
      privilege = guard-top c b (sym long) ∙ p;
      row = top_row c b h long ∙ ap (λ (m : Cell). cells_from c 0 b ++ m ∷ []) now
          ∙ ap (λ (l : List Cell). l ++ Fall ∷ []) parts.0;
    }

pub allows_bottom : (back : List Cell) (c : Configuration) → IsConfiguration c
    → cells_of c ≡ Fall ∷ back → Allows c 0 Bottom (Rise false ∷ back)
allows_bottom back c h e =
    let q = length back in
    let two = h.at_least_two in
    let cells = length-map-range_with_len (cell_at c) 0 (stations c - 1) in
    let same : length (cells_of c) ≡ length (Fall ∷ back) = ap length e in
    let long : stations c ≡ q + 2 = omega arith in
    let parts = sym (cells_from_bottom c q long) ∙ e in
    let p = sym (is_fall-cell (x_at c 0) (x_at c 1) (up_at c 0) (up_at c 1))
    ∙ ap (λ (l : List Cell). is_fall (get_or l 0 Fall)) parts in
    let bits = and_parts _ _ p in
    let ups = and_parts _ _ bits.1 in
    record {
      privilege = guard-bottom c h ∙ p;
      row = bottom_row c q long (beq-same _ _ (not-true _ bits.0)) (not-true _ ups.1)
          ∙ ap (λ (l : List Cell). Rise false ∷ drop 1 l) parts;
    }

-- ---- how long a line can go on

-- a run of this many moves, with two privileges or more each time
pub record Lasting (c : Configuration) (number : ℕ) : Type 0 where
  pub moves : List Move
  pub run : IsRun c moves
  pub as_many : length moves ≡ number
  pub crowded : (k : ℕ) → k ≤ number → IsCrowded (configuration_at c moves k)

-- every line with this row has one
abbrev pub Lasts : List Cell → ℕ → Type 0
Lasts row number = (c : Configuration) → IsConfiguration c → cells_of c ≡ row → Lasting c number

crowd_of : (c : Configuration) (row : List Cell) → IsConfiguration c → cells_of c ≡ row
    → 2 ≤ count row → IsCrowded c
crowd_of c row h e two = let marks = sym (counted c h) ∙ ap count e in omega arith

pub lasts_here : (row : List Cell) → 2 ≤ count row → Lasts row 0
lasts_here row two c h e =
    record {
      moves = [];
      run = tt;
      as_many = refl;
      crowded = λ k l. let first : 0 ≡ k = omega arith in
          subst (λ i. IsCrowded (configuration_at c [] i)) first (crowd_of c row h e two);
    }

crowded_more : (c : Configuration) (m : Move) (moves : List Move) (number : ℕ) → IsCrowded c
    → ((k : ℕ) → k ≤ number → IsCrowded (configuration_at (next c m) moves k)) → (k : ℕ)
    → k ≤ number + 1 → IsCrowded (configuration_at c (m ∷ moves) k)
crowded_more c m moves number here rest zero l = here
crowded_more c m moves number here rest (suc k) l = rest k (omega arith)

pub lasts_more : (row later : List Cell) (s : ℕ) (rule : Rule) (number : ℕ) → 2 ≤ count row
    → ((c : Configuration) → IsConfiguration c → cells_of c ≡ row → Allows c s rule later)
    → Lasts later number → Lasts row (number + 1)
lasts_more row later s rule number two allows lasts = λ c h e.
    let a = allows c h e in
    let m : Move = record { station = s; rule = rule } in
    let rest = lasts (moved c s rule) (IsConfiguration-moved c s rule h a.privilege) a.row in
    let many = rest.as_many in
    record {
      moves = m ∷ rest.moves;
      run = (record { privilege = a.privilege; change = refl }, rest.run);
      as_many = omega arith;
      crowded = crowded_more c m rest.moves number (crowd_of c row h e two) rest.crowded;
    }
