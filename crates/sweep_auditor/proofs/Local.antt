-- A move of the line changes its row at the station's own two boundaries.
use Rattle.std.proofs.Common.{◌≡◌, ◌≢◌, ℕ, zero, suc, ◌+◌, ◌-◌, ◌<◌, ◌≤◌, Bool, true, false, cond}
use Rattle.std.proofs.Common.{not, ◌&&◌, List, []}
use Rattle.std.proofs.Common.{◌∷◌, ◌++◌, refl, sym, ap, ◌∙◌, arith, inl, inr, get_or-set_same}
use Rattle.std.proofs.Common.{get_or-set_other}
use Rattle.std.proofs.Common.{zero-add, length-set, subst}
use Rattle.std.specs.Bool.{beq}
use Rattle.std.proofs.lemmas.Bool.{and_parts, cases_lt, eqb-true, false≢true, not-true}
use Rattle.std.proofs.lemmas.List.FromFn.{length-map-range_with_len}
use Rattle.four_state.specs.Configuration.{Configuration, IsConfiguration, stations, x_at, up_at}
use Rattle.four_state.specs.Configuration.{differ}
use Rattle.four_state.specs.Privilege.{IsPrivilege}
use Rattle.four_state.specs.Motion.{moved, x_flipped}
use Rattle.four_state.specs.MotionLaws.{middle_stands}
use Rattle.four_state.specs.Marks.{Mark, Rising, Falling, Still, marks_of}
use Rattle.four_state.specs.PrivilegeLaws.{up_above}
use Rattle.four_state.specs.declared.rules.Rule.{Rule}
use Rattle.four_state.specs.declared.rules.Rule.TheVariants.{Bottom, Top, Raise, Lower}
use Rattle.sweep_auditor.proofs.Rows.{Cell, Rise, Fall, Bare, cell_of, cell_at, cells_from}
use Rattle.sweep_auditor.proofs.Rows.{cells_of, count}
use Rattle.sweep_auditor.proofs.Rows.{count-cells_from, marks-cells_from, map_range-add, Onto}
use Rattle.sweep_auditor.proofs.Rows.{leaves_fall, leaves_none}
use Rattle.sweep_auditor.proofs.Rows.{onto_up, onto_low, onto_fall, Under, under_rise, falls_on}
use Rattle.sweep_auditor.proofs.Rows.{vanishes, AtTop, turns}
use Rattle.sweep_auditor.proofs.Rows.{ends, Change, bottom, raise, lower, top}
use Rattle.sweep_auditor.proofs.Rewrite.{Step, Step-of}

-- ---- a mark from the four bits beside its boundary

-- the mark between a station with bits a and u, and the one above it with b and v
abbrev mark : Bool → Bool → Bool → Bool → Mark
mark a b u v = cond (differ a b) Rising (cond (not (differ a b) && (u && not v)) Falling Still)

-- the same with the bit up of the station above it
abbrev pub cell : Bool → Bool → Bool → Bool → Cell
cell a b u v = cell_of (mark a b u v) v

mark-differ : (a b u v : Bool) → differ b a ≡ true → mark a b u v ≡ Rising
mark-differ true true u v h = absurd (cc)
mark-differ true false u v h = refl
mark-differ false true u v h = refl
mark-differ false false u v h = absurd (cc)

mark-fall : (a b u v : Bool) → beq a b ≡ true → u ≡ true → v ≡ false → mark a b u v ≡ Falling
mark-fall true true true false h hu hv = refl
mark-fall false false true false h hu hv = refl
mark-fall true false u v h hu hv = absurd (cc)
mark-fall false true u v h hu hv = absurd (cc)
mark-fall a b false v h hu hv = absurd (cc)
mark-fall a b u true h hu hv = absurd (cc)

-- what a raise leaves below
mark-raised : (a b u : Bool) → differ b a ≡ true → mark a (not b) u true ≡ Still
mark-raised true true u h = absurd (cc)
mark-raised true false true h = refl
mark-raised true false false h = refl
mark-raised false true true h = refl
mark-raised false true false h = refl
mark-raised false false u h = absurd (cc)

-- what it makes of the boundary above
raised_onto : (a b u v : Bool) → Onto u (cell a b u v) (cell (not a) b true v)
raised_onto true true true true = onto_up true
raised_onto true true true false = onto_fall
raised_onto true true false true = onto_up false
raised_onto true true false false = onto_low
raised_onto true false u true = leaves_none u
raised_onto true false u false = leaves_fall u
raised_onto false true u true = leaves_none u
raised_onto false true u false = leaves_fall u
raised_onto false false true true = onto_up true
raised_onto false false true false = onto_fall
raised_onto false false false true = onto_up false
raised_onto false false false false = onto_low

-- what a lowering leaves at its own boundary
mark-lowered : (a b v : Bool) → beq a b ≡ true → mark a b false v ≡ Still
mark-lowered true true v h = refl
mark-lowered false false v h = refl
mark-lowered true false v h = absurd (cc)
mark-lowered false true v h = absurd (cc)

-- what it makes of the boundary below
lowered_under : (below : ℕ) (a b u : Bool) → (u ≡ false → 1 ≤ below)
    → Under below (cell a b u true) (cell a b u false)
lowered_under below true true true h = falls_on
lowered_under below true true false h = vanishes (h refl)
lowered_under below true false u h = under_rise
lowered_under below false true u h = under_rise
lowered_under below false false true h = falls_on
lowered_under below false false false h = vanishes (h refl)

-- the bottom station flips its x
pub mark-bottom : (a b u v : Bool) → beq a b ≡ true → mark (not a) b u v ≡ Rising
mark-bottom true true u v h = refl
mark-bottom false false u v h = refl
mark-bottom true false u v h = absurd (cc)
mark-bottom false true u v h = absurd (cc)

-- the top station flips its x
flipped_top : (a b u : Bool) → differ b a ≡ true → AtTop (cell a (not b) u false)
flipped_top true true u h = absurd (cc)
flipped_top true false true h = turns
flipped_top true false false h = ends
flipped_top false true true h = turns
flipped_top false true false h = ends
flipped_top false false u h = absurd (cc)

-- ---- boundaries away from the station that moves

-- d has the bits of c but at station s
pub record IsElsewhere (c d : Configuration) (s : ℕ) : Type 0 where
  pub x_same : (i : ℕ) → i ≢ s → x_at d i ≡ x_at c i
  pub up_same : (i : ℕ) → i ≢ s → up_at d i ≡ up_at c i

cell_elsewhere : (c d : Configuration) (s b : ℕ) → IsElsewhere c d s → b ≢ s → b + 1 ≢ s
    → cell_at d b ≡ cell_at c b
cell_elsewhere c d s b h below above =
    let x_below = h.x_same b below in
    let x_above = h.x_same (b + 1) above in
    let up_below = h.up_same b below in
    let up_above = h.up_same (b + 1) above in
    rw (x_below, x_above, up_below, up_above)

-- the boundaries before the station's own two
cells_before : (c d : Configuration) (s n a : ℕ) → IsElsewhere c d s → a + n < s
    → cells_from d a n ≡ cells_from c a n
cells_before c d s zero a h l = refl
cells_before c d s (suc n) a h l =
    let first = cell_elsewhere c d s a h (λ e. absurd (omega arith)) (λ e. absurd (omega arith)) in
    let rest = cells_before c d s n (a + 1) h (omega arith) in
    ap (λ (m : Cell). m ∷ cells_from d (a + 1) n) first
    ∙ ap (λ (ms : List Cell). cell_at c a ∷ ms) rest

-- the boundaries above them
cells_beyond : (c d : Configuration) (s n a : ℕ) → IsElsewhere c d s → s < a
    → cells_from d a n ≡ cells_from c a n
cells_beyond c d s zero a h l = refl
cells_beyond c d s (suc n) a h l =
    let first = cell_elsewhere c d s a h (λ e. absurd (omega arith)) (λ e. absurd (omega arith)) in
    let rest = cells_beyond c d s n (a + 1) h (omega arith) in
    ap (λ (m : Cell). m ∷ cells_from d (a + 1) n) first
    ∙ ap (λ (ms : List Cell). cell_at c a ∷ ms) rest

-- the row round two boundaries, from b on
pub cells_round : (c : Configuration) (b q : ℕ) → stations c ≡ b + q + 3
    → cells_of c ≡ cells_from c 0 b ++ cell_at c b ∷ cell_at c (b + 1) ∷ cells_from c (b + 1 + 1) q
cells_round c b q e =
    let counted : stations c - 1 ≡ b + suc (suc q) = omega arith in
    let parts = map_range-add (cell_at c) b (suc (suc q)) 0 in
    ap (cells_from c 0) counted ∙ rw zero-add at parts

-- the row below and at the top boundary
pub cells_to_top : (c : Configuration) (b : ℕ) → stations c ≡ b + 2
    → cells_of c ≡ cells_from c 0 b ++ cell_at c b ∷ []
cells_to_top c b e =
    let counted : stations c - 1 ≡ b + suc zero = omega arith in
    let parts = map_range-add (cell_at c) b (suc zero) 0 in
    ap (cells_from c 0) counted ∙ rw zero-add at parts

-- the bottom boundary and those above
pub cells_from_bottom : (c : Configuration) (q : ℕ) → stations c ≡ q + 2
    → cells_of c ≡ cell_at c 0 ∷ cells_from c 1 q
cells_from_bottom c q e =
    let counted : stations c - 1 ≡ suc q = omega arith in
    ap (cells_from c 0) counted

-- the same of the configuration after a move of station b + 1
later_round : (c d : Configuration) (b q : ℕ) → IsElsewhere c d (b + 1) → stations d ≡ b + q + 3
    → cells_of d ≡ cells_from c 0 b ++ cell_at d b ∷ cell_at d (b + 1) ∷ cells_from c (b + 1 + 1) q
later_round c d b q h e =
    let before = cells_before c d (b + 1) b 0 h (omega arith) in
    let beyond = cells_beyond c d (b + 1) q (b + 1 + 1) h (omega arith) in
    cells_round d b q e
    ∙ ap (λ (front : List Cell). front ++ cell_at d b ∷ cell_at d (b + 1)
    ∷ cells_from d (b + 1 + 1) q) before
    ∙ ap (λ (back : List Cell). cells_from c 0 b ++ cell_at d b ∷ cell_at d (b + 1) ∷ back) beyond

pub cell_is : (d : Configuration) (i : ℕ) (a b u v : Bool) → x_at d i ≡ a → x_at d (i + 1) ≡ b
    → up_at d i ≡ u → up_at d (i + 1) ≡ v → cell_at d i ≡ cell a b u v
cell_is d i a b u v p q r t =
    ap (λ (z : Bool). cell z (x_at d (i + 1)) (up_at d i) (up_at d (i + 1))) p
    ∙ ap (λ (z : Bool). cell a z (up_at d i) (up_at d (i + 1))) q
    ∙ ap (λ (z : Bool). cell a b z (up_at d (i + 1))) r ∙ ap (cell a b u) t

-- below the lowest mark all stations are up
marked_below : (c : Configuration) (b : ℕ) → IsConfiguration c → up_at c b ≡ false
    → 1 ≤ count (cells_from c 0 b)
marked_below c b h low =
    let counted = count-cells_from c b 0 in
    elim (cases_lt 0 (count (cells_from c 0 b))) [
      | inl some ↦ omega arith
      | inr none ↦
          let high = up_above c b 0 (omega arith) h.up_at_the_bottom in
          let here : 0 + b ≡ b = zero-add b in
          absurd (false≢true (sym low ∙ rw here at high))
    ]

-- ---- what a move changes

pub moved_elsewhere : (c : Configuration) (s : ℕ) (rule : Rule) → IsElsewhere c (moved c s rule) s
moved_elsewhere c s Bottom = record {
  x_same = λ i ne. get_or-set_other c.x s i (not (x_at c s)) false ne;
  up_same = λ i ne. refl;
}
moved_elsewhere c s Top = record {
  x_same = λ i ne. get_or-set_other c.x s i (not (x_at c s)) false ne;
  up_same = λ i ne. refl;
}
moved_elsewhere c s Raise = record {
  x_same = λ i ne. get_or-set_other c.x s i (not (x_at c s)) false ne;
  up_same = λ i ne. get_or-set_other c.up s i true false ne;
}
moved_elsewhere c s Lower = record {
  x_same = λ i ne. refl;
  up_same = λ i ne. get_or-set_other c.up s i false false ne;
}

pub x_flipped_at : (c : Configuration) (s : ℕ) → s < stations c
    → x_at (record { x = x_flipped c s; up = c.up }) s ≡ not (x_at c s)
x_flipped_at c s l = get_or-set_same c.x s (not (x_at c s)) false l

pub raise_row : (c : Configuration) (b q : ℕ) → IsConfiguration c → stations c ≡ b + q + 3
    → differ (x_at c (b + 1)) (x_at c b) ≡ true
    → cells_of (moved c (b + 1) Raise)
    ≡ cells_from c 0 b ++ Bare true
    ∷ cell (not (x_at c (b + 1))) (x_at c (b + 1 + 1)) true (up_at c (b + 1 + 1))
    ∷ cells_from c (b + 1 + 1) q
raise_row c b q h e p =
    let d = moved c (b + 1) Raise in
    let same = moved_elsewhere c (b + 1) Raise in
    let as_long = h.as_long in
    let long = length-set c.x (b + 1) (not (x_at c (b + 1))) in
    let front = cells_from c 0 b in
    let back = cells_from c (b + 1 + 1) q in
    let x_here = x_flipped_at c (b + 1) (omega arith) in
    let up_here : up_at d (b + 1) ≡ true = get_or-set_same c.up (b + 1) true false (omega arith) in
    let x_below = same.x_same b (λ i. absurd (omega arith)) in
    let up_below = same.up_same b (λ i. absurd (omega arith)) in
    let x_above = same.x_same (b + 1 + 1) (λ i. absurd (omega arith)) in
    let up_above = same.up_same (b + 1 + 1) (λ i. absurd (omega arith)) in
    let now_below : cell_at d b ≡ Bare true =
    cell_is d b (x_at c b) (not (x_at c (b + 1))) (up_at c b) true x_below x_here up_below up_here
    ∙ ap (λ (m : Mark). cell_of m true)
    (mark-raised (x_at c b) (x_at c (b + 1)) (up_at c b) p) in
    let now_here = cell_is d (b + 1) (not (x_at c (b + 1))) (x_at c (b + 1 + 1)) true
    (up_at c (b + 1 + 1)) x_here x_above up_here up_above in
    later_round c d b q same (long ∙ e)
    ∙ ap (λ (m : Cell). front ++ m ∷ cell_at d (b + 1) ∷ back) now_below
    ∙ ap (λ (m : Cell). front ++ Bare true ∷ m ∷ back) now_here

raise_change : (c : Configuration) (b q : ℕ) → IsConfiguration c → stations c ≡ b + q + 3
    → differ (x_at c (b + 1)) (x_at c b) ≡ true
    → Change (b + 1) (cells_of c) (cells_of (moved c (b + 1) Raise))
raise_change c b q h e p =
    let front = cells_from c 0 b in
    let back = cells_from c (b + 1 + 1) q in
    let up = up_at c (b + 1) in
    let was_below : cell_at c b ≡ Rise up =
    ap (λ (m : Mark). cell_of m up)
    (mark-differ (x_at c b) (x_at c (b + 1)) (up_at c b) up p) in
    raise front back up _ _
    (raised_onto (x_at c (b + 1)) (x_at c (b + 1 + 1)) up (up_at c (b + 1 + 1)))
    (ap (λ k. k + 1) (sym (length-map-range_with_len (cell_at c) 0 b)))
    (cells_round c b q e ∙ ap (λ (m : Cell). front ++ m ∷ cell_at c (b + 1) ∷ back) was_below)
    (raise_row c b q h e p)

pub lower_row : (c : Configuration) (b q : ℕ) → IsConfiguration c → stations c ≡ b + q + 3
    → beq (x_at c (b + 1)) (x_at c (b + 1 + 1)) ≡ true → up_at c (b + 1 + 1) ≡ false
    → cells_of (moved c (b + 1) Lower)
    ≡ cells_from c 0 b ++ cell (x_at c b) (x_at c (b + 1)) (up_at c b) false ∷ Bare false
    ∷ cells_from c (b + 1 + 1) q
lower_row c b q h e p above =
    let d = moved c (b + 1) Lower in
    let same = moved_elsewhere c (b + 1) Lower in
    let as_long = h.as_long in
    let front = cells_from c 0 b in
    let back = cells_from c (b + 1 + 1) q in
    let up_here : up_at d (b + 1) ≡ false =
    get_or-set_same c.up (b + 1) false false (omega arith) in
    let up_below = same.up_same b (λ i. absurd (omega arith)) in
    let up_above : up_at d (b + 1 + 1) ≡ false =
    same.up_same (b + 1 + 1) (λ i. absurd (omega arith)) ∙ above in
    let now_below =
    cell_is d b (x_at c b) (x_at c (b + 1)) (up_at c b) false refl refl up_below up_here in
    let now_here : cell_at d (b + 1) ≡ Bare false =
    cell_is d (b + 1) (x_at c (b + 1)) (x_at c (b + 1 + 1)) false false refl refl up_here up_above
    ∙ ap (λ (m : Mark). cell_of m false)
    (mark-lowered (x_at c (b + 1)) (x_at c (b + 1 + 1)) false p) in
    later_round c d b q same e ∙ ap (λ (m : Cell). front ++ m ∷ cell_at d (b + 1) ∷ back) now_below
    ∙ ap (λ (m : Cell). front ++ cell (x_at c b) (x_at c (b + 1)) (up_at c b) false ∷ m ∷ back)
    now_here

lower_change : (c : Configuration) (b q : ℕ) → IsConfiguration c → stations c ≡ b + q + 3
    → beq (x_at c (b + 1)) (x_at c (b + 1 + 1)) ≡ true → up_at c (b + 1) ≡ true
    → up_at c (b + 1 + 1) ≡ false → Change (b + 1) (cells_of c) (cells_of (moved c (b + 1) Lower))
lower_change c b q h e p up above =
    let front = cells_from c 0 b in
    let back = cells_from c (b + 1 + 1) q in
    let was_here : cell_at c (b + 1) ≡ Fall =
    ap (λ (m : Mark). cell_of m (up_at c (b + 1 + 1)))
    (mark-fall (x_at c (b + 1)) (x_at c (b + 1 + 1)) (up_at c (b + 1)) (up_at c (b + 1 + 1)) p
    up above) in
    let was_below = cell_is c b (x_at c b) (x_at c (b + 1)) (up_at c b) true refl refl refl up in
    lower front back _ _
    (lowered_under (count front) (x_at c b) (x_at c (b + 1)) (up_at c b) (marked_below c b h))
    (ap (λ k. k + 1) (sym (length-map-range_with_len (cell_at c) 0 b)))
    (cells_round c b q e ∙ ap (λ (m : Cell). front ++ m ∷ cell_at c (b + 1) ∷ back) was_below
    ∙ ap (λ (m : Cell). front ++ cell (x_at c b) (x_at c (b + 1)) (up_at c b) true ∷ m ∷ back)
    was_here) (lower_row c b q h e p above)

pub bottom_row : (c : Configuration) (q : ℕ) → stations c ≡ q + 2 → beq (x_at c 0) (x_at c 1) ≡ true
    → up_at c 1 ≡ false → cells_of (moved c 0 Bottom) ≡ Rise false ∷ cells_from c 1 q
bottom_row c q e p above =
    let d = moved c 0 Bottom in
    let same = moved_elsewhere c 0 Bottom in
    let long = length-set c.x 0 (not (x_at c 0)) in
    let x_here = x_flipped_at c 0 (omega arith) in
    let x_above = same.x_same 1 (λ i. absurd (omega arith)) in
    let now : cell_at d 0 ≡ Rise false =
    cell_is d 0 (not (x_at c 0)) (x_at c 1) (up_at c 0) false x_here x_above refl above
    ∙ ap (λ (m : Mark). cell_of m false)
    (mark-bottom (x_at c 0) (x_at c 1) (up_at c 0) false p) in
    cells_from_bottom d q (long ∙ e) ∙ ap (λ (m : Cell). m ∷ cells_from d 1 q) now
    ∙ ap (λ (ms : List Cell). Rise false ∷ ms) (cells_beyond c d 0 q 1 same (omega arith))

bottom_change : (c : Configuration) (q : ℕ) → IsConfiguration c → stations c ≡ q + 2
    → beq (x_at c 0) (x_at c 1) ≡ true → up_at c 1 ≡ false
    → Change 0 (cells_of c) (cells_of (moved c 0 Bottom))
bottom_change c q h e p above =
    let back = cells_from c 1 q in
    let was : cell_at c 0 ≡ Fall =
    ap (λ (m : Mark). cell_of m (up_at c 1))
    (mark-fall (x_at c 0) (x_at c 1) (up_at c 0) (up_at c 1) p h.up_at_the_bottom above) in
    bottom back refl (cells_from_bottom c q e ∙ ap (λ (m : Cell). m ∷ back) was)
    (bottom_row c q e p above)

top_low : (c : Configuration) (b : ℕ) → IsConfiguration c → stations c ≡ b + 2
    → up_at c (b + 1) ≡ false
top_low c b h e = let at_top : stations c - 1 ≡ b + 1 = omega arith in
    rw at_top at h.not_up_at_the_top

pub top_row : (c : Configuration) (b : ℕ) → IsConfiguration c → stations c ≡ b + 2
    → cells_of (moved c (b + 1) Top)
    ≡ cells_from c 0 b ++ cell (x_at c b) (not (x_at c (b + 1))) (up_at c b) false ∷ []
top_row c b h e =
    let d = moved c (b + 1) Top in
    let same = moved_elsewhere c (b + 1) Top in
    let long = length-set c.x (b + 1) (not (x_at c (b + 1))) in
    let front = cells_from c 0 b in
    let x_here = x_flipped_at c (b + 1) (omega arith) in
    let x_below = same.x_same b (λ i. absurd (omega arith)) in
    let now = cell_is d b (x_at c b) (not (x_at c (b + 1))) (up_at c b) false x_below x_here refl
    (top_low c b h e) in
    let before = cells_before c d (b + 1) b 0 same (omega arith) in
    cells_to_top d b (long ∙ e) ∙ ap (λ (ms : List Cell). ms ++ cell_at d b ∷ []) before
    ∙ ap (λ (m : Cell). front ++ m ∷ []) now

top_change : (c : Configuration) (b : ℕ) → IsConfiguration c → stations c ≡ b + 2
    → differ (x_at c (b + 1)) (x_at c b) ≡ true
    → Change (b + 1) (cells_of c) (cells_of (moved c (b + 1) Top))
top_change c b h e p =
    let front = cells_from c 0 b in
    let was : cell_at c b ≡ Rise false =
    cell_is c b (x_at c b) (x_at c (b + 1)) (up_at c b) false refl refl refl (top_low c b h e)
    ∙ ap (λ (m : Mark). cell_of m false)
    (mark-differ (x_at c b) (x_at c (b + 1)) (up_at c b) false p) in
    top front _ (flipped_top (x_at c b) (x_at c (b + 1)) (up_at c b) p)
    (ap (λ k. k + 1) (sym (length-map-range_with_len (cell_at c) 0 b)))
    (cells_to_top c b e ∙ ap (λ (m : Cell). front ++ m ∷ []) was) (top_row c b h e)

-- ---- each move

raise_of : (c : Configuration) (b : ℕ) → IsConfiguration c → IsPrivilege c (b + 1) Raise
    → Change (b + 1) (cells_of c) (cells_of (moved c (b + 1) Raise))
raise_of c b h p =
    let parts = and_parts _ _ p in
    let stands = middle_stands c (b + 1) parts.0 in
    let below : b + 1 - 1 ≡ b = omega arith in
    let guard = parts.1 in
    raise_change c b (stations c - b - 3) h (omega arith) (rw below at guard)

lower_of : (c : Configuration) (b : ℕ) → IsConfiguration c → IsPrivilege c (b + 1) Lower
    → Change (b + 1) (cells_of c) (cells_of (moved c (b + 1) Lower))
lower_of c b h p =
    let parts = and_parts _ _ p in
    let stands = middle_stands c (b + 1) parts.0 in
    let guard = and_parts _ _ parts.1 in
    let ups = and_parts _ _ guard.1 in
    lower_change c b (stations c - b - 3) h (omega arith) guard.0 ups.0 (not-true _ ups.1)

top_of : (c : Configuration) (b : ℕ) → IsConfiguration c → IsPrivilege c (b + 1) Top
    → Change (b + 1) (cells_of c) (cells_of (moved c (b + 1) Top))
top_of c b h p =
    let parts = and_parts _ _ p in
    let last = eqb-true (b + 1 + 1) (stations c) parts.0 in
    let below : b + 1 - 1 ≡ b = omega arith in
    let guard = parts.1 in
    top_change c b h (omega arith) (rw below at guard)

bottom_of : (c : Configuration) (s : ℕ) → IsConfiguration c → IsPrivilege c s Bottom
    → Change s (cells_of c) (cells_of (moved c s Bottom))
bottom_of c s h p =
    let parts = and_parts _ _ p in
    let here = eqb-true s 0 parts.0 in
    let two = h.at_least_two in
    let at_bottom = rw here at parts.1 in
    let guard = and_parts _ _ at_bottom in
    rw here (bottom_change c (stations c - 2) h (omega arith) guard.0 (not-true _ guard.1))

-- station s has a station below it
above_bottom : (c : Configuration) (s : ℕ) → 0 < s → (P : ℕ → Type 0) → ((b : ℕ) → P (b + 1)) → P s
above_bottom c s l P each = let e : s - 1 + 1 ≡ s = omega arith in subst P e (each (s - 1))

-- A move changes the row.
pub Change-moved : (c : Configuration) (s : ℕ) (rule : Rule) → IsConfiguration c
    → IsPrivilege c s rule → Change s (cells_of c) (cells_of (moved c s rule))
Change-moved c s Bottom h p = bottom_of c s h p
Change-moved c s Top h p =
    let two = h.at_least_two in
    let last = eqb-true (s + 1) (stations c) (and_parts _ _ p).0 in
    above_bottom c s (omega arith)
    (λ t. IsPrivilege c t Top → Change t (cells_of c) (cells_of (moved c t Top)))
    (λ b. top_of c b h) p
Change-moved c s Raise h p =
    let stands = middle_stands c s (and_parts _ _ p).0 in
    above_bottom c s stands.0
    (λ t. IsPrivilege c t Raise → Change t (cells_of c) (cells_of (moved c t Raise)))
    (λ b. raise_of c b h) p
Change-moved c s Lower h p =
    let stands = middle_stands c s (and_parts _ _ p).0 in
    above_bottom c s stands.0
    (λ t. IsPrivilege c t Lower → Change t (cells_of c) (cells_of (moved c t Lower)))
    (λ b. lower_of c b h) p

-- A move rewrites the marks.
pub Step-moved : (c : Configuration) (s : ℕ) (rule : Rule) → IsConfiguration c
    → IsPrivilege c s rule → Step s (marks_of c) (marks_of (moved c s rule))
Step-moved c s rule h p =
    let before = marks-cells_from c (stations c - 1) 0 in
    let later = marks-cells_from (moved c s rule) (stations (moved c s rule) - 1) 0 in
    rw (← before, ← later)
    (Step-of s (cells_of c) (cells_of (moved c s rule)) (Change-moved c s rule h p))
