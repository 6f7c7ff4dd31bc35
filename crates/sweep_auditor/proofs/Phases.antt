-- Where a line with one privilege stands in its sweep.
use Rattle.std.proofs.Common.{◌≡◌, ℕ, suc, ◌+◌, ◌-◌, ◌*◌, ◌%◌, ◌<◌, ◌≤◌, ◌⊎◌, Bool, true, false}
use Rattle.std.proofs.Common.{cond, not, List, [], ◌∷◌, ◌++◌, length, refl, sym, ap, ◌∙◌, arith}
use Rattle.std.proofs.Common.{inl, inr, length-append, add-zero}
use Rattle.std.specs.Prelude.{nat_le}
use Rattle.std.proofs.Math.Nat.{add-mod_right, mod_self, mod-eq_of_lt}
use Rattle.std.proofs.lemmas.Bool.{and_parts, eqb-true, le-leb, lt-leb}
use Rattle.std.proofs.lemmas.List.FromFn.{length-map-range_with_len}
use Rattle.four_state.specs.Configuration.{Configuration, IsConfiguration, stations, x_at}
use Rattle.four_state.specs.Privilege.{IsPrivilege, IsLegitimate}
use Rattle.four_state.specs.Motion.{moved}
use Rattle.four_state.specs.MotionLaws.{IsConfiguration-moved, middle_stands}
use Rattle.four_state.specs.Marks.{Mark, Rising, Falling, Still, mark_at, marks_of, mark_count}
use Rattle.four_state.specs.PrivilegeLaws.{mark_count-append, length-privileges_of}
use Rattle.four_state.specs.PrivilegeLaws.{one-le-privileges}
use Rattle.four_state.specs.declared.rules.Rule.{Rule}
use Rattle.four_state.specs.declared.rules.Rule.TheVariants.{Bottom, Top, Raise, Lower}
use Rattle.sweep_auditor.specs.Stabilization.{sweep_at}
use Rattle.sweep_auditor.proofs.Rewrite.{Onto, leaves_fall, leaves_none, onto_none, onto_fall}
use Rattle.sweep_auditor.proofs.Rewrite.{Under, under_rise, falls_on, vanishes, AtTop, turns, ends}
use Rattle.sweep_auditor.proofs.Rewrite.{Step, bottom, raise, lower, top, Step-count}
use Rattle.sweep_auditor.proofs.Local.{Step-moved, moved_elsewhere, x_flipped_at}

-- The place of the first mark in the sweep: a rise on boundary b has place b, a fall there 2n - 1 -
-- b.
abbrev pub place : ℕ → List Mark → ℕ
place b [] = 0
place b (Rising ∷ marks) = b
place b (Falling ∷ marks) = b + length marks + length marks + 1
place b (Still ∷ marks) = place (b + 1) marks

place-append : (front back : List Mark) (b j : ℕ) → mark_count front ≡ 0 → b + length front ≡ j
    → place b (front ++ back) ≡ place j back
place-append [] back b j bare e = let here : b ≡ j = omega arith in ap (λ i. place i back) here
place-append (Rising ∷ front) back b j bare e = absurd (omega arith)
place-append (Falling ∷ front) back b j bare e = absurd (omega arith)
place-append (Still ∷ front) back b j bare e =
    place-append front back (b + 1) j (omega arith) (omega arith)

pub place-most : (marks : List Mark) (b : ℕ) → 1 ≤ mark_count marks
    → place b marks + 1 ≤ b + length marks + length marks
place-most [] b h = absurd (omega arith)
place-most (Rising ∷ marks) b h = omega arith
place-most (Falling ∷ marks) b h = omega arith
place-most (Still ∷ marks) b h = let rest = place-most marks (b + 1) (omega arith) in omega arith

-- ---- one move

-- the station at a place from 0 to 2n of the sweep
abbrev station_of : ℕ → ℕ → ℕ
station_of n at = cond (nat_le at n) at (2 * n - at)

going_up : (n at : ℕ) → at ≤ n → at ≡ station_of n at
going_up n at l = let test = le-leb at n l in rw test refl

going_down : (n at s : ℕ) → n < at → s + at ≡ 2 * n → s ≡ station_of n at
going_down n at s l e = let test = lt-leb at n l in rw test (omega arith)

-- the place p becomes q by a move of station s: the next place, or the first after the last
data PhaseStep (n s p q : ℕ) : Type 0 where
  onward : q ≡ p + 1 → p + 1 < 2 * n → s ≡ station_of n (p + 1) → 0 < s → PhaseStep n s p q
  around : q ≡ 0 → p + 1 ≡ 2 * n → s ≡ 0 → PhaseStep n s p q

PhaseStep-at : (n s p q p' q' : ℕ) → p ≡ p' → q ≡ q' → PhaseStep n s p' q' → PhaseStep n s p q
PhaseStep-at n s p q p' q' a b (onward next below station some) =
    let here : p + 1 ≡ p' + 1 = ap (λ k. k + 1) a in
    onward (omega arith) (omega arith) (station ∙ ap (station_of n) (sym here)) some
PhaseStep-at n s p q p' q' a b (around next last station) =
    around (omega arith) (omega arith) station

raise_steps : (n s : ℕ) (front back : List Mark) (m k : Mark) → Onto m k → s ≡ length front + 1
    → length front + 2 + length back ≡ n → mark_count (front ++ Rising ∷ m ∷ back) ≡ 1
    → PhaseStep n s (place 0 (front ++ Rising ∷ m ∷ back)) (place 0 (front ++ Still ∷ k ∷ back))
raise_steps n s front back m k onto_none e long one =
    let parts = mark_count-append front (Rising ∷ Still ∷ back) in
    let was = place-append front (Rising ∷ Still ∷ back) 0 (length front) (omega arith)
    (omega arith) in
    let now = place-append front (Still ∷ Rising ∷ back) 0 (length front) (omega arith)
    (omega arith) in
    PhaseStep-at n s _ _ (length front) (length front + 1) was now
    (onward refl (omega arith) (e ∙ going_up n (length front + 1) (omega arith)) (omega arith))
raise_steps n s front back m k onto_fall e long one =
    let parts = mark_count-append front (Rising ∷ Falling ∷ back) in absurd (omega arith)
raise_steps n s front back m k leaves_fall e long one =
    let parts = mark_count-append front (Rising ∷ Rising ∷ back) in absurd (omega arith)
raise_steps n s front back m k leaves_none e long one =
    let parts = mark_count-append front (Rising ∷ Rising ∷ back) in absurd (omega arith)

-- station s stands between two of n marks, which it makes others, and there is one before and after
record Lowers (n s : ℕ) (front back : List Mark) (m k : Mark) : Type 0 where
  station : s ≡ length front + 1
  long : length front + 2 + length back ≡ n
  before : mark_count (front ++ m ∷ Falling ∷ back) ≡ 1
  later : mark_count (front ++ k ∷ Still ∷ back) ≡ 1

lower_steps : (n s : ℕ) (front back : List Mark) (m k : Mark) → Under m k
    → Lowers n s front back m k
    → PhaseStep n s (place 0 (front ++ m ∷ Falling ∷ back)) (place 0 (front ++ k ∷ Still ∷ back))
lower_steps n s front back m k under_rise lowers =
    let one = lowers.before in
    let parts = mark_count-append front (Rising ∷ Falling ∷ back) in absurd (omega arith)
lower_steps n s front back m k falls_on lowers =
    let e = lowers.station in
    let long = lowers.long in
    let one = lowers.before in
    let f = length front in
    let q = length back in
    let parts = mark_count-append front (Still ∷ Falling ∷ back) in
    let was = place-append front (Still ∷ Falling ∷ back) 0 f (omega arith) (omega arith) in
    let now = place-append front (Falling ∷ Still ∷ back) 0 f (omega arith) (omega arith) in
    PhaseStep-at n s _ _ (f + 1 + q + q + 1) (f + suc q + suc q + 1) was now
    (onward (omega arith) (omega arith)
    (going_down n (f + 1 + q + q + 1 + 1) s (omega arith) (omega arith)) (omega arith))
lower_steps n s front back m k vanishes lowers =
    let one = lowers.before in
    let still = lowers.later in
    let parts = mark_count-append front (Still ∷ Falling ∷ back) in
    let left = mark_count-append front (Still ∷ Still ∷ back) in
    absurd (omega arith)

top_steps : (n s : ℕ) (front : List Mark) (k : Mark) → AtTop k → s ≡ length front + 1
    → length front + 1 ≡ n → mark_count (front ++ Rising ∷ []) ≡ 1
    → mark_count (front ++ k ∷ []) ≡ 1
    → PhaseStep n s (place 0 (front ++ Rising ∷ [])) (place 0 (front ++ k ∷ []))
top_steps n s front k turns e long one still =
    let f = length front in
    let parts = mark_count-append front (Rising ∷ []) in
    let was = place-append front (Rising ∷ []) 0 f (omega arith) (omega arith) in
    let now = place-append front (Falling ∷ []) 0 f (omega arith) (omega arith) in
    PhaseStep-at n s _ _ f (f + 0 + 0 + 1) was now
    (onward (omega arith) (omega arith) (e ∙ going_up n (f + 1) (omega arith)) (omega arith))
top_steps n s front k ends e long one still =
    let parts = mark_count-append front (Rising ∷ []) in
    let left = mark_count-append front (Still ∷ []) in
    absurd (omega arith)

-- A move from one mark to one mark goes on by one place.
Step-phases : (n s : ℕ) (before later : List Mark) → Step s before later → length before ≡ n
    → mark_count before ≡ 1 → mark_count later ≡ 1 → PhaseStep n s (place 0 before) (place 0 later)
Step-phases n s before later (bottom back e b l) long one still =
    let long_now = rw b at long in
    PhaseStep-at n s _ _ (0 + length back + length back + 1) 0 (ap (place 0) b) (ap (place 0) l)
    (around refl (omega arith) e)
Step-phases n s before later (raise front back m k onto e b l) long one still =
    let long_now = rw b at long in
    let one_now = rw b at one in
    let parts = length-append front (Rising ∷ m ∷ back) in
    PhaseStep-at n s _ _ _ _ (ap (place 0) b) (ap (place 0) l)
    (raise_steps n s front back m k onto e (omega arith) one_now)
Step-phases n s before later (lower front back m k under e b l) long one still =
    let long_now = rw b at long in
    let one_now = rw b at one in
    let still_now = rw l at still in
    let parts = length-append front (m ∷ Falling ∷ back) in
    PhaseStep-at n s _ _ _ _ (ap (place 0) b) (ap (place 0) l)
    (lower_steps n s front back m k under
    (record { station = e; long = omega arith; before = one_now; later = still_now }))
Step-phases n s before later (top front k turn e b l) long one still =
    let long_now = rw b at long in
    let one_now = rw b at one in
    let still_now = rw l at still in
    let parts = length-append front (Rising ∷ []) in
    PhaseStep-at n s _ _ _ _ (ap (place 0) b) (ap (place 0) l)
    (top_steps n s front k turn e (omega arith) one_now still_now)

-- ---- two sweeps: one with x of the bottom station false, one with it true

-- where the line stands, of its 4n legitimate configurations
abbrev pub phase_of : ℕ → Configuration → ℕ
phase_of n c = place 0 (marks_of c) + cond (x_at c 0) (2 * n) 0

-- a legitimate line stays so
pub IsLegitimate-next : (c : Configuration) (s : ℕ) (rule : Rule) → IsConfiguration c
    → IsPrivilege c s rule → IsLegitimate c → IsLegitimate (moved c s rule)
IsLegitimate-next c s rule h p one =
    let later = IsConfiguration-moved c s rule h p in
    let fewer = Step-count s (marks_of c) (marks_of (moved c s rule)) (Step-moved c s rule h p) in
    let before_count = length-privileges_of c h in
    let later_count = length-privileges_of (moved c s rule) later in
    let some = one-le-privileges (moved c s rule) later in
    omega arith

pub record Advances (n s : ℕ) (c d : Configuration) : Type 0 where
  pub station : s ≡ sweep_at n (phase_of n c + 1)
  pub next : (phase_of n d ≡ phase_of n c + 1) ⊎ ((phase_of n c + 1 ≡ 4 * n) × (phase_of n d ≡ 0))

mod_within : (x : Bool) (p w : ℕ) → p < w → (p + cond x w 0) % w ≡ p
mod_within true p w l = add-mod_right p w ∙ mod-eq_of_lt l
mod_within false p w l = ap (λ k. k % w) (add-zero p) ∙ mod-eq_of_lt l

mod_whole : (x : Bool) (w : ℕ) → (w + cond x w 0) % w ≡ 0
mod_whole true w = add-mod_right w w ∙ mod_self w
mod_whole false w = ap (λ k. k % w) (add-zero w) ∙ mod_self w

-- the bottom station moves by its own rule alone, and flips its x
bottom_flipped : (c : Configuration) (s : ℕ) (rule : Rule) → IsConfiguration c
    → IsPrivilege c s rule → s ≡ 0 → x_at (moved c s rule) 0 ≡ not (x_at c 0)
bottom_flipped c s Bottom h p e = let two = h.at_least_two in rw e (x_flipped_at c 0 (omega arith))
bottom_flipped c s Top h p e =
    let last = eqb-true (s + 1) (stations c) (and_parts _ _ p).0 in let two = h.at_least_two in
    absurd (omega arith)
bottom_flipped c s Raise h p e = let stands = middle_stands c s (and_parts _ _ p).0 in
    absurd (omega arith)
bottom_flipped c s Lower h p e = let stands = middle_stands c s (and_parts _ _ p).0 in
    absurd (omega arith)

-- the phase after a move, from the place and the bit x of the bottom station
onward_phase : (n p q : ℕ) (x y : Bool) → q ≡ p + 1 → y ≡ x
    → q + cond y (2 * n) 0 ≡ p + cond x (2 * n) 0 + 1
onward_phase n p q x y a b = rw (a, b) (omega arith)

around_phase : (n p q : ℕ) (x y : Bool) → q ≡ 0 → p + 1 ≡ 2 * n → y ≡ not x
    → (q + cond y (2 * n) 0 ≡ p + cond x (2 * n) 0 + 1)
    ⊎ ((p + cond x (2 * n) 0 + 1 ≡ 4 * n) × (q + cond y (2 * n) 0 ≡ 0))
around_phase n p q true y a b e = inr (omega arith, rw e (omega arith))
around_phase n p q false y a b e = inl (rw e (omega arith))

advance_by : (n s : ℕ) (c d : Configuration)
    → PhaseStep n s (place 0 (marks_of c)) (place 0 (marks_of d)) → (0 < s → x_at d 0 ≡ x_at c 0)
    → (s ≡ 0 → x_at d 0 ≡ not (x_at c 0)) → Advances n s c d
advance_by n s c d (onward next below station some) same flipped =
    let p = place 0 (marks_of c) in
    let x = x_at c 0 in
    let parts : p + cond x (2 * n) 0 + 1 ≡ p + 1 + cond x (2 * n) 0 = omega arith in
    record {
      station = station
          ∙ ap (station_of n)
          (sym (ap (λ k. k % (2 * n)) parts ∙ mod_within x (p + 1) (2 * n) below));
      next = inl (onward_phase n p (place 0 (marks_of d)) x (x_at d 0) next (same some));
    }
advance_by n s c d (around next last station) same flipped =
    let p = place 0 (marks_of c) in
    let x = x_at c 0 in
    let parts : p + cond x (2 * n) 0 + 1 ≡ 2 * n + cond x (2 * n) 0 = omega arith in
    record {
      station = station ∙ going_up n 0 (omega arith)
          ∙ ap (station_of n) (sym (ap (λ k. k % (2 * n)) parts ∙ mod_whole x (2 * n)));
      next = around_phase n p (place 0 (marks_of d)) x (x_at d 0) next last (flipped station);
    }

-- A move of a legitimate line goes on by one phase.
pub advances : (n : ℕ) (c : Configuration) (s : ℕ) (rule : Rule) → IsConfiguration c
    → stations c ≡ n + 1 → IsPrivilege c s rule → IsLegitimate c → Advances n s c (moved c s rule)
advances n c s rule h e p one =
    let d = moved c s rule in
    let later = IsConfiguration-moved c s rule h p in
    let still = IsLegitimate-next c s rule h p one in
    let before_count = length-privileges_of c h in
    let later_count = length-privileges_of d later in
    let long = length-map-range_with_len (mark_at c) 0 (stations c - 1) in
    let step = Step-phases n s (marks_of c) (marks_of d) (Step-moved c s rule h p) (omega arith)
    (omega arith) (omega arith) in
    advance_by n s c d step
    (λ some. (moved_elsewhere c s rule).x_same 0 (λ i. absurd (omega arith)))
    (bottom_flipped c s rule h p)
