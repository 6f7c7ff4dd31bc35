-- What a move does to the marks of the line: one of four rewrites, at the station's own boundaries.
use Rattle.std.proofs.Common.{◌≡◌, ℕ, ◌+◌, ◌≤◌, Bool, true, false, List, [], ◌∷◌, ◌++◌, map, length}
use Rattle.std.proofs.Common.{sym, ap, ◌∙◌, arith}
use Rattle.std.proofs.lemmas.List.{map-append, length-map}
use Rattle.four_state.specs.Marks.{Mark, Rising, Falling, Still, mark_count}
use Rattle.four_state.specs.PrivilegeLaws.{mark_count-append}
use Rattle.sweep_auditor.proofs.Rows as Row
use Rattle.sweep_auditor.proofs.Rows.{Cell, Rise, Fall, Bare, count, mark_of}

-- a rise goes up onto a mark, and what it leaves there
pub data Onto : Mark → Mark → Type 0 where
  leaves_fall : Onto Rising Falling
  leaves_none : Onto Rising Still
  onto_none : Onto Still Rising
  onto_fall : Onto Falling Rising

-- a fall goes down onto a mark, and what it leaves there
pub data Under : Mark → Mark → Type 0 where
  under_rise : Under Rising Rising
  falls_on : Under Still Falling
  vanishes : Under Still Still

-- a rise at the top turns into a fall, or vanishes
pub data AtTop : Mark → Type 0 where
  turns : AtTop Falling
  ends : AtTop Still

-- how station s changes the marks
pub data Step (s : ℕ) (before later : List Mark) : Type 0 where
  bottom : (back : List Mark) → s ≡ 0 → before ≡ Falling ∷ back → later ≡ Rising ∷ back
      → Step s before later
  raise : (front back : List Mark) (m k : Mark) → Onto m k → s ≡ length front + 1
      → before ≡ front ++ Rising ∷ m ∷ back → later ≡ front ++ Still ∷ k ∷ back
      → Step s before later
  lower : (front back : List Mark) (m k : Mark) → Under m k → s ≡ length front + 1
      → before ≡ front ++ m ∷ Falling ∷ back → later ≡ front ++ k ∷ Still ∷ back
      → Step s before later
  top : (front : List Mark) (k : Mark) → AtTop k → s ≡ length front + 1
      → before ≡ front ++ Rising ∷ [] → later ≡ front ++ k ∷ [] → Step s before later

-- ---- a change of the row

onto_of : (up : Bool) (m k : Cell) → Row.Onto up m k → Onto (mark_of m) (mark_of k)
onto_of up m k (Row.leaves_fall _) = leaves_fall
onto_of up m k (Row.leaves_none _) = leaves_none
onto_of up m k (Row.onto_up _) = onto_none
onto_of up m k Row.onto_low = onto_none
onto_of up m k Row.onto_fall = onto_fall

under_of : (below : ℕ) (m k : Cell) → Row.Under below m k → Under (mark_of m) (mark_of k)
under_of below m k Row.under_rise = under_rise
under_of below m k Row.falls_on = falls_on
under_of below m k (Row.vanishes some) = vanishes

top_of : (k : Cell) → Row.AtTop k → AtTop (mark_of k)
top_of k Row.turns = turns
top_of k Row.ends = ends

pub Step-of : (s : ℕ) (before later : List Cell) → Row.Change s before later
    → Step s (map mark_of before) (map mark_of later)
Step-of s before later (Row.bottom back e b l) =
    bottom (map mark_of back) e (ap (map mark_of) b) (ap (map mark_of) l)
Step-of s before later (Row.raise front back up m k onto e b l) =
    raise (map mark_of front) (map mark_of back) (mark_of m) (mark_of k) (onto_of up m k onto)
    (e ∙ ap (λ n. n + 1) (sym (length-map front mark_of)))
    (ap (map mark_of) b ∙ map-append mark_of front (Rise up ∷ m ∷ back))
    (ap (map mark_of) l ∙ map-append mark_of front (Bare true ∷ k ∷ back))
Step-of s before later (Row.lower front back m k under e b l) =
    lower (map mark_of front) (map mark_of back) (mark_of m) (mark_of k)
    (under_of (count front) m k under) (e ∙ ap (λ n. n + 1) (sym (length-map front mark_of)))
    (ap (map mark_of) b ∙ map-append mark_of front (m ∷ Fall ∷ back))
    (ap (map mark_of) l ∙ map-append mark_of front (k ∷ Bare false ∷ back))
Step-of s before later (Row.top front k turn e b l) =
    top (map mark_of front) (mark_of k) (top_of k turn)
    (e ∙ ap (λ n. n + 1) (sym (length-map front mark_of)))
    (ap (map mark_of) b ∙ map-append mark_of front (Rise false ∷ []))
    (ap (map mark_of) l ∙ map-append mark_of front (k ∷ []))

-- ---- no move adds a mark

count_more : (front r k : List Mark) → mark_count k ≤ mark_count r
    → mark_count (front ++ k) ≤ mark_count (front ++ r)
count_more front r k h =
    let before = mark_count-append front r in
    let later = mark_count-append front k in
    omega arith

onto_count : (m k : Mark) (back : List Mark) → Onto m k
    → mark_count (Still ∷ k ∷ back) ≤ mark_count (Rising ∷ m ∷ back)
onto_count m k back leaves_fall = omega arith
onto_count m k back leaves_none = omega arith
onto_count m k back onto_none = omega arith
onto_count m k back onto_fall = omega arith

under_count : (m k : Mark) (back : List Mark) → Under m k
    → mark_count (k ∷ Still ∷ back) ≤ mark_count (m ∷ Falling ∷ back)
under_count m k back under_rise = omega arith
under_count m k back falls_on = omega arith
under_count m k back vanishes = omega arith

top_count : (k : Mark) → AtTop k → mark_count (k ∷ []) ≤ mark_count (Rising ∷ [])
top_count k turns = omega arith
top_count k ends = omega arith

pub Step-count : (s : ℕ) (before later : List Mark) → Step s before later
    → mark_count later ≤ mark_count before
Step-count s before later (bottom back _ b l) = rw (b, l) (omega arith)
Step-count s before later (raise front back m k onto _ b l) =
    rw (b, l) (count_more front (Rising ∷ m ∷ back) (Still ∷ k ∷ back) (onto_count m k back onto))
Step-count s before later (lower front back m k under _ b l) =
    rw (b, l) (count_more front (m ∷ Falling ∷ back) (k ∷ Still ∷ back)
    (under_count m k back under))
Step-count s before later (top front k turn _ b l) =
    rw (b, l) (count_more front (Rising ∷ []) (k ∷ []) (top_count k turn))
