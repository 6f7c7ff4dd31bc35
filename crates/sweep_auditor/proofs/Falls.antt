-- Each move that leaves two marks or more lowers the energy.
use Rattle.std.proofs.Common.{◌≡◌, ℕ, suc, ◌+◌, ◌*◌, ◌≤◌, Bool, true, false, List, [], ◌∷◌, ◌++◌}
use Rattle.std.proofs.Common.{length, refl, ap, ◌∙◌, arith, inl, inr}
use Rattle.std.proofs.Math.Nat.{mul-le-mul_left}
use Rattle.std.proofs.lemmas.Bool.{cases_lt}
use Rattle.sweep_auditor.proofs.Rows.{Cell, Rise, Fall, Bare, count, Onto, leaves_fall, leaves_none}
use Rattle.sweep_auditor.proofs.Rows.{onto_up, onto_low}
use Rattle.sweep_auditor.proofs.Rows.{onto_fall, Under, under_rise, falls_on, vanishes, AtTop}
use Rattle.sweep_auditor.proofs.Rows.{turns, ends, Change}
use Rattle.sweep_auditor.proofs.Rows.{bottom, raise, lower, top}
use Rattle.sweep_auditor.proofs.Energy.{some, low, worth, whole, last, pairs, energy, some-most}
use Rattle.sweep_auditor.proofs.Energy.{some-least, low-most}
use Rattle.sweep_auditor.proofs.Energy.{worth-near, last-most, last-marked, last-bare, pairs-more}
use Rattle.sweep_auditor.proofs.Energy.{count-append}
use Rattle.sweep_auditor.proofs.Energy.{last-append, whole-bare, Lowers, whole-falls}

-- ---- where the lowest mark stands below the two boundaries: what the change does to their worth

-- a rise over a free boundary
over_up : (up : Bool) (back : List Cell)
    → Lowers 0 1 0 (Bare true ∷ Rise true ∷ back) (Rise up ∷ Bare true ∷ back)
over_up true back =
    let one = some-most back in
    record {
      less_some = omega arith;
      less_low = omega arith;
      more_free = omega arith;
      less_worth = λ near. omega arith;
    }
over_up false back =
    let one = some-most back in
    record {
      less_some = omega arith;
      less_low = omega arith;
      more_free = omega arith;
      less_worth = λ near. omega arith;
    }

over_low : (back : List Cell)
    → Lowers 0 1 0 (Bare true ∷ Rise false ∷ back) (Rise false ∷ Bare false ∷ back)
over_low back =
    let one = some-most back in
    record {
      less_some = omega arith;
      less_low = omega arith;
      more_free = omega arith;
      less_worth = λ near. omega arith;
    }

-- a fall over a free boundary
down : (back : List Cell) → Lowers 0 1 0 (Fall ∷ Bare false ∷ back) (Bare true ∷ Fall ∷ back)
down back =
    let one = some-most back in
    record {
      less_some = omega arith;
      less_low = omega arith;
      more_free = omega arith;
      less_worth = λ near. omega arith;
    }

-- a rise at the top becomes a fall
turned : Lowers 0 0 0 (Fall ∷ []) (Rise false ∷ [])
turned = record {
  less_some = omega arith;
  less_low = omega arith;
  more_free = omega arith;
  less_worth = λ near. omega arith;
}

-- a rise meets a fall
swallows : (back : List Cell)
    → Lowers 1 0 (count back + count back + 1) (Bare true ∷ Rise false ∷ back)
    (Rise true ∷ Fall ∷ back)
swallows back =
    let most = low-most back in
    record {
      less_some = omega arith;
      less_low = omega arith;
      more_free = omega arith;
      less_worth = λ near. omega arith;
    }

fades_onto : (back : List Cell)
    → Lowers 1 0 (count back + count back + 2) (Rise false ∷ Bare false ∷ back)
    (Rise true ∷ Fall ∷ back)
fades_onto back =
    let most = low-most back in
    record {
      less_some = omega arith;
      less_low = omega arith;
      more_free = omega arith;
      less_worth = λ near. omega arith;
    }

-- a fall vanishes
fades_worth : (near : Bool) (back : List Cell)
    → worth near (Bare false ∷ Bare false ∷ back) + 0
    ≤ worth near (Bare true ∷ Fall ∷ back) + (count back + count back)
fades_worth true back = let most = low-most back in omega arith
fades_worth false back =
    let most = low-most back in
    let nearer = worth-near false back in
    omega arith

fades : (back : List Cell)
    → Lowers 1 0 (count back + count back) (Bare false ∷ Bare false ∷ back)
    (Bare true ∷ Fall ∷ back)
fades back =
    let one = some-most back in
    record {
      less_some = omega arith;
      less_low = omega arith;
      more_free = omega arith;
      less_worth = λ near. fades_worth near back;
    }

-- two rises meet
meets_fall : (up : Bool) (back : List Cell)
    → Lowers 1 0 (count back + count back + 1) (Bare true ∷ Fall ∷ back)
    (Rise up ∷ Rise false ∷ back)
meets_fall true back =
    let most = low-most back in
    record {
      less_some = omega arith;
      less_low = omega arith;
      more_free = omega arith;
      less_worth = λ near. omega arith;
    }
meets_fall false back =
    let most = low-most back in
    record {
      less_some = omega arith;
      less_low = omega arith;
      more_free = omega arith;
      less_worth = λ near. omega arith;
    }

meets_none : (up : Bool) (back : List Cell)
    → Lowers 2 0 (count back + count back + count back + count back) (Bare true ∷ Bare true ∷ back)
    (Rise up ∷ Rise true ∷ back)
meets_none true back =
    let most = low-most back in
    let one = some-most back in
    record {
      less_some = omega arith;
      less_low = omega arith;
      more_free = omega arith;
      less_worth = λ near. omega arith;
    }
meets_none false back =
    let most = low-most back in
    let one = some-most back in
    record {
      less_some = omega arith;
      less_low = omega arith;
      more_free = omega arith;
      less_worth = λ near. omega arith;
    }

-- a rise vanishes at the top
ended_worth : (near : Bool) → worth near (Bare false ∷ []) + 0 ≤ worth near (Rise false ∷ []) + 0
ended_worth true = omega arith
ended_worth false = omega arith

ended : Lowers 1 0 0 (Bare false ∷ []) (Rise false ∷ [])
ended = record {
  less_some = omega arith;
  less_low = omega arith;
  more_free = omega arith;
  less_worth = ended_worth;
}

-- ---- the energy then, by the number of marks that are lost

pub keeps : (p : ℕ) (front later before : List Cell) → Lowers 0 p 0 later before → 1 ≤ count front
    → count later ≡ count before → ((a : ℕ) → last a later + 1 ≤ last a before + p)
    → energy (front ++ later) + 1 ≤ energy (front ++ before)
keeps p front later before h marked same lasts =
    let falls = whole-falls 0 p 0 later before h front 0 marked in
    let count_later = count-append front later in
    let count_before = count-append front before in
    let as_many : count (front ++ later) ≡ count (front ++ before) = omega arith in
    let last_later = last-append 0 front later in
    let last_before = last-append 0 front before in
    let lasting = lasts (last 0 front) in
    rw as_many (omega arith)

pub loses_one : (r : ℕ) (front later before : List Cell) → Lowers 1 0 r later before
    → 1 ≤ count front → count before ≡ count later + 1 → r ≤ count later + count later
    → energy (front ++ later) + 1 ≤ energy (front ++ before)
loses_one r front later before h marked fewer most =
    let falls = whole-falls 1 0 r later before h front 0 marked in
    let count_later = count-append front later in
    let count_before = count-append front before in
    let one_more : count (front ++ before) ≡ suc (count front + count later) = omega arith in
    let last_later = last-most 0 (front ++ later) (omega arith) in
    rw (one_more, count_later) (omega arith)

pub loses_two : (r : ℕ) (front later before : List Cell) → Lowers 2 0 r later before
    → 1 ≤ count front → count before ≡ count later + 2
    → r ≤ count later + count later + count later + count later
    → energy (front ++ later) + 1 ≤ energy (front ++ before)
loses_two r front later before h marked fewer most =
    let falls = whole-falls 2 0 r later before h front 0 marked in
    let count_later = count-append front later in
    let count_before = count-append front before in
    let two_more : count (front ++ before) ≡ suc (suc (count front + count later)) = omega arith in
    let last_later = last-most 0 (front ++ later) (omega arith) in
    rw (two_more, count_later) (omega arith)

-- ---- where the lowest mark is one of the two: the part in front is bare, and so long

lowest : (front cells : List Cell) (d : ℕ) → count front ≡ 0 → length front ≡ d
    → energy (front ++ cells) ≡ pairs (count cells) + last 0 cells + whole d cells
lowest front cells d bare long =
    let counted = count-append front cells in
    let as_many : count (front ++ cells) ≡ count cells = omega arith in
    let lasting : last 0 (front ++ cells) ≡ last 0 cells =
    last-append 0 front cells ∙ ap (λ a. last a cells) (last-bare 0 front bare) in
    let wholes = whole-bare front cells 0 d bare (omega arith) in
    rw (as_many, lasting, wholes) refl

from_lowest : (front later before : List Cell) (d : ℕ) → count front ≡ 0 → length front ≡ d
    → pairs (count later) + last 0 later + whole d later + 1
    ≤ pairs (count before) + last 0 before + whole d before
    → energy (front ++ later) + 1 ≤ energy (front ++ before)
from_lowest front later before d bare long h =
    let a = lowest front later d bare long in
    let b = lowest front before d bare long in
    omega arith

-- the lowest mark rises
lowest_over_up : (up : Bool) (back : List Cell) (d : ℕ) → 2 ≤ count (Rise true ∷ back)
    → whole d (Bare true ∷ Rise true ∷ back) + 1 ≤ whole d (Rise up ∷ Bare true ∷ back)
lowest_over_up up back d two = let one = some-least back (omega arith) in omega arith

lowest_over_low : (back : List Cell) (d : ℕ) → 2 ≤ count (Rise false ∷ back)
    → whole d (Bare true ∷ Rise false ∷ back) + 1 ≤ whole d (Rise false ∷ Bare false ∷ back)
lowest_over_low back d two = let one = some-least back (omega arith) in omega arith

-- it sinks
lowest_down : (back : List Cell) (d : ℕ)
    → whole d (Fall ∷ Bare false ∷ back) + 1 ≤ whole d (Bare true ∷ Fall ∷ back)
lowest_down back d = let one = some-most back in omega arith

-- it meets a fall
lowest_swallows : (back : List Cell) (d : ℕ) → 2 ≤ count (Rise false ∷ back)
    → whole d (Bare true ∷ Rise false ∷ back) + 1
    ≤ whole d (Rise true ∷ Fall ∷ back) + (count back + count back)
lowest_swallows back d two =
    let one = some-least back (omega arith) in
    let most = low-most back in
    let nearer = worth-near false back in
    let product = mul-le-mul_left {m = low back + low back}
    {n = low back + some back + (low back + some back)} d (omega arith) in
    omega arith

lowest_fades_onto : (back : List Cell) (d : ℕ) → 2 ≤ count (Rise false ∷ Bare false ∷ back)
    → whole d (Rise false ∷ Bare false ∷ back) + 1
    ≤ whole d (Rise true ∷ Fall ∷ back) + (count back + count back)
lowest_fades_onto back d two =
    let one = some-least back (omega arith) in
    let most = low-most back in
    let nearer = worth-near false back in
    let product = mul-le-mul_left {m = low back + low back}
    {n = low back + some back + (low back + some back)} d (omega arith) in
    omega arith

-- it meets a rise
lowest_meets_fall : (up : Bool) (back : List Cell) (d : ℕ) → 2 ≤ count (Bare true ∷ Fall ∷ back)
    → whole d (Bare true ∷ Fall ∷ back)
    ≤ whole d (Rise up ∷ Rise false ∷ back) + (count back + count back) + 1
lowest_meets_fall up back d two =
    let one = some-least back (omega arith) in
    let at_most_one = some-most back in
    let single : some back ≡ 1 = omega arith in
    let most = low-most back in
    let nearer = worth-near false back in
    rw single (omega arith)

next_lowest : (cells : List Cell) (below : ℕ) (near : Bool) → 2 ≤ count cells
    → whole below cells ≤ below * (low cells + low cells) + worth near cells + 1
next_lowest [] below near two = absurd (omega arith)
next_lowest (Rise true ∷ cells) below near two = omega arith
next_lowest (Rise false ∷ cells) below near two =
    let nearer = worth-near false cells in
    let product = mul-le-mul_left {m = low cells + low cells}
    {n = low cells + some cells + (low cells + some cells)} below (omega arith) in
    omega arith
next_lowest (Fall ∷ cells) below near two =
    let least = some-least cells (omega arith) in
    let most = some-most cells in
    let single : some cells ≡ 1 = omega arith in
    let nearer = worth-near false cells in
    rw single (omega arith)
next_lowest (Bare true ∷ cells) below near two = let rest =
    next_lowest cells (below + 1) false two in omega arith
next_lowest (Bare false ∷ cells) below near two = let rest =
    next_lowest cells (below + 1) near two in omega arith

lowest_meets_none : (up : Bool) (back : List Cell) (d : ℕ) → 2 ≤ count back
    → whole d (Bare true ∷ Bare true ∷ back) + 1
    ≤ whole d (Rise up ∷ Rise true ∷ back) + (count back + count back + count back + count back)
lowest_meets_none up back d two =
    let rest = next_lowest back (d + 1 + 1) false two in
    let one = some-least back (omega arith) in
    let most = low-most back in
    omega arith

-- ---- each change, where the lowest mark stands below the two boundaries

raise_above : (front back : List Cell) (up : Bool) (m k : Cell) → Onto up m k → 1 ≤ count front
    → energy (front ++ Bare true ∷ k ∷ back) + 1 ≤ energy (front ++ Rise up ∷ m ∷ back)
raise_above front back up m k (leaves_fall _) marked =
    loses_one _ front _ _ (meets_fall up back) marked (omega arith) (omega arith)
raise_above front back up m k (leaves_none _) marked =
    loses_two _ front _ _ (meets_none up back) marked (omega arith) (omega arith)
raise_above front back up m k (onto_up _) marked =
    keeps 1 front _ _ (over_up up back) marked (omega arith) (λ a. omega arith)
raise_above front back up m k onto_low marked =
    keeps 1 front _ _ (over_low back) marked (omega arith) (λ a. omega arith)
raise_above front back up m k onto_fall marked =
    loses_one _ front _ _ (swallows back) marked (omega arith) (omega arith)

lower_above : (front back : List Cell) (m k : Cell) → Under (count front) m k → 1 ≤ count front
    → energy (front ++ k ∷ Bare false ∷ back) + 1 ≤ energy (front ++ m ∷ Fall ∷ back)
lower_above front back m k under_rise marked =
    loses_one _ front _ _ (fades_onto back) marked (omega arith) (omega arith)
lower_above front back m k falls_on marked =
    keeps 1 front _ _ (down back) marked (omega arith) (λ a. omega arith)
lower_above front back m k (vanishes below) marked =
    loses_one _ front _ _ (fades back) marked (omega arith) (omega arith)

top_above : (front : List Cell) (k : Cell) → AtTop k → 1 ≤ count front
    → energy (front ++ k ∷ []) + 1 ≤ energy (front ++ Rise false ∷ [])
top_above front k turns marked = keeps 0 front _ _ turned marked (omega arith) (λ a. omega arith)
top_above front k ends marked = loses_one _ front _ _ ended marked (omega arith) (omega arith)

-- ---- and where it is one of the two

raise_lowest : (front back : List Cell) (up : Bool) (m k : Cell) → Onto up m k → count front ≡ 0
    → 2 ≤ count (Bare true ∷ k ∷ back)
    → energy (front ++ Bare true ∷ k ∷ back) + 1 ≤ energy (front ++ Rise up ∷ m ∷ back)
raise_lowest front back up m k (leaves_fall _) bare two =
    let d = length front in
    let less = lowest_meets_fall up back d two in
    let same = last-marked 0 1 back (omega arith) in
    let loses = pairs-more (count back + 1) in
    from_lowest front _ _ d bare refl (omega arith)
raise_lowest front back up m k (leaves_none _) bare two =
    let d = length front in
    let less = lowest_meets_none up back d two in
    let lasting = last-most 0 back (omega arith) in
    let one = pairs-more (count back) in
    let loses = pairs-more (count back + 1) in
    from_lowest front _ _ d bare refl (omega arith)
raise_lowest front back up m k (onto_up _) bare two =
    let less = lowest_over_up up back (length front) two in
    from_lowest front _ _ (length front) bare refl (omega arith)
raise_lowest front back up m k onto_low bare two =
    let less = lowest_over_low back (length front) two in
    from_lowest front _ _ (length front) bare refl (omega arith)
raise_lowest front back up m k onto_fall bare two =
    let d = length front in
    let less = lowest_swallows back d two in
    let lasting = last-most 1 back (omega arith) in
    let loses = pairs-more (count back + 1) in
    from_lowest front _ _ d bare refl (omega arith)

lower_lowest : (front back : List Cell) (m k : Cell) → Under (count front) m k → count front ≡ 0
    → 2 ≤ count (k ∷ Bare false ∷ back)
    → energy (front ++ k ∷ Bare false ∷ back) + 1 ≤ energy (front ++ m ∷ Fall ∷ back)
lower_lowest front back m k under_rise bare two =
    let d = length front in
    let less = lowest_fades_onto back d two in
    let lasting = last-most 1 back (omega arith) in
    let loses = pairs-more (count back + 1) in
    from_lowest front _ _ d bare refl (omega arith)
lower_lowest front back m k falls_on bare two =
    let less = lowest_down back (length front) in
    from_lowest front _ _ (length front) bare refl (omega arith)
lower_lowest front back m k (vanishes below) bare two = absurd (omega arith)

top_few : (k : Cell) → AtTop k → count (k ∷ []) ≤ 1
top_few k turns = omega arith
top_few k ends = omega arith

bottom_falls : (back : List Cell) → 2 ≤ count (Rise false ∷ back)
    → energy (Rise false ∷ back) + 1 ≤ energy (Fall ∷ back)
bottom_falls back two =
    let same = last-marked 0 1 back (omega arith) in
    omega arith

-- A move that leaves two marks or more lowers the energy.
pub Change-falls : (s : ℕ) (before later : List Cell) → Change s before later → 2 ≤ count later
    → energy later + 1 ≤ energy before
Change-falls s before later (bottom back _ b l) two =
    let two_now = rw l at two in
    rw (b, l) (bottom_falls back two_now)
Change-falls s before later (raise front back up m k onto _ b l) two =
    let two_now = rw l at two in
    let parts = count-append front (Bare true ∷ k ∷ back) in
    elim (cases_lt 0 (count front)) [
      | inl marked ↦ rw (b, l) (raise_above front back up m k onto (omega arith))
      | inr bare ↦ rw (b, l) (raise_lowest front back up m k onto (omega arith) (omega arith))
    ]
Change-falls s before later (lower front back m k under _ b l) two =
    let two_now = rw l at two in
    let parts = count-append front (k ∷ Bare false ∷ back) in
    elim (cases_lt 0 (count front)) [
      | inl marked ↦ rw (b, l) (lower_above front back m k under (omega arith))
      | inr bare ↦ rw (b, l) (lower_lowest front back m k under (omega arith) (omega arith))
    ]
Change-falls s before later (top front k turn _ b l) two =
    let two_now = rw l at two in
    let parts = count-append front (k ∷ []) in
    let few = top_few k turn in
    rw (b, l) (top_above front k turn (omega arith))
