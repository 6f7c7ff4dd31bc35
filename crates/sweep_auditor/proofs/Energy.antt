-- What a row is worth: a number that falls with every move, as long as two marks or more are left.
use Rattle.std.proofs.Common.{◌≡◌, ℕ, zero, suc, ◌+◌, ◌-◌, ◌*◌, ◌≤◌, Bool, true, false, cond, not}
use Rattle.std.proofs.Common.{List, [], ◌∷◌, ◌++◌, length, refl, ap, ◌∙◌, arith}
use Rattle.std.proofs.Math.Nat.{mul-le-mul_left}
use Rattle.sweep_auditor.proofs.Rows.{Cell, Rise, Fall, Bare, count}

-- how many boundaries are free
abbrev pub free : List Cell → ℕ
free [] = 0
free (Rise up ∷ cells) = free cells
free (Fall ∷ cells) = free cells
free (Bare up ∷ cells) = free cells + 1

-- 1 where there is a mark, else 0
abbrev pub some : List Cell → ℕ
some [] = 0
some (Rise up ∷ cells) = 1
some (Fall ∷ cells) = 1
some (Bare up ∷ cells) = some cells

-- how many marks but the last have a station above them that isn't up
abbrev pub low : List Cell → ℕ
low [] = 0
low (Rise true ∷ cells) = low cells
low (Rise false ∷ cells) = low cells + some cells
low (Fall ∷ cells) = low cells + some cells
low (Bare up ∷ cells) = low cells

-- The worth of what stands above the lowest mark. `near`: the stations are not up from a mark other
-- than the lowest on, so far.
abbrev pub worth : Bool → List Cell → ℕ
worth near [] = 0
worth near (Rise up ∷ cells) = free cells + free cells + worth (not up) cells
worth near (Fall ∷ cells) = worth true cells
worth near (Bare true ∷ cells) = low cells + low cells + some cells + worth false cells
worth near (Bare false ∷ cells) =
    low cells + low cells + some cells + cond near (some cells) 0 + worth near cells

-- the worth of the lowest mark, with what stands below and above it
abbrev pub whole : ℕ → List Cell → ℕ
whole below [] = 0
whole below (Rise up ∷ cells) = below * (low cells + low cells) + worth false cells
whole below (Fall ∷ cells) = below * (low cells + low cells + 2) + 1 + worth false cells
whole below (Bare up ∷ cells) = whole (below + 1) cells

-- 1 where the last mark is a rise, 0 where it is a fall
abbrev pub last : ℕ → List Cell → ℕ
last so_far [] = so_far
last so_far (Rise up ∷ cells) = last 1 cells
last so_far (Fall ∷ cells) = last 0 cells
last so_far (Bare up ∷ cells) = last so_far cells

-- n·(n - 1)
abbrev pub pairs : ℕ → ℕ
pairs zero = 0
pairs (suc n) = pairs n + n + n

abbrev pub energy : List Cell → ℕ
energy cells = pairs (count cells) + last 0 cells + whole 0 cells

-- ---- simple bounds

pub pairs-more : (n : ℕ) → pairs (n + 1) ≡ pairs n + n + n
pairs-more n = let e : n + 1 ≡ suc n = omega arith in ap pairs e

pub some-most : (cells : List Cell) → some cells ≤ 1
some-most [] = omega arith
some-most (Rise up ∷ cells) = omega arith
some-most (Fall ∷ cells) = omega arith
some-most (Bare up ∷ cells) = some-most cells

pub some-least : (cells : List Cell) → 1 ≤ count cells → 1 ≤ some cells
some-least [] h = h
some-least (Rise up ∷ cells) h = omega arith
some-least (Fall ∷ cells) h = omega arith
some-least (Bare up ∷ cells) h = some-least cells h

pub low-most : (cells : List Cell) → low cells + some cells ≤ count cells
low-most [] = omega arith
low-most (Rise true ∷ cells) = let rest = low-most cells in omega arith
low-most (Rise false ∷ cells) = let rest = low-most cells in omega arith
low-most (Fall ∷ cells) = let rest = low-most cells in omega arith
low-most (Bare up ∷ cells) = low-most cells

pub worth-near : (near : Bool) (cells : List Cell) → worth near cells ≤ worth true cells
worth-near true cells = omega arith
worth-near false [] = omega arith
worth-near false (Rise up ∷ cells) = omega arith
worth-near false (Fall ∷ cells) = omega arith
worth-near false (Bare true ∷ cells) = omega arith
worth-near false (Bare false ∷ cells) = let rest = worth-near false cells in omega arith

pub worth-far : (near : Bool) (cells : List Cell) → worth false cells ≤ worth near cells
worth-far true cells = worth-near false cells
worth-far false cells = omega arith

pub last-most : (so_far : ℕ) (cells : List Cell) → so_far ≤ 1 → last so_far cells ≤ 1
last-most so_far [] h = h
last-most so_far (Rise up ∷ cells) h = last-most 1 cells (omega arith)
last-most so_far (Fall ∷ cells) h = last-most 0 cells (omega arith)
last-most so_far (Bare up ∷ cells) h = last-most so_far cells h

pub last-marked : (a b : ℕ) (cells : List Cell) → 1 ≤ count cells → last a cells ≡ last b cells
last-marked a b [] h = absurd (omega arith)
last-marked a b (Rise up ∷ cells) h = refl
last-marked a b (Fall ∷ cells) h = refl
last-marked a b (Bare up ∷ cells) h = last-marked a b cells h

pub last-bare : (a : ℕ) (cells : List Cell) → count cells ≡ 0 → last a cells ≡ a
last-bare a [] h = refl
last-bare a (Rise up ∷ cells) h = absurd (omega arith)
last-bare a (Fall ∷ cells) h = absurd (omega arith)
last-bare a (Bare up ∷ cells) h = last-bare a cells h

pub count-free : (cells : List Cell) → count cells + free cells ≡ length cells
count-free [] = omega arith
count-free (Rise up ∷ cells) = let rest = count-free cells in omega arith
count-free (Fall ∷ cells) = let rest = count-free cells in omega arith
count-free (Bare up ∷ cells) = let rest = count-free cells in omega arith

pub count-most : (cells : List Cell) → count cells ≤ length cells
count-most cells = let all = count-free cells in omega arith

-- ---- bounds of the energy

pairs-is : (n : ℕ) → pairs (n + 1) ≡ (n + 1) * n
pairs-is zero = omega arith
pairs-is (suc n) =
    let rest = pairs-is n in
    let more = pairs-more (suc n) in
    let e : suc n ≡ n + 1 = omega arith in
    let product : (suc n + 1) * suc n ≡ (n + 1 + 1) * (n + 1) = ap (λ k. (k + 1) * k) e in
    let same : pairs (suc n) ≡ pairs (n + 1) = ap pairs e in
    omega arith

-- each free boundary adds at most 2 for each mark but the lowest
worth-most : (near : Bool) (cells : List Cell)
    → worth near cells ≤ (count cells + count cells) * free cells
worth-most near [] = omega arith
worth-most near (Rise up ∷ cells) = let rest = worth-most (not up) cells in omega arith
worth-most near (Fall ∷ cells) = let rest = worth-most true cells in omega arith
worth-most near (Bare true ∷ cells) =
    let rest = worth-most false cells in
    let most = low-most cells in
    omega arith
worth-most true (Bare false ∷ cells) =
    let rest = worth-most true cells in
    let most = low-most cells in
    omega arith
worth-most false (Bare false ∷ cells) =
    let rest = worth-most false cells in
    let most = low-most cells in
    omega arith

whole-most : (cells : List Cell) (below j : ℕ) → count cells ≡ j + 1 → 1 ≤ j
    → whole below cells ≤ (j + j) * (below + free cells) + 1
whole-most [] below j e two = absurd (omega arith)
whole-most (Rise up ∷ cells) below j e two =
    let marks : count cells ≡ j = omega arith in
    let rest = rw marks at (worth-most false cells) in
    let most = low-most cells in
    let product = mul-le-mul_left {m = low cells + low cells} {n = j + j} below (omega arith) in
    omega arith
whole-most (Fall ∷ cells) below j e two =
    let marks : count cells ≡ j = omega arith in
    let rest = rw marks at (worth-most false cells) in
    let most = low-most cells in
    let one = some-least cells (omega arith) in
    let product = mul-le-mul_left {m = low cells + low cells + 2} {n = j + j} below (omega arith) in
    omega arith
whole-most (Bare up ∷ cells) below j e two = let rest = whole-most cells (below + 1) j e two in
    omega arith

-- with j + 1 marks and f free boundaries
pub energy-most : (cells : List Cell) (j f : ℕ) → count cells ≡ j + 1 → 1 ≤ j
    → length cells ≡ j + 1 + f → energy cells ≤ (j + 1) * j + (j + j) * f + 2
energy-most cells j f e two long =
    let all = count-free cells in
    let room : free cells ≡ f = omega arith in
    let wholes = whole-most cells 0 j e two in
    let lasting = last-most 0 cells (omega arith) in
    let product : (j + j) * (0 + free cells) ≡ (j + j) * f = ap (λ k. (j + j) * k) (omega arith) in
    let counted : pairs (count cells) ≡ (j + 1) * j = ap pairs e ∙ pairs-is j in
    omega arith

pub energy-least : (cells : List Cell) → 2 ≤ count cells → 2 ≤ energy cells
energy-least cells two =
    let j = count cells - 2 in
    let e : count cells ≡ suc (suc j) = omega arith in
    let counted : pairs (count cells) ≡ pairs (suc (suc j)) = ap pairs e in
    omega arith

-- ---- rows end to end

pub count-append : (front back : List Cell) → count (front ++ back) ≡ count front + count back
count-append [] back = omega arith
count-append (Rise up ∷ front) back = let rest = count-append front back in omega arith
count-append (Fall ∷ front) back = let rest = count-append front back in omega arith
count-append (Bare up ∷ front) back = count-append front back

pub last-append : (so_far : ℕ) (front back : List Cell)
    → last so_far (front ++ back) ≡ last (last so_far front) back
last-append so_far [] back = refl
last-append so_far (Rise up ∷ front) back = last-append 1 front back
last-append so_far (Fall ∷ front) back = last-append 0 front back
last-append so_far (Bare up ∷ front) back = last-append so_far front back

-- the part without a mark below the lowest one
pub whole-bare : (front back : List Cell) (below n : ℕ) → count front ≡ 0 → n ≡ below + length front
    → whole below (front ++ back) ≡ whole n back
whole-bare [] back below n bare e = let here : below ≡ n = omega arith in
    ap (λ b. whole b back) here
whole-bare (Rise up ∷ front) back below n bare e = absurd (omega arith)
whole-bare (Fall ∷ front) back below n bare e = absurd (omega arith)
whole-bare (Bare up ∷ front) back below n bare e =
    whole-bare front back (below + 1) n bare (omega arith)

-- What a change of a part does to what depends on it: e boundaries more are free, and its own worth
-- falls by p and rises by r.
pub record Lowers (e p r : ℕ) (later before : List Cell) : Type 0 where
  pub less_some : some later ≤ some before
  pub less_low : low later ≤ low before
  pub more_free : free later ≤ free before + e
  pub less_worth : (near : Bool) → worth near later + p ≤ worth near before + r

-- the same under what stands below the part
bare_up : (e p r : ℕ) (later before : List Cell) → Lowers e p r later before
    → Lowers e p r (Bare true ∷ later) (Bare true ∷ before)
bare_up e p r later before h =
    let a = h.less_some in
    let b = h.less_low in
    let c = h.more_free in
    record {
      less_some = a;
      less_low = b;
      more_free = omega arith;
      less_worth = λ near. let w = h.less_worth false in omega arith;
    }

bare_low_worth : (e p r : ℕ) (later before : List Cell) → Lowers e p r later before → (near : Bool)
    → worth near (Bare false ∷ later) + p ≤ worth near (Bare false ∷ before) + r
bare_low_worth e p r later before h true =
    let a = h.less_some in
    let b = h.less_low in
    let w = h.less_worth true in omega arith
bare_low_worth e p r later before h false =
    let a = h.less_some in
    let b = h.less_low in
    let w = h.less_worth false in omega arith

bare_low : (e p r : ℕ) (later before : List Cell) → Lowers e p r later before
    → Lowers e p r (Bare false ∷ later) (Bare false ∷ before)
bare_low e p r later before h =
    let c = h.more_free in
    record {
      less_some = h.less_some;
      less_low = h.less_low;
      more_free = omega arith;
      less_worth = bare_low_worth e p r later before h;
    }

fall_under : (e p r : ℕ) (later before : List Cell) → Lowers e p r later before
    → Lowers e p r (Fall ∷ later) (Fall ∷ before)
fall_under e p r later before h =
    let a = h.less_some in
    let b = h.less_low in
    record {
      less_some = omega arith;
      less_low = omega arith;
      more_free = h.more_free;
      less_worth = λ near. h.less_worth true;
    }

rise_under : (e p r : ℕ) (up : Bool) (later before : List Cell) → Lowers e p r later before
    → Lowers e p (r + e + e) (Rise up ∷ later) (Rise up ∷ before)
rise_under e p r true later before h =
    let c = h.more_free in
    record {
      less_some = omega arith;
      less_low = h.less_low;
      more_free = h.more_free;
      less_worth = λ near. let w = h.less_worth false in omega arith;
    }
rise_under e p r false later before h =
    let a = h.less_some in
    let b = h.less_low in
    let c = h.more_free in
    record {
      less_some = omega arith;
      less_low = omega arith;
      more_free = h.more_free;
      less_worth = λ near. let w = h.less_worth true in omega arith;
    }

weaker : (e p r q : ℕ) (later before : List Cell) → r ≤ q → Lowers e p r later before
    → Lowers e p q later before
weaker e p r q later before l h =
    record {
      less_some = h.less_some;
      less_low = h.less_low;
      more_free = h.more_free;
      less_worth = λ near. let w = h.less_worth near in omega arith;
    }

pub Lowers-append : (e p r : ℕ) (front later before : List Cell) → Lowers e p r later before
    → Lowers e p (r + (e + e) * count front) (front ++ later) (front ++ before)
Lowers-append e p r [] later before h = weaker e p r (r + (e + e) * 0) later before (omega arith) h
Lowers-append e p r (Rise up ∷ front) later before h =
    let more = (e + e) * count front in
    weaker e p (r + more + e + e) (r + (e + e) * (count front + 1)) _ _ (omega arith)
    (rise_under e p (r + more) up (front ++ later) (front ++ before)
    (Lowers-append e p r front later before h))
Lowers-append e p r (Fall ∷ front) later before h =
    let more = (e + e) * count front in
    weaker e p (r + more) (r + (e + e) * (count front + 1)) _ _ (omega arith)
    (fall_under e p (r + more) (front ++ later) (front ++ before)
    (Lowers-append e p r front later before h))
Lowers-append e p r (Bare true ∷ front) later before h =
    bare_up e p _ (front ++ later) (front ++ before) (Lowers-append e p r front later before h)
Lowers-append e p r (Bare false ∷ front) later before h =
    bare_low e p _ (front ++ later) (front ++ before) (Lowers-append e p r front later before h)

-- the lowest mark stands below the part
pub whole-falls : (e p r : ℕ) (later before : List Cell) → Lowers e p r later before
    → (front : List Cell) (below : ℕ) → 1 ≤ count front
    → whole below (front ++ later) + p + e + e
    ≤ whole below (front ++ before) + r + (e + e) * count front
whole-falls e p r later before h [] below marked = absurd (omega arith)
whole-falls e p r later before h (Rise up ∷ front) below marked =
    let rest = Lowers-append e p r front later before h in
    let lows = rest.less_low in
    let w = rest.less_worth false in
    let product = mul-le-mul_left {m = low (front ++ later) + low (front ++ later)}
    {n = low (front ++ before) + low (front ++ before)} below (omega arith) in
    omega arith
whole-falls e p r later before h (Fall ∷ front) below marked =
    let rest = Lowers-append e p r front later before h in
    let lows = rest.less_low in
    let w = rest.less_worth false in
    let product = mul-le-mul_left {m = low (front ++ later) + low (front ++ later)}
    {n = low (front ++ before) + low (front ++ before)} below (omega arith) in
    omega arith
whole-falls e p r later before h (Bare up ∷ front) below marked =
    whole-falls e p r later before h front (below + 1) marked
