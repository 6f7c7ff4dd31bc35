-- The longest run from the rows of the worst starts, none of whose configurations is legitimate.
use Rattle.std.proofs.Common.{◌≡◌, ℕ, zero, suc, ◌+◌, ◌*◌, ◌≤◌, Bool, true, false, List, [], ◌∷◌}
use Rattle.std.proofs.Common.{◌++◌, refl, sym, ap, ◌∙◌, arith, append_assoc}
use Rattle.std.proofs.lemmas.List.{append-nil}
use Rattle.sweep_auditor.proofs.Rows.{Cell, Rise, Fall, Bare, count}
use Rattle.sweep_auditor.proofs.Energy.{count-append}
use Rattle.sweep_auditor.proofs.Played.{above, Lasts, lasts_here, lasts_more, allows_raise}
use Rattle.sweep_auditor.proofs.Played.{allows_sink, allows_fade, allows_turn, allows_bottom}

-- n boundaries alike
abbrev pub many : ℕ → Cell → List Cell
many zero cell = []
many (suc n) cell = cell ∷ many n cell

-- one boundary more in front
pushed : (front : List Cell) (cell : Cell) (back : List Cell)
    → (front ++ cell ∷ []) ++ back ≡ front ++ cell ∷ back
pushed front cell back = append_assoc front (cell ∷ []) back

many-more : (n : ℕ) (cell : Cell) (back : List Cell)
    → cell ∷ (many n cell ++ back) ≡ many n cell ++ (cell ∷ back)
many-more zero cell back = refl
many-more (suc n) cell back = ap (λ (l : List Cell). cell ∷ l) (many-more n cell back)

above-append : (up : Bool) (front back : List Cell)
    → above up (front ++ back) ≡ above (above up front) back
above-append up [] back = refl
above-append up (Rise v ∷ front) back = above-append v front back
above-append up (Fall ∷ front) back = above-append false front back
above-append up (Bare v ∷ front) back = above-append v front back

all_up : (n : ℕ) → above true (many n (Bare true)) ≡ true
all_up zero = refl
all_up (suc n) = all_up n

above-many : (n : ℕ) (front : List Cell) → above true front ≡ true
    → above true (front ++ many n (Bare true)) ≡ true
above-many n front up =
    above-append true front (many n (Bare true)) ∙ ap (λ u. above u (many n (Bare true))) up
    ∙ all_up n

two_marks : (front : List Cell) (back : List Cell) → 1 ≤ count front → 1 ≤ count back
    → 2 ≤ count (front ++ back)
two_marks front back a b = let parts = count-append front back in omega arith

count-pushed : (front : List Cell) (cell : Cell) → 1 ≤ count front → 1 ≤ count (front ++ cell ∷ [])
count-pushed front cell some = let parts = count-append front (cell ∷ []) in omega arith

pub count-many : (n : ℕ) → count (many n (Rise true)) ≡ n
count-many zero = refl
count-many (suc n) = let rest = count-many n in omega arith

count-free : (n : ℕ) → count (many n (Bare false)) ≡ 0
count-free zero = refl
count-free (suc n) = count-free n

-- the highest U goes up to the top
climbs : (q number : ℕ) (front : List Cell) → 1 ≤ count front
    → Lasts (front ++ (many q (Bare true) ++ Rise false ∷ [])) number
    → Lasts (front ++ Rise false ∷ many q (Bare false)) (number + q)
climbs zero number front some lasts = let same : number + 0 ≡ number = omega arith in rw same lasts
climbs (suc q) number front some lasts =
    let next = front ++ Bare true ∷ [] in
    let there = rw (← pushed front (Bare true) (many q (Bare true) ++ Rise false ∷ [])) at lasts in
    let rest = climbs q number next (count-pushed front (Bare true) some) there in
    let here = rw (pushed front (Bare true) (Rise false ∷ many q (Bare false))) at rest in
    let counted : number + suc q ≡ number + q + 1 = omega arith in
    let two = two_marks front (Rise false ∷ Bare false ∷ many q (Bare false)) some (omega arith) in
    rw counted (lasts_more _ _ _ _ (number + q) two
    (allows_raise front (many q (Bare false)) false false) here)

-- a D comes down from the top
sinks : (q number : ℕ) (front back : List Cell) → 1 ≤ count front → above true front ≡ true
    → Lasts (front ++ (Fall ∷ (many q (Bare false) ++ back))) number
    → Lasts (front ++ (many q (Bare true) ++ Fall ∷ back)) (number + q)
sinks zero number front back some up lasts = let same : number + 0 ≡ number = omega arith in
    rw same lasts
sinks (suc q) number front back some up lasts =
    let next = front ++ Bare true ∷ [] in
    let low = many q (Bare false) ++ back in
    let two = two_marks front (Bare true ∷ Fall ∷ low) some (omega arith) in
    let last = lasts_more _ _ _ _ number two (λ c. allows_sink front low c up) lasts in
    let there = rw (← pushed front (Bare true) (Fall ∷ low)) at last in
    let rest = sinks q (number + 1) next back (count-pushed front (Bare true) some)
    (above-append true front (Bare true ∷ [])) there in
    let here = rw (pushed front (Bare true) (many q (Bare true) ++ Fall ∷ back)) at rest in
    let counted : number + suc q ≡ number + 1 + q = omega arith in
    rw counted here

-- a U goes up over boundaries at which the stations are up
passes : (q number : ℕ) (front back : List Cell) (v : Bool) → 1 ≤ count back
    → Lasts (front ++ (many (suc q) (Bare true) ++ Rise true ∷ back)) number
    → Lasts (front ++ (Rise v ∷ (many (suc q) (Bare true) ++ back))) (number + suc q)
passes zero number front back v some lasts =
    let counted : number + suc zero ≡ number + 1 = refl in
    let parts = count-append front (Rise v ∷ Bare true ∷ back) in
    let two : 2 ≤ count (front ++ Rise v ∷ Bare true ∷ back) = omega arith in
    lasts_more _ _ _ _ number two (allows_raise front back v true) lasts
passes (suc q) number front back v some lasts =
    let next = front ++ Bare true ∷ [] in
    let there = rw (← pushed front (Bare true) (many (suc q) (Bare true) ++ Rise true ∷ back)) at
    lasts in
    let rest = passes q number next back true some there in
    let here = rw (pushed front (Bare true) (Rise true ∷ (many (suc q) (Bare true) ++ back))) at
    rest in
    let counted : number + suc (suc q) ≡ number + suc q + 1 = omega arith in
    let tail = many (suc q) (Bare true) ++ back in
    let parts = count-append front (Rise v ∷ Bare true ∷ tail) in
    let more = count-append (many (suc q) (Bare true)) back in
    let two : 2 ≤ count (front ++ Rise v ∷ Bare true ∷ tail) = omega arith in
    rw counted (lasts_more _ _ _ _ (number + suc q) two (allows_raise front tail v true) here)

-- ---- the run, from its end backwards

-- U's at the boundaries from 0 to i and one more, and q free boundaries above
abbrev pub stage : ℕ → ℕ → List Cell
stage i q = Rise false ∷ (many i (Rise true) ++ Rise false ∷ many q (Bare false))

above-stage : (i : ℕ) → above true (Rise false ∷ many (suc i) (Rise true)) ≡ true
above-stage zero = refl
above-stage (suc i) = above-stage i

-- the highest goes up, turns, comes down and vanishes
one_less : (i q number : ℕ) → Lasts (stage i (suc q)) number
    → Lasts (stage (suc i) q) (number + 1 + q + 1 + q)
one_less i q number lasts =
    let lower = Rise false ∷ many i (Rise true) in
    let front = Rise false ∷ many (suc i) (Rise true) in
    let free = many q (Bare false) in
    let whole : free ++ [] ≡ free = append-nil free in
    let two = two_marks lower (Rise true ∷ Fall ∷ free) (omega arith) (omega arith) in
    let faded : Lasts (lower ++ Rise true ∷ Fall ∷ free) (number + 1) =
    lasts_more _ _ _ _ number two (allows_fade lower free) lasts in
    let low : lower ++ Rise true ∷ Fall ∷ free ≡ front ++ (Fall ∷ (free ++ [])) =
    ap (λ (l : List Cell). Rise false ∷ l)
    (sym (many-more i (Rise true) (Fall ∷ free))
    ∙ ap (λ (l : List Cell). Rise true ∷ (many i (Rise true) ++ Fall ∷ l)) (sym whole)) in
    let down = sinks q (number + 1) front [] (omega arith) (above-stage i) (rw low at faded) in
    let top = front ++ many q (Bare true) in
    let above_all : front ++ (many q (Bare true) ++ Fall ∷ []) ≡ top ++ Fall ∷ [] =
    sym (append_assoc front (many q (Bare true)) (Fall ∷ [])) in
    let parts = count-append front (many q (Bare true)) in
    let pair = two_marks top (Rise false ∷ []) (omega arith) (omega arith) in
    let turned : Lasts (top ++ Rise false ∷ []) (number + 1 + q + 1) =
    lasts_more _ _ _ _ (number + 1 + q) pair
    (λ c. allows_turn top c (above-many q front (above-stage i))) (rw above_all at down) in
    let before : top ++ Rise false ∷ [] ≡ front ++ (many q (Bare true) ++ Rise false ∷ []) =
    append_assoc front (many q (Bare true)) (Rise false ∷ []) in
    climbs q (number + 1 + q + 1) front (omega arith) (rw before at turned)

-- and so each of those above the last two
all_less : (i q number : ℕ) → Lasts (stage 0 (q + i)) number
    → Lasts (stage i q) (number + i * (2 * q + i + 1))
all_less zero q number lasts =
    let same : number + 0 * (2 * q + 0 + 1) ≡ number = omega arith in
    let room : q + 0 ≡ q = omega arith in
    rw same (rw room at lasts)
all_less (suc i) q number lasts =
    let room : q + suc i ≡ suc q + i = omega arith in
    let rest = all_less i (suc q) number (rw room at lasts) in
    let counted : number + suc i * (2 * q + suc i + 1)
    ≡ number + i * (2 * suc q + i + 1) + 1 + q + 1 + q = omega arith in
    rw counted (one_less i q (number + i * (2 * suc q + i + 1)) rest)

-- the last two go up both, and the upper one turns
last_two : (p : ℕ) → Lasts (stage 0 (suc p)) (suc p + suc p + 1)
last_two p =
    let bare = many (suc p) (Bare true) in
    let front = bare ++ Rise true ∷ [] in
    let counted_front = count-append bare (Rise true ∷ []) in
    let end = lasts_here (front ++ Fall ∷ [])
    (two_marks front (Fall ∷ []) (omega arith) (omega arith)) in
    let up : above true front ≡ true = above-append true bare (Rise true ∷ []) in
    let turned : Lasts (front ++ Rise false ∷ []) 1 =
    lasts_more _ _ _ _ 0 (two_marks front (Rise false ∷ []) (omega arith) (omega arith))
    (λ c. allows_turn front c up) end in
    let here : front ++ Rise false ∷ [] ≡ bare ++ Rise true ∷ Rise false ∷ [] =
    pushed bare (Rise true) (Rise false ∷ []) in
    let lower : Lasts ([] ++ (Rise false ∷ (bare ++ Rise false ∷ []))) (1 + suc p) =
    passes p 1 [] (Rise false ∷ []) false (omega arith) (rw here at turned) in
    let upper = climbs (suc p) (1 + suc p) (Rise false ∷ []) (omega arith) lower in
    let counted : suc p + suc p + 1 ≡ 1 + suc p + suc p = omega arith in
    rw counted upper

-- the start: a D at the bottom, i + 1 U's above it, and q free boundaries above those
abbrev pub long_row : ℕ → ℕ → List Cell
long_row i q = Fall ∷ (many i (Rise true) ++ Rise false ∷ many q (Bare false))

pub count-long_row : (i q : ℕ) → count (long_row i q) ≡ i + 2
count-long_row i q =
    let parts = count-append (many i (Rise true)) (Rise false ∷ many q (Bare false)) in
    let marks = count-many i in
    let none = count-free q in
    omega arith

-- the bottom station moves, and the rest follows
pub longest_row : (i q p : ℕ) → i + q ≡ suc p → Lasts (long_row i q) ((i + 1) * (i + q + q + 2))
longest_row i q p e =
    let free : q + i ≡ suc p = omega arith in
    let final : Lasts (stage 0 (q + i)) (q + i + (q + i) + 1) = rw free (last_two p) in
    let all = all_less i q (q + i + (q + i) + 1) final in
    let back = many i (Rise true) ++ Rise false ∷ many q (Bare false) in
    let marks = count-long_row i q in
    let number : (i + 1) * (i + q + q + 2) ≡ q + i + (q + i) + 1 + i * (2 * q + i + 1) + 1 =
    omega arith in
    rw number (lasts_more _ _ _ _ (q + i + (q + i) + 1 + i * (2 * q + i + 1)) (omega arith)
    (λ c. allows_bottom back c) all)
