-- The boundaries between neighbors as words, and how many of them are marked.
use Rattle.std.proofs.Common.{◌≡◌, ℕ, zero, suc, ◌+◌, ◌-◌, ◌/◌, ◌%◌, ◌^◌, ◌<◌, ◌≤◌, min, Bool, true}
use Rattle.std.proofs.Common.{false, cond, not}
use Rattle.std.proofs.Common.{◌&&◌, map, length, bit_and, bit_xor, count_ones, inl, inr, refl, sym}
use Rattle.std.proofs.Common.{ap, ap₂, ◌∙◌, arith}
use Rattle.std.proofs.Common.{w64, add-one}
use Rattle.std.specs.Int.{bit_at, bit_not}
use Rattle.std.specs.List.{count_by, range_with_len}
use Rattle.std.proofs.Math.ListN.{get_or-eq_default}
use Rattle.std.proofs.lemmas.Bool.{cases_lt}
use Rattle.std.proofs.lemmas.List.FromFn.{get_or-map-range_with_len, length-map-range_with_len}
use Rattle.std.proofs.lemmas.List.Sums.{sum_by-cons}
use Rattle.std.proofs.lemmas.Nat.{xor_lt}
use Rattle.std.proofs.lemmas.Nat.Bits.{bit_at-suc, bit_at_and, bit_at_xor, bit_at_not, bit_at_ones}
use Rattle.std.proofs.lemmas.Nat.Bits.{bit_at_ones_above}
use Rattle.std.proofs.lemmas.Simd.{ones-mask_l}
use Rattle.four_state.specs.Configuration.{Configuration, IsLine, stations, x_at, up_at, differ}
use Rattle.four_state.specs.Marks.{rises, falls, marks_from, mark_count}
use Rattle.four_state.specs.Privilege.{privileges_of}
use Rattle.four_state.specs.PrivilegeLaws.{one-mark_at, length-privileges_of}
use Rattle.four_state.specs.Words.{word_of}
use Rattle.four_state.proofs.Words.{digit, bit_at-word, same_word, word_of-lt}

-- the numbers of n boundaries as a word: bit b is what f says of boundary b
abbrev pub word_by : (ℕ → Bool) → ℕ → ℕ
word_by f n = word_of (map f (range_with_len 0 n))

digit-min : (b : Bool) → min (digit b) 1 ≡ digit b
digit-min true = refl
digit-min false = refl

min-zero : (n : ℕ) → min n 0 ≡ 0
min-zero n = omega arith

-- a word cut to n bits by a mask
pub masked : (word n : ℕ) (f : ℕ → Bool) → ((s : ℕ) → s < n → bit_at word s ≡ digit (f s))
    → bit_and word (2 ^ n - 1) ≡ word_by f n
masked word n f h =
    let long = length-map-range_with_len f 0 n in
    same_word (bit_and word (2 ^ n - 1)) (map f (range_with_len 0 n)) (λ s.
    bit_at_and word (2 ^ n - 1) s
    ∙ elim (cases_lt s n) [
      | inl below ↦ ap₂ min (h s below) (bit_at_ones n s below) ∙ digit-min (f s)
          ∙ sym (ap digit (get_or-map-range_with_len f 0 n s s false below (omega arith)))
      | inr above ↦ ap (min (bit_at word s)) (bit_at_ones_above n s above)
          ∙ min-zero (bit_at word s)
          ∙ sym (ap digit (get_or-eq_default (map f (range_with_len 0 n)) false (omega arith)))
    ])

digit-differ : (a b : Bool) → (digit a + digit b) % 2 ≡ digit (differ a b)
digit-differ true true = refl
digit-differ true false = refl
digit-differ false true = refl
digit-differ false false = refl

digit-falls : (r u v : Bool)
    → min (min (1 - digit r) (digit u)) (1 - digit v) ≡ digit (not r && (u && not v))
digit-falls true true true = refl
digit-falls true true false = refl
digit-falls true false true = refl
digit-falls true false false = refl
digit-falls false true true = refl
digit-falls false true false = refl
digit-falls false false true = refl
digit-falls false false false = refl

-- `x ^ (x >> 1)`: where neighbors differ
differing : (c : Configuration) (s : ℕ)
    → bit_at (bit_xor (word_of c.x) (word_of c.x / 2)) s ≡ digit (rises c s)
differing c s =
    bit_at_xor (word_of c.x) (word_of c.x / 2) s
    ∙ ap₂ (λ m n. (m + n) % 2) (bit_at-word c.x s)
    (sym (bit_at-suc (word_of c.x) s) ∙ ap (bit_at (word_of c.x)) (sym (add-one s))
    ∙ bit_at-word c.x (s + 1))
    ∙ digit-differ (x_at c s) (x_at c (s + 1))

pub rising_word : (c : Configuration) (n : ℕ)
    → bit_and (bit_xor (word_of c.x) (word_of c.x / 2)) (2 ^ n - 1) ≡ word_by (rises c) n
rising_word c n =
    masked (bit_xor (word_of c.x) (word_of c.x / 2)) n (rises c) (λ s l. differing c s)

pub falling_word : (c : Configuration) (n : ℕ) → IsLine c → n ≤ 64
    → bit_and (bit_and
    (bit_and (bit_not w64 (bit_xor (word_of c.x) (word_of c.x / 2))) (word_of c.up))
    (bit_not w64 (word_of c.up / 2))) (2 ^ n - 1) ≡ word_by (falls c) n
falling_word c n h few =
    let x = word_of c.x in
    let up = word_of c.up in
    let long = h.configuration.as_long in
    let most = h.at_most_64 in
    let x_fits : x < 2 ^ 64 = word_of-lt c.x 64 h.at_most_64 in
    let up_fits : up < 2 ^ 64 = word_of-lt c.up 64 (omega arith) in
    let half : up / 2 < 2 ^ 64 = omega arith in
    let apart : bit_xor x (x / 2) < 2 ^ 64 = xor_lt 64 x (x / 2) x_fits (omega arith) in
    masked (bit_and (bit_and (bit_not w64 (bit_xor x (x / 2))) up) (bit_not w64 (up / 2))) n
    (falls c) (λ s l.
    bit_at_and (bit_and (bit_not w64 (bit_xor x (x / 2))) up) (bit_not w64 (up / 2)) s
    ∙ ap₂ min
    (bit_at_and (bit_not w64 (bit_xor x (x / 2))) up s
    ∙ ap₂ min (bit_at_not w64 (bit_xor x (x / 2)) s apart (omega arith)
    ∙ ap (λ d. 1 - d) (differing c s)) (bit_at-word c.up s))
    (bit_at_not w64 (up / 2) s half (omega arith)
    ∙ ap (λ d. 1 - d)
    (sym (bit_at-suc up s) ∙ ap (bit_at up) (sym (add-one s)) ∙ bit_at-word c.up (s + 1)))
    ∙ digit-falls (rises c s) (up_at c s) (up_at c (s + 1)))

-- ---- how many are marked

both : (r f mark rs fs marks : ℕ) → mark ≡ r + f → rs + fs ≡ marks
    → (r + rs) + (f + fs) ≡ mark + marks
both r f mark rs fs marks a b = omega arith

counted : (c : Configuration) (a n : ℕ)
    → count_by (rises c) (range_with_len a n) + count_by (falls c) (range_with_len a n)
    ≡ mark_count (marks_from c a n)
counted c a zero = refl
counted c a (suc n) =
    let rest = range_with_len (a + 1) n in
    ap₂ (λ i j. i + j) (sum_by-cons (λ b. cond (rises c b) 1 0) a rest)
    (sum_by-cons (λ b. cond (falls c b) 1 0) a rest)
    ∙ both (digit (rises c a)) (digit (falls c a)) _ (count_by (rises c) rest)
    (count_by (falls c) rest) _ (one-mark_at c a) (counted c (a + 1) n)

-- the ones in both words are as many as the privileges
pub ones-privileges : (c : Configuration) → IsLine c
    → count_ones (word_by (rises c) (stations c - 1))
    + count_ones (word_by (falls c) (stations c - 1)) ≡ length (privileges_of c)
ones-privileges c h =
    let range = range_with_len 0 (stations c - 1) in
    ap₂ (λ i j. i + j) (ones-mask_l (rises c) range) (ones-mask_l (falls c) range)
    ∙ counted c 0 (stations c - 1) ∙ sym (length-privileges_of c h.configuration)
