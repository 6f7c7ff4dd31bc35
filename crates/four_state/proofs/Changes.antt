-- One bit of a word changed, against the list of its bits.
use Rattle.std.proofs.Common.{◌≡◌, ℕ, ◌+◌, ◌*◌, ◌%◌, ◌^◌, ◌<◌, ◌≤◌, Bool, true, false, not, List}
use Rattle.std.proofs.Common.{length, get_or, set}
use Rattle.std.proofs.Common.{bit_and, bit_or, bit_xor, inl, inr, refl, sym, ap, ◌∙◌, arith, w64}
use Rattle.std.proofs.Common.{get_or-set_same}
use Rattle.std.proofs.Common.{get_or-set_other, length-set}
use Rattle.std.specs.Int.{bit_at, bit_not}
use Rattle.std.proofs.lemmas.Bool.{cases_eq}
use Rattle.std.proofs.lemmas.Nat.{one_shl, and_le_l}
use Rattle.std.proofs.lemmas.Nat.Bits.{bit_at_xor, bit_at-pow_same, bit_at-pow_other}
use Rattle.std.proofs.lemmas.Nat.Bits.{bit_at_set_same, bit_at_set_other, bit_at_clear_same}
use Rattle.std.proofs.lemmas.Nat.Bits.{bit_at_clear_other, same_from_bits_below}
use Rattle.four_state.specs.Words.{word_of}
use Rattle.four_state.proofs.Words.{digit, bit_at-word, same_word, word_of-lt}

-- `1 << s`
abbrev pub bit_of : ℕ → ℕ
bit_of s = 1 * 2 ^ s % 2 ^ 64

digit-flipped : (b : Bool) → (digit b + 1) % 2 ≡ digit (not b)
digit-flipped true = refl
digit-flipped false = refl

digit-kept : (b : Bool) → (digit b + 0) % 2 ≡ digit b
digit-kept true = refl
digit-kept false = refl

-- a bit flipped by `^`
pub flipped : (bits : List Bool) (s : ℕ) → length bits ≤ 64 → s < length bits
    → bit_xor (word_of bits) (bit_of s) ≡ word_of (set bits s (not (get_or bits s false)))
flipped bits s most l =
    let old = get_or bits s false in
    let power : bit_of s ≡ 2 ^ s = one_shl s 64 (omega arith) in
    same_word (bit_xor (word_of bits) (bit_of s)) (set bits s (not old)) (λ t.
    ap (λ n. bit_at (bit_xor (word_of bits) n) t) power ∙ bit_at_xor (word_of bits) (2 ^ s) t
    ∙ ap (λ n. (n + bit_at (2 ^ s) t) % 2) (bit_at-word bits t)
    ∙ elim (cases_eq t s) [
      | inl same ↦ rw same
          (ap (λ n. (digit old + n) % 2) (bit_at-pow_same s) ∙ digit-flipped old
          ∙ sym (ap digit (get_or-set_same bits s (not old) false l)))
      | inr other ↦ ap (λ n. (digit (get_or bits t false) + n) % 2) (bit_at-pow_other s t other)
          ∙ digit-kept (get_or bits t false)
          ∙ sym (ap digit (get_or-set_other bits s t (not old) false other))
    ])

-- a bit set by `|`
pub bit_set : (bits : List Bool) (s : ℕ) → length bits ≤ 64 → s < length bits
    → bit_or (word_of bits) (bit_of s) ≡ word_of (set bits s true)
bit_set bits s most l =
    let within : s < 64 = omega arith in
    same_word (bit_or (word_of bits) (bit_of s)) (set bits s true) (λ t.
    elim (cases_eq t s) [
      | inl same ↦ rw same
          (bit_at_set_same w64 (word_of bits) s within
          ∙ sym (ap digit (get_or-set_same bits s true false l)))
      | inr other ↦ bit_at_set_other w64 (word_of bits) s within t other ∙ bit_at-word bits t
          ∙ sym (ap digit (get_or-set_other bits s t true false other))
    ])

-- a bit cleared by `&`
pub bit_cleared : (bits : List Bool) (s : ℕ) → length bits ≤ 64 → s < length bits
    → bit_and (word_of bits) (bit_not w64 (bit_of s)) ≡ word_of (set bits s false)
bit_cleared bits s most l =
    let within : s < 64 = omega arith in
    let cleared = set bits s false in
    let small = word_of-lt bits 64 most in
    let long = length-set bits s false in
    let less = and_le_l (word_of bits) (bit_not w64 (bit_of s)) in
    same_from_bits_below 64 (bit_and (word_of bits) (bit_not w64 (bit_of s))) (word_of cleared)
    (omega arith) (word_of-lt cleared 64 (omega arith)) (λ t below.
    elim (cases_eq t s) [
      | inl same ↦ rw same
          (bit_at_clear_same w64 (word_of bits) s within
          ∙ sym (ap digit (get_or-set_same bits s false false l)) ∙ sym (bit_at-word cleared s))
      | inr other ↦ bit_at_clear_other w64 (word_of bits) s within t below other
          ∙ bit_at-word bits t ∙ sym (ap digit (get_or-set_other bits s t false false other))
          ∙ sym (bit_at-word cleared t)
    ])
