-- A word against the list of its bits.
use Rattle.std.proofs.Common.{◌≡◌, ℕ, ◌/◌, ◌^◌, ◌<◌, ◌≤◌, ◌==◌, ◌↔◌, Bool, true, false, cond, List}
use Rattle.std.proofs.Common.{length, get_or, bit_and, IsTrue, IsBitSet, refl, sym, ap, ◌∙◌, arith}
use Rattle.std.proofs.Common.{pow_mono}
use Rattle.std.specs.Int.{bit_at}
use Rattle.std.proofs.Math.ListN.{get_or-eq_default}
use Rattle.std.proofs.lemmas.List.{ext_get_or}
use Rattle.std.proofs.lemmas.List.FromFn.{get_or-map-range_with_len, length-map-range_with_len}
use Rattle.std.proofs.lemmas.Nat.{bit_set_by_shift}
use Rattle.std.proofs.lemmas.Nat.Bits.{same_from_bits, shr_and_one}
use Rattle.std.proofs.lemmas.Simd.{bit_mask_l, mask_l-lt}
use Rattle.four_state.specs.Words.{word_of, bits_of}

-- one bit as a number
abbrev pub digit : Bool → ℕ
digit b = cond b 1 0

digit-one : (b : Bool) → (digit b == 1) ≡ b
digit-one true = refl
digit-one false = refl

-- the bits of a word are those of its list
pub bit_at-word : (bits : List Bool) (s : ℕ) → bit_at (word_of bits) s ≡ digit (get_or bits s false)
bit_at-word bits s = bit_mask_l bits s

pub word-bit : (bits : List Bool) (s : ℕ) → (bit_at (word_of bits) s == 1) ≡ get_or bits s false
word-bit bits s = ap (λ n. n == 1) (bit_at-word bits s) ∙ digit-one (get_or bits s false)

-- a number with these bits is their word
pub same_word : (word : ℕ) (bits : List Bool)
    → ((s : ℕ) → bit_at word s ≡ digit (get_or bits s false)) → word ≡ word_of bits
same_word word bits h = same_from_bits word (word_of bits) (λ s. h s ∙ sym (bit_at-word bits s))

-- the word has no bit past the list
pub word_of-lt : (bits : List Bool) (n : ℕ) → length bits ≤ n → word_of bits < 2 ^ n
word_of-lt bits n h = let below = mask_l-lt bits in let more = pow_mono h in omega arith

-- a word gives its list back
pub bits_of-word : (bits : List Bool) (n : ℕ) → length bits ≡ n → bits_of n (word_of bits) ≡ bits
bits_of-word bits n e =
    let long = length-map-range_with_len (λ s. bit_at (word_of bits) s == 1) 0 n in
    ext_get_or false (bits_of n (word_of bits)) bits (long ∙ sym e) (λ s l.
    get_or-map-range_with_len (λ t. bit_at (word_of bits) t == 1) 0 n s s false (omega arith)
    (omega arith) ∙ word-bit bits s)

digit-true : (b : Bool) → digit b ≡ 1 → IsTrue b
digit-true true e = refl
digit-true false e = absurd (omega arith)

true-digit : (b : Bool) → IsTrue b → digit b ≡ 1
true-digit b e = ap digit e

-- a bit of the word is set exactly where that of the list is true
pub IsBitSet-word : (bits : List Bool) (s : ℕ)
    → IsBitSet (word_of bits) s ↔ IsTrue (get_or bits s false)
IsBitSet-word bits s =
    let test = bit_set_by_shift (word_of bits) s in
    let one : bit_and (word_of bits / 2 ^ s) 1 ≡ digit (get_or bits s false) =
    shr_and_one (word_of bits) s ∙ bit_at-word bits s in (
      λ is_set. digit-true (get_or bits s false) (sym one ∙ test.1 is_set),
      λ is_true. test.0 (one ∙ true-digit (get_or bits s false) is_true),
    )

-- and none past the list
pub no_bit_past : (bits : List Bool) (s : ℕ) → length bits ≤ s → IsBitSet (word_of bits) s → ⊥
no_bit_past bits s past is_set = let b = (IsBitSet-word bits s).0 is_set in
    let none = get_or-eq_default bits false past in absurd (cc)
