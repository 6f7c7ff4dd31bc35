-- A word grows by one bit at its top.
use Rattle.std.proofs.Common.{◌≡◌, ℕ, ◌+◌, ◌*◌, ◌%◌, ◌^◌, ◌<◌, ◌≤◌, Bool, true, false, List, []}
use Rattle.std.proofs.Common.{◌∷◌, ◌++◌, length}
use Rattle.std.proofs.Common.{get_or, take, bit_or, refl, sym, ap, ◌∙◌, arith, take-suc}
use Rattle.std.proofs.Common.{length-take-le, pow-suc}
use Rattle.std.proofs.Common.{add-one}
use Rattle.std.specs.Int.{from_bool}
use Rattle.std.specs.Int.Bits.{or_shifted_r}
use Rattle.std.proofs.lemmas.Nat.{shl_whole}
use Rattle.four_state.specs.Words.{word_of}
use Rattle.four_state.proofs.Words.{digit, word_of-lt}

digit-lt : (b : Bool) → digit b < 2 ^ 1
digit-lt true = omega arith
digit-lt false = omega arith

word_of-more : (bits : List Bool) (b : Bool)
    → word_of (bits ++ b ∷ []) ≡ digit b * 2 ^ length bits + word_of bits
word_of-more [] b = omega arith
word_of-more (a ∷ bits) b =
    let rest = word_of-more bits b in
    let double = pow-suc 2 (length bits) in
    grind (arith)

-- `bit as u64`
from_bool-digit : (b : Bool) → from_bool b ≡ digit b
from_bool-digit true = refl
from_bool-digit false = refl

-- the first i bits and one more
pub packed_more : (bits : List Bool) (i : ℕ) → i < length bits → length bits ≤ 64
    → bit_or (word_of (take i bits)) (from_bool (get_or bits i false) * 2 ^ i % 2 ^ 64)
    ≡ word_of (take (i + 1) bits)
packed_more bits i l most =
    let front = take i bits in
    let b = get_or bits i false in
    let long : length front ≡ i = length-take-le i bits (omega arith) in
    let below = word_of-lt front i (omega arith) in
    ap (λ n. bit_or (word_of front) (n * 2 ^ i % 2 ^ 64)) (from_bool-digit b)
    ∙ ap (λ n. bit_or (word_of front) n) (shl_whole (digit b) 1 i 64 (digit-lt b) (omega arith))
    ∙ or_shifted_r (digit b) i (word_of front) below
    ∙ ap (λ n. digit b * 2 ^ n + word_of front) (sym long)
    ∙ sym (word_of-more front b)
    ∙ sym (ap word_of (ap (λ n. take n bits) (add-one i) ∙ take-suc bits i false l))
