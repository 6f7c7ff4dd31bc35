-- What a line's fields say of its configuration.
use Rattle.std.proofs.Common.{◌≡◌, ℕ, zero, suc, ◌+◌, ◌<◌, ◌≤◌, ◌==◌, Bool, not, List, [], ◌∷◌}
use Rattle.std.proofs.Common.{get_or, set, bit_xor, IsBitSet, refl, sym, ap, ap₂, ◌∙◌, arith}
use Rattle.std.proofs.Common.{length-set}
use Rattle.std.proofs.lemmas.List.FromFn.{length-map-range_with_len}
use Rattle.std.specs.Int.{bit_at}
use Rattle.std.specs.List.{Contains}
use Rattle.four_state.specs.Configuration.{Configuration, IsLine, stations, x_at}
use Rattle.four_state.specs.Motion.{x_flipped}
use Rattle.four_state.specs.MotionLaws.{IsLine-x, IsLine-up}
use Rattle.four_state.specs.Words.{word_of, words_of, shown, IsKept}
use Rattle.four_state.proofs.Words.{bits_of-word, no_bit_past}
use Rattle.four_state.proofs.Changes.{bit_of, flipped}

pub record Says (n : ℕ) (words : List ℕ) (c : Configuration) : Type 0 where
  pub number : n ≡ stations c
  pub same_words : words ≡ words_of c
  pub line : IsLine c

-- a line that is kept says what is shown
pub says : (n : ℕ) (words : List ℕ) (c : Configuration) → IsKept n words → shown n words ≡ c
    → Says n words c
says n words c k e =
    record {
      number = sym k.number ∙ ap stations e;
      same_words = sym k.same_words ∙ ap words_of e;
      line = rw e at k.line;
    }

-- and the other way round
pub shows : (n : ℕ) (words : List ℕ) (c : Configuration) → Says n words c → shown n words ≡ c
shows n words c h =
    ap₂ shown h.number h.same_words
    ∙ ap₂ (λ (x up : List Bool). record { x = x; up = up }) (bits_of-word c.x (stations c) refl)
    (bits_of-word c.up (stations c) h.line.configuration.as_long)

pub keeps : (n : ℕ) (words : List ℕ) (c : Configuration) → Says n words c → IsKept n words
keeps n words c h =
    let e = shows n words c h in
    record {
      line = rw e h.line;
      number = length-map-range_with_len (λ s. bit_at (get_or words 0 0) s == 1) 0 n;
      same_words = ap words_of e ∙ sym h.same_words;
    }

-- after a bit x is flipped
pub says-flipped : (n : ℕ) (words : List ℕ) (c : Configuration) (s : ℕ) → Says n words c
    → s < stations c
    → Says n (set words 0 (bit_xor (get_or words 0 0) (bit_of s)))
    (record { x = x_flipped c s; up = c.up })
says-flipped n words c s h l =
    record {
      number = h.number ∙ sym (length-set c.x s (not (x_at c s)));
      same_words = ap (λ (ws : List ℕ). set ws 0 (bit_xor (get_or ws 0 0) (bit_of s))) h.same_words
          ∙ ap (λ w. w ∷ word_of c.up ∷ []) (flipped c.x s h.line.at_most_64 l);
      line = IsLine-x c s (not (x_at c s)) h.line;
    }

-- after a bit up of a middle station is written
pub says-up : (n : ℕ) (words : List ℕ) (c : Configuration) (s : ℕ) (bit : Bool) (word : ℕ)
    → Says n words c → 0 < s → s + 1 < stations c → word ≡ word_of (set c.up s bit)
    → Says n (set words 1 word) (record { x = c.x; up = set c.up s bit })
says-up n words c s bit word h above below e =
    record {
      number = h.number;
      same_words = ap (λ (ws : List ℕ). set ws 1 word) h.same_words
          ∙ ap (λ w. word_of c.x ∷ w ∷ []) e;
      line = IsLine-up c s bit h.line above below;
    }

-- no word of a line has a bit past the top station
pub no_other_bit : (c : Configuration) → IsLine c → (word : ℕ) → Contains (words_of c) word
    → (s : ℕ) → stations c ≤ s → IsBitSet word s → ⊥
no_other_bit c h word (zero, l, e) s past is_set = no_bit_past c.x s past (rw e is_set)
no_other_bit c h word (suc zero, l, e) s past is_set = let long = h.configuration.as_long in
    no_bit_past c.up s (omega arith) (rw e is_set)
no_other_bit c h word (suc (suc k), l, e) s past is_set = absurd (omega arith)
