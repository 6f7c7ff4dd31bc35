-- How a line is kept: the bits x in one word and the bits up in another, in which bit s is that of
-- station s.
use Rattle.std.specs.Prelude.{◌≡◌, ℕ, ◌==◌, Bool, List, [], ◌∷◌, map, length, slice_index_or}
use Rattle.std.specs.Int.{bit_at}
use Rattle.std.specs.List.{range_with_len}
use Rattle.std.specs.Simd.Lanes.{mask_l}
use Rattle.four_state.specs.Configuration.{Configuration, IsLine}

-- the bits as a word: bit s of it is bit s of the list, and all others are zero
abbrev pub word_of : List Bool → ℕ
word_of bits = mask_l bits

-- the words of a configuration: x, then up
abbrev pub words_of : Configuration → List ℕ
words_of c = word_of c.x ∷ word_of c.up ∷ []

-- the lowest n bits of a word
abbrev pub bits_of : ℕ → ℕ → List Bool
bits_of n word = map (λ s. bit_at word s == 1) (range_with_len 0 n)

-- the bits of the first n stations
abbrev pub shown : ℕ → List ℕ → Configuration
shown n words =
    record { x = bits_of n (slice_index_or words 0 0); up = bits_of n (slice_index_or words 1 0) }

pub record IsKept (n : ℕ) (words : List ℕ) : Type 0 where
  pub line : IsLine (shown n words)
  pub number : length (bits_of n (slice_index_or words 0 0)) ≡ n
  pub same_words : words_of (shown n words) ≡ words
