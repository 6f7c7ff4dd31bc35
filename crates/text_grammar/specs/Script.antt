-- What a script's bytes say: words, numbers and bits. What its lines are is told by std's `lines`.
use Rattle.std.specs.Prelude.{ℕ, ◌^◌, Bool, ◌&&◌, ◌||◌, List, ◌==◌, nat_lt, length, filter, map}
use Rattle.std.specs.List.{list_all, slice_split}
use Rattle.std.specs.Char.{is_digit}
use Rattle.std.specs.Str.Parse.{digits_value}

-- the words of a line: what stands between its spaces, where that isn't empty
abbrev pub words_of : List ℕ → List (List ℕ)
words_of line = filter (λ word. nat_lt 0 (length word)) (slice_split (λ byte. byte == 32) line)

-- one decimal digit or more, of a number below 2^64
abbrev pub is_number : List ℕ → Bool
is_number word =
    nat_lt 0 (length word) && list_all (λ byte. is_digit byte 10) word
    && nat_lt (digits_value 10 word) (2 ^ 64)

-- one character or more, each `0` or `1`
abbrev pub is_bit_text : List ℕ → Bool
is_bit_text word = nat_lt 0 (length word) && list_all (λ byte. (byte == 48) || (byte == 49)) word

-- the bits that the characters write
abbrev pub bits_written : List ℕ → List Bool
bits_written word = map (λ byte. byte == 49) word
