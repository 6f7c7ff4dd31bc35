-- What a cutter of lines keeps, and what it answers where a line ends.
use Rattle.std.specs.Prelude.{◌≡◌, ℕ, false, Option, if◌then◌else◌, List, ◌==◌, All, length, nat_lt}
use Rattle.std.specs.Prelude.{take}
use Rattle.text_grammar.specs.declared.cutting.Cut.{Cut}
use Rattle.text_grammar.specs.declared.cutting.Cut.TheVariants.{Line, TooLong}

-- the first 258 bytes since the last line feed, and the line that the last call ended, if it ended
-- one that isn't too long
pub record Cutting : Type 0 where
  pub since : List ℕ
  pub ended : Option (List ℕ)

-- these are all bytes since the last line feed: the cutter keeps the first 258 of them, and none is
-- a line feed
abbrev pub HasSeen : Cutting → List ℕ → Type 0
HasSeen cutting bytes = (cutting.since ≡ take 258 bytes) × All (λ byte. (byte == 10) ≡ false) bytes

-- what a line without its end is told as
abbrev pub cut_of : List ℕ → Cut
cut_of line = if nat_lt 256 (length line) then TooLong else Line
