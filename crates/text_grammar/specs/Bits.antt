-- What values of `Bits` and `KeptBits` show.
use Rattle.std.specs.Prelude.{List, Bool, take}
use Rattle.text_grammar.specs.Script.{bits_written}
use Rattle.text_grammar.specs.declared.numbers.Bits.{Bits}
use Rattle.text_grammar.specs.declared.numbers.KeptBits.{KeptBits}

-- the bits in order
abbrev pub bits_of : Bits → List Bool
bits_of b = bits_written b.word.now

abbrev pub kept_of : KeptBits → List Bool
kept_of b = take b.count b.places
