use Rattle.std.proofs.lemmas.Str.{IsUtf8-from_ascii}
use Rattle.std.proofs.lemmas.Fmt.{IsAscii-from_digits}
use Rattle.text_grammar.proofs.numbers.read_number.Goals as goal

-- digits are text
pub returns-in-Err : goal.returns-in-Err
returns-in-Err c =
    λ number. c.in-Err.ensures.cases.0 (IsUtf8-from_ascii _ (IsAscii-from_digits _ number.0.1))
