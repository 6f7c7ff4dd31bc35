-- What a value was at some moments, as a list.
use Rattle.std.specs.Prelude.{List, [], ◌∷◌, ◌++◌}
use Rattle.turn_clerk.specs.declared.past.Past.{Past, Nothing, Then'}

abbrev pub values_of : {T : Type 0} → Past T → List T
values_of Nothing = []
values_of (Then' shape before value) = values_of before ++ value.value ∷ []
