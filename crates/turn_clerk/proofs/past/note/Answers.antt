use Rattle.std.proofs.Common.{◌∷◌, ◌++◌, []}
use Rattle.turn_clerk.specs.Past.{values_of}
use Rattle.turn_clerk.proofs.past.note.Goals as goal

pub returns : goal.returns
returns g c = record { noted = λ i. values_of (c.of.ensures i) ++ c.of-2.ensures i ∷ [] }
