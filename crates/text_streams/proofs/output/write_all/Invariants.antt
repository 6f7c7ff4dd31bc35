use Rattle.std.proofs.Common.{◌≡◌, ℕ, List, ◌++◌, length}
use Rattle.std.specs.Io.KnownBytes.{Appends}
use Rattle.text_streams.proofs.output.write_all.Given as goal

-- the writer has what isn't left
abbrev pub invariant-loop-rest : goal.invariant-loop-rest
invariant-loop-rest g l =
    (written : List ℕ)
    × Appends (g.W.Write.contents l.initial.writer) (g.W.Write.contents l.writer) written
    × (l.bytes ≡ written ++ l.rest)

abbrev pub decreases-loop-rest : goal.decreases-loop-rest
decreases-loop-rest g l = length l.rest
