use Rattle.std.specs.Io.KnownBytes.{Keeps}
use Rattle.text_streams.proofs.output.write_some.Given as goal

-- an interrupted call wrote nothing
abbrev pub invariant-loop : goal.invariant-loop
invariant-loop g l = Keeps (g.W.Write.contents l.initial.writer) (g.W.Write.contents l.writer)
