use Rattle.std.proofs.Common.{◌≤◌, vec_len}
use Rattle.std.specs.Io.KnownBytes.{Consumes}
use Rattle.text_streams.proofs.reading.read_within.Given as goal

-- the script has what was taken of the reader
abbrev pub invariant-loop : goal.invariant-loop
invariant-loop g l = record {
  limit : vec_len l.script ≤ 16777216;
  taken : Consumes (g.R.Read.remaining l.initial.reader) (g.R.Read.remaining l.reader)
      l.script.items;
}
