use Rattle.std.proofs.Common.{◌<◌, ℕ, length, take, arith, rules}
use Rattle.std.proofs.lemmas.Bool.Decides.{nat_tests}
use Rattle.std.specs.Io.KnownBytes.{Appends}
use Rattle.text_streams.proofs.WriteLemmas.{more_written, part_written}
use Rattle.text_streams.proofs.output.write_all.Goals as goal

pub loop-rest-preserved : goal.loop-rest-preserved
loop-rest-preserved g c =
    more_written _ _ _ _ _ _ _ c.loop-rest.invariant c.in_ok-count.ensures.taken
    c.split_at.ensures.back

pub returns-in_err-count-clause-err : goal.returns-in_err-count-clause-err
returns-in_err-count-clause-err g c =
    let more : 0 < length c.loop-rest.rest.now = grind (arith, nat_tests) in
    let part : (n : ℕ) × (n < length c.args.bytes.now)
    × Appends (g.W.Write.contents c.args.writer.now) (g.W.Write.contents c.write_some.new.writer)
    (take n c.args.bytes.now) =
    part_written _ _ _ _ _ c.loop-rest.invariant more c.in_err-count.ensures.err in
    search (rules, part)
