use Rattle.std.proofs.Common.{arith, length-set, Bool, ◌<◌}
use Rattle.text_grammar.proofs.BitLemmas.{one_more, all_kept, in_kept}
use Rattle.text_grammar.proofs.numbers.Bits.kept.Goals as goal

pub loop-place-preserved : goal.loop-place-preserved
loop-place-preserved c =
    let low : c.loop-place.place < 65 =
    in_kept c.args.self.now.word.now _ c.min.result c.min.ensures c.loop-place-test.true in
    record {
      size = omega (arith, length-set {A = Bool});
      so_far = one_more _ _ c.loop-place.place (omega arith) c.loop-place-test.true
          c.loop-place.invariant.so_far;
    }

pub returns : goal.returns
returns c = all_kept _ _ c.loop-place.place c.min.result c.min.ensures (omega arith)
    c.loop-place.invariant.so_far
