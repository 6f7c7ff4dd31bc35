use Rattle.std.proofs.Common.{arith}
use Rattle.four_state.proofs.Packing.{packed_more}
use Rattle.four_state.proofs.bits.packed.Goals as goal

pub loop-i-preserved : goal.loop-i-preserved
loop-i-preserved c =
    let test = c.loop-i-test.true in
    rw c.loop-i.invariant (packed_more c.args.bits.now c.loop-i.i (omega arith) c.requires)
