use Rattle.std.proofs.Common.{arith, length-set, set, true, length}
use Rattle.four_state.proofs.Ends.{ends_line, says-ends}
use Rattle.four_state.proofs.Says.{shows, keeps}
use Rattle.four_state.proofs.lines.Line.of_bits.Goals as goal

pub invariant_of-result : goal.invariant_of-result
invariant_of-result c =
    let x = c.args.x.now in
    let up = c.args.up.now in
    let long = c.requires.as_long in
    let two = c.requires.two in
    let most = c.requires.at_most in
    let same = length-set up 0 true in
    let bottom = c.with_bit-bottom_set.ensures up (omega arith) (omega arith) c.packed.ensures in
    let ends = c.with_bit.ensures (set up 0 true) (omega arith) (omega arith) bottom in
    keeps (length x) _ _
    (says-ends x up c.packed-2.result c.with_bit.result long two most c.packed-2.ensures ends)

pub returns-clause-bits : goal.returns-clause-bits
returns-clause-bits c =
    let x = c.args.x.now in
    let up = c.args.up.now in
    let long = c.requires.as_long in
    let two = c.requires.two in
    let most = c.requires.at_most in
    let same = length-set up 0 true in
    let bottom = c.with_bit-bottom_set.ensures up (omega arith) (omega arith) c.packed.ensures in
    let ends = c.with_bit.ensures (set up 0 true) (omega arith) (omega arith) bottom in
    shows (length x) _ _
    (says-ends x up c.packed-2.result c.with_bit.result long two most c.packed-2.ensures ends)

pub returns-clause-line : goal.returns-clause-line
returns-clause-line c =
    rw (returns-clause-bits c)
    (ends_line c.args.x.now c.args.up.now c.requires.as_long c.requires.two c.requires.at_most)
