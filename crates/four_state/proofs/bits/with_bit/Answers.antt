use Rattle.four_state.proofs.Changes.{bit_set, bit_cleared}
use Rattle.four_state.proofs.bits.with_bit.Goals as goal

pub returns-then-bit : goal.returns-then-bit
returns-then-bit c = λ bits most l e. rw (c.if-bit.true, e) (bit_set bits c.args.place most l)

pub returns-else-bit : goal.returns-else-bit
returns-else-bit c = λ bits most l e. rw (c.if-bit.false, e) (bit_cleared bits c.args.place most l)
