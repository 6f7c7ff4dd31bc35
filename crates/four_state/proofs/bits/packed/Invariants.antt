use Rattle.std.proofs.Common.{◌≡◌, take}
use Rattle.four_state.specs.Words.{word_of}
use Rattle.four_state.proofs.bits.packed.Given as goal

-- the bits so far
abbrev pub invariant-loop-i : goal.invariant-loop-i
invariant-loop-i l = l.word ≡ word_of (take l.i l.bits)
