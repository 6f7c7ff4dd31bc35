use Rattle.std.proofs.Common.{sym}
use Rattle.text_grammar.proofs.TestLemmas.{bit_text}
use Rattle.text_grammar.proofs.numbers.Bits.read.Goals as goal

pub returns-clause-some : goal.returns-clause-some
returns-clause-some c =
    sym ((bit_text c.args.word.now).1 (c.has_bits_alone.ensures.0 c.if-not-has_bits_alone.false))
