use Rattle.std.proofs.Common.{refl}
use Rattle.text_grammar.specs.Grammar.{IsRead, line_fault}
use Rattle.text_grammar.proofs.commands.read_named.Goals as goal

pub returns-else-is-8 : goal.returns-else-is-8
unfolding IsRead line_fault
returns-else-is-8 c = rw (
  c.requires,
  c.if-is.ensures.no,
  c.if-is-2.ensures.no,
  c.if-is-3.ensures.no,
  c.if-is-4.ensures.no,
  c.if-is-5.ensures.no,
  c.if-is-6.ensures.no,
  c.if-is-7.ensures.no,
  c.if-is-8.ensures.no,
) refl
