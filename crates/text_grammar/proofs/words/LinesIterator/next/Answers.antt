use Rattle.std.proofs.Common.{ap, refl}
use Rattle.std.specs.Str.Lines.{lines}
use Rattle.text_grammar.proofs.ScriptLemmas.{last_line, last_step}
use Rattle.text_grammar.proofs.words.LinesIterator.next.Goals as goal

pub returns-in-None-clause-steps : goal.returns-in-None-clause-steps
returns-in-None-clause-steps c =
    last_step _ _ _ _ c.self.view_is (ap lines c.last_piece.ensures.emptied)
    (last_line _ _ (c.in-None.ensures.none refl) c.last_piece.ensures.piece)
