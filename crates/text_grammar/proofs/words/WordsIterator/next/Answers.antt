use Rattle.std.proofs.Common.{◌∙◌, ap, refl}
use Rattle.text_grammar.specs.Script.{words_of}
use Rattle.text_grammar.proofs.ScriptLemmas.{last_step, last_word}
use Rattle.text_grammar.proofs.words.WordsIterator.next.Goals as goal

pub returns-in-None-clause-steps : goal.returns-in-None-clause-steps
returns-in-None-clause-steps c =
    last_step _ _ _ _ (c.pieces.invariant ∙ c.self.view_is)
    (ap words_of c.last_piece.ensures.emptied)
    (last_word _ _ (c.in-None.ensures.none refl) c.last_piece.ensures.piece)
