use Rattle.text_grammar.proofs.GrammarLemmas.{one_word}
use Rattle.text_grammar.proofs.places.next.Goals as goal

pub returns : goal.returns
returns g c = one_word _ _ _ _ _ c.read.result c.in_ok-word.ensures.ok c.read.ensures.ok
    c.read.ensures.err
