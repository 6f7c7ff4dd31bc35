use Rattle.std.proofs.Common.{◌≡◌, length}
use Rattle.text_grammar.specs.Script.{words_of}
use Rattle.text_grammar.proofs.words.WordsIterator.next.Given as goal

-- what was passed over has no word
abbrev pub invariant-pieces : goal.invariant-pieces
invariant-pieces l = words_of l.self-inside.rest.now ≡ words_of l.initial.self-inside.rest.now

abbrev pub decreases-pieces : goal.decreases-pieces
decreases-pieces l = length l.self-inside.rest.now
