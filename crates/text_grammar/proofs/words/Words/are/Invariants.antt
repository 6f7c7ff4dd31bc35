use Rattle.std.proofs.Common.{◌≡◌, ◌+◌, length}
use Rattle.text_grammar.proofs.words.Words.are.Given as goal

-- so many words were taken
abbrev pub invariant-loop-taken : goal.invariant-loop-taken
invariant-loop-taken l = l._taken + length l.words ≡ length l.initial.words
