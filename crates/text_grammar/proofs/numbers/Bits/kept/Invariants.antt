use Rattle.std.proofs.Common.{◌≡◌, ◌==◌, take, map, length}
use Rattle.text_grammar.proofs.numbers.Bits.kept.Given as goal

-- the places so far have the bits of the characters so far
abbrev pub invariant-loop-place : goal.invariant-loop-place
invariant-loop-place l = record {
  size : length l.places ≡ 65;
  so_far : take l.place l.places ≡ map (λ byte. byte == 49) (take l.place l.word);
}
