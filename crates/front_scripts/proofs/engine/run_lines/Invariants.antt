-- No line so far was wrong, and as many were counted.
use Rattle.front_scripts.proofs.LineLemmas.{AreLeft}
use Rattle.front_scripts.proofs.engine.run_lines.Given as goal

abbrev pub invariant-loop-text : goal.invariant-loop-text
invariant-loop-text g l = record {
  can_next : (goal.iterator-loop-text g).can_next l.text-iterator;
  is_finite : (goal.iterator-loop-text g).is_finite l.text-iterator;
  left : AreLeft l.script l.line l.text-iterator;
}
