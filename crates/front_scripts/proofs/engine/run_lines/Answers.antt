use Rattle.front_scripts.proofs.LineLemmas.{right_line, wrong_line}
use Rattle.front_scripts.proofs.engine.run_lines.Goals as goal

pub returns-in-Err-clause-line : goal.returns-in-Err-clause-line
returns-in-Err-clause-line g c = λ line cause same.
    wrong_line _ _ _ _ _ _ _
    (record {
      short = c.requires;
      are = c.loop-text.invariant.left;
      parts = c.in-Some.ensures.steps;
      next = c.saturating_add-line.ensures;
    })
    c.in-Err.ensures.fault

pub loop-text-preserved-in-Some-command : goal.loop-text-preserved-in-Some-command
loop-text-preserved-in-Some-command g c = record {
  can_next = tt;
  is_finite = tt;
  left = right_line _ _ _ _ _ _
      (record {
        short = c.requires;
        are = c.loop-text.invariant.left;
        parts = c.in-Some.ensures.steps;
        next = c.saturating_add-line.ensures;
      })
      c.in-Ok.ensures.sound;
}

pub loop-text-preserved : goal.loop-text-preserved
loop-text-preserved g c = record {
  can_next = tt;
  is_finite = tt;
  left = right_line _ _ _ _ _ _
      (record {
        short = c.requires;
        are = c.loop-text.invariant.left;
        parts = c.in-Some.ensures.steps;
        next = c.saturating_add-line.ensures;
      })
      c.in-Ok.ensures.sound;
}
