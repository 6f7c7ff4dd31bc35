use Rattle.std.specs.Prelude.{◌≡◌}
use Rattle.sweep_auditor.specs.Run.{configuration_at}
use Rattle.line_lock.proofs.closing.line_at.Given as goal

-- the line after the moves so far
abbrev pub invariant-loop-step : goal.invariant-loop-step
invariant-loop-step g l = l.line ≡ configuration_at l.clerk.opening.line l.step-items l.step-index
