use Rattle.sweep_auditor.proofs.Sweep.{sweeps}
use Rattle.sweep_auditor.proofs.laws.sweeps_from_legitimate.Goals as goal

pub returns : goal.returns
returns c = sweeps
