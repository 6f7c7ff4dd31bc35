use Rattle.sweep_auditor.proofs.Bound.{stabilizes}
use Rattle.sweep_auditor.proofs.laws.stabilizes.Goals as goal

pub returns : goal.returns
returns c = stabilizes
