use Rattle.sweep_auditor.proofs.Bound.{stabilizes_from_any}
use Rattle.sweep_auditor.proofs.laws.stabilizes_from_any.Goals as goal

pub returns : goal.returns
returns c = stabilizes_from_any
