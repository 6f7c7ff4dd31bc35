use Rattle.sweep_auditor.proofs.Bound.{stabilizes_in_cube}
use Rattle.sweep_auditor.proofs.laws.stabilizes_in_cube.Goals as goal

pub returns : goal.returns
returns c = stabilizes_in_cube
