use Rattle.sweep_auditor.proofs.LongStart.{no_fewer_moves}
use Rattle.sweep_auditor.proofs.laws.no_fewer_moves.Goals as goal

pub returns : goal.returns
returns c = no_fewer_moves
