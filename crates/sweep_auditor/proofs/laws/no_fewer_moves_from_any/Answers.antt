use Rattle.sweep_auditor.proofs.LongStart.{no_fewer_moves_from_any}
use Rattle.sweep_auditor.proofs.laws.no_fewer_moves_from_any.Goals as goal

pub returns : goal.returns
returns c = no_fewer_moves_from_any
