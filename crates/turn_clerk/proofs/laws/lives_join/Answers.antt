use Rattle.std.proofs.Common.{take}
use Rattle.journal_recovery.specs.State.{state_after}
use Rattle.turn_clerk.proofs.laws.lives_join.Goals as goal

pub returns : goal.returns
returns c image opened found batches least prefix recovers =
    c.one_recovery.ensures.state image found (state_after opened (take prefix.count batches))
    recovers prefix.recovers
