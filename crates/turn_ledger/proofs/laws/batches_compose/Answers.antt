-- One after another.
use Rattle.turn_ledger.specs.LedgerLaws.{ledger_after-append}
use Rattle.turn_ledger.proofs.laws.batches_compose.Goals as goal

pub returns : goal.returns
returns c = ledger_after-append
