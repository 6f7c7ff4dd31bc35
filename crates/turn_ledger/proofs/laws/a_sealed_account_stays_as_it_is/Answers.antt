-- What posting in turn leaves, of the ledger after the batches.
use Rattle.turn_ledger.specs.LedgerLaws.{kept_by-ledger_after}
use Rattle.turn_ledger.proofs.laws.a_sealed_account_stays_as_it_is.Goals as goal

pub returns : goal.returns
returns c = kept_by-ledger_after
