-- The sums of each account, and the invariant of a ledger.
use Rattle.turn_ledger.specs.LedgerLaws.{posted_in_order-is-ledger_after, IsLedger-ledger_after}
use Rattle.turn_ledger.proofs.laws.posting_gives_the_sums.Goals as goal

pub returns : goal.returns
returns c = λ state batches l a.
    (posted_in_order-is-ledger_after state batches l a, IsLedger-ledger_after state batches l a)
