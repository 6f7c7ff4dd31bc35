-- What posting in turn keeps, of the ledger after the batches.
use Rattle.std.proofs.Common.{◌≡◌, ◌+◌, subst}
use Rattle.std.specs.Prelude.{sum_by}
use Rattle.turn_ledger.specs.State.{LedgerState, balance_of}
use Rattle.turn_ledger.specs.Ledger.{into, out_of, entries_of}
use Rattle.turn_ledger.specs.LedgerLaws.{posted_in_order-is-ledger_after}
use Rattle.turn_ledger.specs.LedgerLaws.{balance_of-posted_in_order}
use Rattle.turn_ledger.proofs.laws.nothing_is_lost_or_made.Goals as goal

pub returns : goal.returns
returns c = λ state batches account l a k.
    subst (λ (s : LedgerState). balance_of s account + sum_by (out_of account) (entries_of batches)
    ≡ balance_of state account + sum_by (into account) (entries_of batches))
    (posted_in_order-is-ledger_after state batches l a)
    (balance_of-posted_in_order state (entries_of batches) account l a k)
