use Rattle.std.specs.Prelude.{◌≡◌, take}
use Rattle.turn_ledger.specs.State.{LedgerState, IsLedger, IsAccount, balance_of}
use Rattle.turn_ledger.specs.Screen.{AreAccepted, posted_in_order}
use Rattle.line_lock.proofs.told.after_entries.Given as goal

-- what the account holds after the entries so far
abbrev pub invariant-loop-entry : goal.invariant-loop-entry
invariant-loop-entry l =
    (state : LedgerState) → IsLedger state → AreAccepted state l.entries → IsAccount l.account
    → l.before ≡ balance_of state l.account
    → l.balance ≡ balance_of (posted_in_order state (take l.entry-index l.entries)) l.account
