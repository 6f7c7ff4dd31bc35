-- The laws of the rules, as statements that public functions carry.
use Rattle.std.specs.Prelude.{◌≡◌, ℕ, ◌+◌, true, List, [], ◌∷◌, ◌++◌, sum_by, ◌↔◌, Ok}
use Rattle.turn_ledger.specs.declared.entry.Entry.{Entry}
use Rattle.turn_ledger.specs.Entry.{verdict}
use Rattle.turn_ledger.specs.EntryLaws.{Passes}
use Rattle.turn_ledger.specs.State.{LedgerState, IsAccount, IsLedger, balance_of, mark_of}
use Rattle.turn_ledger.specs.Screen.{screened, accepted, AreAccepted, posted_in_order}
use Rattle.turn_ledger.specs.Ledger.{into, out_of, entries_of, ledger_after}

-- Entries that are accepted, in order, posted one after another, leave the ledger after their
-- batches: each account has what it held and what came in, less what went out.
abbrev pub PostingGivesTheSums : Type 0
PostingGivesTheSums =
    (state : LedgerState) (batches : List (List Entry)) → IsLedger state
    → AreAccepted state (entries_of batches)
    → (posted_in_order state (entries_of batches) ≡ ledger_after state batches)
    × IsLedger (ledger_after state batches)

-- Nothing is taken that isn't there: what an account has in the end and all that went out of it are
-- what it held and all that came in.
abbrev pub NothingIsLostOrMade : Type 0
NothingIsLostOrMade =
    (state : LedgerState) (batches : List (List Entry)) (account : ℕ) → IsLedger state
    → AreAccepted state (entries_of batches) → IsAccount account
    → balance_of (ledger_after state batches) account + sum_by (out_of account) (entries_of batches)
    ≡ balance_of state account + sum_by (into account) (entries_of batches)

-- A sealed account keeps its balance and stays sealed, whatever is accepted.
abbrev pub ASealedAccountStaysAsItIs : Type 0
ASealedAccountStaysAsItIs =
    (state : LedgerState) (batches : List (List Entry)) (account : ℕ) → IsLedger state
    → AreAccepted state (entries_of batches) → IsAccount account
    → mark_of state account ≡ true
    → (balance_of (ledger_after state batches) account ≡ balance_of state account)
    × (mark_of (ledger_after state batches) account ≡ true)

-- The ledger after more batches is that after the later ones, from that after the earlier ones.
abbrev pub BatchesCompose : Type 0
BatchesCompose =
    (state : LedgerState) (first second : List (List Entry)) → IsLedger state
    → AreAccepted state (entries_of (first ++ second))
    → ledger_after state (first ++ second) ≡ ledger_after (ledger_after state first) second

-- The accepted entries of a list are accepted again, in order, and posting them one after another
-- leaves the ledger after them as one batch.
abbrev pub AcceptedEntriesArePosted : Type 0
AcceptedEntriesArePosted =
    (state : LedgerState) (entries : List Entry) → IsLedger state
    → AreAccepted state (accepted state entries)
    × (posted_in_order state (accepted state entries)
    ≡ ledger_after state (accepted state entries ∷ []))

-- Later entries of a list are judged on the state that the accepted ones before them leave.
abbrev pub LaterEntriesSeeTheAccepted : Type 0
LaterEntriesSeeTheAccepted =
    (state : LedgerState) (first second : List Entry)
    → screened state (first ++ second)
    ≡ screened state first ++ screened (posted_in_order state (accepted state first)) second

-- An entry is accepted exactly where it keeps all rules.
abbrev pub AYesMeansAllRules : Type 0
AYesMeansAllRules =
    (state : LedgerState) (entry : Entry) → (verdict state entry ≡ Ok tt) ↔ Passes state entry
