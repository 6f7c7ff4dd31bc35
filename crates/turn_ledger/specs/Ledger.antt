-- The ledger after a list of batches: for each account a sum, and whether it is sealed.
use Rattle.std.specs.Prelude.{ℕ, ◌+◌, ◌-◌, ◌==◌, ◌||◌, Bool, false, if◌then◌else◌, List, map}
use Rattle.std.specs.Prelude.{length, sum_by}
use Rattle.std.specs.List.{range_with_len, flat_map, list_any}
use Rattle.turn_ledger.specs.declared.entry.Entry.{Entry}
use Rattle.turn_ledger.specs.declared.entry.Entry.TheVariants.{Deposit, Withdraw, Transfer, Seal}
use Rattle.turn_ledger.specs.State.{LedgerState, balance_of, mark_of}

-- what an entry brings to an account
abbrev pub into : ℕ → Entry → ℕ
into account (Deposit to amount reference) = if to == account then amount else 0
into account (Withdraw from amount reference) = 0
into account (Transfer from to amount reference) = if to == account then amount else 0
into account (Seal sealed reference) = 0

-- what an entry takes from an account
abbrev pub out_of : ℕ → Entry → ℕ
out_of account (Deposit to amount reference) = 0
out_of account (Withdraw from amount reference) = if from == account then amount else 0
out_of account (Transfer from to amount reference) = if from == account then amount else 0
out_of account (Seal sealed reference) = 0

-- it seals the account
abbrev pub seals : ℕ → Entry → Bool
seals account (Deposit to amount reference) = false
seals account (Withdraw from amount reference) = false
seals account (Transfer from to amount reference) = false
seals account (Seal sealed reference) = sealed == account

-- an account is sealed where it was, or where an entry seals it
abbrev pub sealed_after : LedgerState → List Entry → ℕ → Bool
sealed_after state entries account = mark_of state account || list_any (seals account) entries

-- the entries of the batches, in order
abbrev pub entries_of : List (List Entry) → List Entry
entries_of batches = flat_map (λ batch. batch) batches

-- what an account held, and the amounts of all entries into it, less those of all entries out of it
abbrev pub balance_after : LedgerState → List Entry → ℕ → ℕ
balance_after state entries account =
    balance_of state account + sum_by (into account) entries - sum_by (out_of account) entries

-- the ledger after batches: each account has that balance and that mark
unfoldable pub ledger_after : LedgerState → List (List Entry) → LedgerState
ledger_after state batches = record {
  balances = map (balance_after state (entries_of batches))
      (range_with_len 1 (length state.balances));
  sealed = map (sealed_after state (entries_of batches)) (range_with_len 1 (length state.sealed));
}
