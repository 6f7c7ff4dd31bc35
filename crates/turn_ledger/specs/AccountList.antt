-- The accounts of a ledger as a list.
use Rattle.std.specs.Prelude.{ℕ, ◌+◌, ◌-◌, List, map}
use Rattle.std.specs.List.{range_with_len}
use Rattle.turn_ledger.specs.State.{LedgerState, balance_of}
use Rattle.turn_ledger.specs.declared.limits.TheConstants.{ACCOUNTS}

-- all accounts, account 1 first, each with what it holds
abbrev pub accounts_of : LedgerState → List (ℕ × ℕ)
accounts_of state =
    map (λ (account : ℕ). (account, balance_of state account)) (range_with_len 1 ACCOUNTS)

-- those from this one on
abbrev pub accounts_from : LedgerState → ℕ → List (ℕ × ℕ)
accounts_from state first =
    map (λ (account : ℕ). (account, balance_of state account))
    (range_with_len first (ACCOUNTS + 1 - first))
