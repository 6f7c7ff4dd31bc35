-- What a ledger holds.
use Rattle.std.specs.Prelude.{◌≡◌, ℕ, ◌-◌, ◌+◌, ◌≤◌, Bool, true, false, ◌&&◌, nat_le, List, length}
use Rattle.std.specs.Prelude.{sum, replicate, slice_index, slice_index_or, slice_set}
use Rattle.turn_ledger.specs.declared.limits.TheConstants.{ACCOUNTS, TOTAL_LIMIT}

-- the balance of each account, account 1 first, and the mark of each: whether it is sealed
pub record LedgerState : Type 0 where
  pub balances : List ℕ
  pub sealed : List Bool

-- the state with these balances and these marks
abbrev pub state_of : List ℕ → List Bool → LedgerState
state_of balances sealed = record { balances = balances; sealed = sealed }

-- accounts are numbered from 1
abbrev pub IsAccount : ℕ → Type 0
IsAccount account = (1 ≤ account) × (account ≤ ACCOUNTS)

abbrev pub is_account : ℕ → Bool
is_account account = nat_le 1 account && nat_le account ACCOUNTS

-- what an account holds
abbrev pub balance_of : LedgerState → ℕ → ℕ
balance_of state account = slice_index state.balances (account - 1)

-- an account's mark
abbrev pub mark_of : LedgerState → ℕ → Bool
mark_of state account = slice_index_or state.sealed (account - 1) false

-- what all accounts hold together
abbrev pub total_of : LedgerState → ℕ
total_of state = sum state.balances

-- a state of a ledger: it has all accounts and a mark for each, and they hold no more than the
-- limit together
pub record IsLedger (state : LedgerState) : Type 0 where
  pub accounts : length state.balances ≡ ACCOUNTS
  pub marks : length state.sealed ≡ ACCOUNTS
  pub within_limit : total_of state ≤ TOTAL_LIMIT

-- every account at zero, and none of them sealed
unfoldable pub empty_ledger : LedgerState
empty_ledger = state_of (replicate ACCOUNTS 0) (replicate ACCOUNTS false)

-- the state with another balance of one account
abbrev pub with_balance : LedgerState → ℕ → ℕ → LedgerState
with_balance state account balance =
    record state { balances = slice_set state.balances (account - 1) balance }

-- the state with that account sealed
abbrev pub sealed_at : LedgerState → ℕ → LedgerState
sealed_at state account = record state { sealed = slice_set state.sealed (account - 1) true }

-- an amount added to what an account holds
abbrev pub credited : LedgerState → ℕ → ℕ → LedgerState
credited state account amount = with_balance state account (balance_of state account + amount)

-- an amount taken from what an account holds
abbrev pub debited : LedgerState → ℕ → ℕ → LedgerState
debited state account amount = with_balance state account (balance_of state account - amount)
