-- The accounts of a ledger one after another.
use Rattle.std.proofs.Common.{◌≡◌, ℕ, ◌+◌, ◌-◌, ◌≤◌, ◌∷◌, suc, ap, arith}
use Rattle.std.specs.Prelude.{map}
use Rattle.std.specs.List.{range_with_len}
use Rattle.turn_ledger.specs.State.{LedgerState, balance_of}
use Rattle.turn_ledger.specs.AccountList.{accounts_from}
use Rattle.turn_ledger.specs.declared.limits.TheConstants.{ACCOUNTS}

-- an account comes first, and those behind it next
pub first_account_first : (state : LedgerState) (first : ℕ) → first ≤ ACCOUNTS
    → accounts_from state first ≡ (first, balance_of state first) ∷ accounts_from state (first + 1)
first_account_first state first h =
    let one_more : ACCOUNTS + 1 - first ≡ suc (ACCOUNTS + 1 - (first + 1)) = omega (arith, h)
    in ap (λ (n : ℕ).
    map (λ (account : ℕ). (account, balance_of state account)) (range_with_len first n))
    one_more
