-- What a change of one balance does to the balances and to their total.
use Rattle.std.specs.Prelude.{◌≡◌, ◌≢◌, ℕ, ◌+◌, ◌-◌, ◌≤◌, Bool, false, List, length, replicate}
use Rattle.std.proofs.Common.{◌∙◌, arith}
use Rattle.std.proofs.lemmas.List.{length-set, length-replicate, get_or-set_same, get_or-set_other}
use Rattle.std.proofs.lemmas.List.{get_or-replicate}
use Rattle.std.proofs.lemmas.List.Folds.{sum_by-replicate}
use Rattle.std.proofs.lemmas.List.Sums.{sum_by-set, get_or-le-sum_by}
use Rattle.turn_ledger.specs.declared.limits.TheConstants.{ACCOUNTS, TOTAL_LIMIT}
use Rattle.turn_ledger.specs.State.{LedgerState, IsAccount, balance_of, total_of, IsLedger}
use Rattle.turn_ledger.specs.State.{state_of, empty_ledger, with_balance, credited, debited}

-- states with the same balances and the same marks are the same
pub same_state : (first second : LedgerState) → first.balances ≡ second.balances
    → first.sealed ≡ second.sealed → first ≡ second
same_state first second balances sealed i = state_of (balances i) (sealed i)

pub length-with_balance : (state : LedgerState) (account balance : ℕ)
    → length (with_balance state account balance).balances ≡ length state.balances
length-with_balance state account balance = length-set state.balances (account - 1) balance

pub balance_of-with_balance_same : (state : LedgerState) (account balance : ℕ)
    → length state.balances ≡ ACCOUNTS → IsAccount account
    → balance_of (with_balance state account balance) account ≡ balance
balance_of-with_balance_same state account balance size h =
    get_or-set_same state.balances (account - 1) balance 0 (omega (arith, size, h.0, h.1))

pub balance_of-with_balance_other : (state : LedgerState) (account other balance : ℕ)
    → IsAccount account → IsAccount other → other ≢ account
    → balance_of (with_balance state account balance) other ≡ balance_of state other
balance_of-with_balance_other state account other balance h k ne =
    let apart : other - 1 ≢ account - 1 = λ same. ne (omega (arith, same, h.0, k.0)) in
    get_or-set_other state.balances (account - 1) (other - 1) balance 0 apart

-- no account holds more than all together
pub balance_of-le-total_of : (state : LedgerState) (account : ℕ) → length state.balances ≡ ACCOUNTS
    → IsAccount account → balance_of state account ≤ total_of state
balance_of-le-total_of state account size h =
    get_or-le-sum_by (λ (n : ℕ). n) state.balances (account - 1) 0 (omega (arith, size, h.0, h.1))

pub total_of-with_balance : (state : LedgerState) (account balance : ℕ)
    → length state.balances ≡ ACCOUNTS → IsAccount account
    → total_of (with_balance state account balance) + balance_of state account
    ≡ total_of state + balance
total_of-with_balance state account balance size h =
    sum_by-set (λ (n : ℕ). n) state.balances (account - 1) balance 0 (omega (arith, size, h.0, h.1))

pub total_of-credited : (state : LedgerState) (account amount : ℕ)
    → length state.balances ≡ ACCOUNTS → IsAccount account
    → total_of (credited state account amount) ≡ total_of state + amount
total_of-credited state account amount size h =
    omega (arith, total_of-with_balance state account (balance_of state account + amount) size h)

pub total_of-debited : (state : LedgerState) (account amount : ℕ) → length state.balances ≡ ACCOUNTS
    → IsAccount account → amount ≤ balance_of state account
    → total_of (debited state account amount) + amount ≡ total_of state
total_of-debited state account amount size h enough =
    omega (
      arith,
      enough,
      total_of-with_balance state account (balance_of state account - amount) size h,
    )

pub IsLedger-credited : (state : LedgerState) (account amount : ℕ) → IsLedger state
    → IsAccount account → total_of state + amount ≤ TOTAL_LIMIT
    → IsLedger (credited state account amount)
IsLedger-credited state account amount l h within = record {
  accounts = length-with_balance state account _ ∙ l.accounts;
  marks = l.marks;
  within_limit = omega (arith, within, total_of-credited state account amount l.accounts h);
}

pub IsLedger-debited : (state : LedgerState) (account amount : ℕ) → IsLedger state
    → IsAccount account → amount ≤ balance_of state account
    → IsLedger (debited state account amount)
IsLedger-debited state account amount l h enough = record {
  accounts = length-with_balance state account _ ∙ l.accounts;
  marks = l.marks;
  within_limit = omega
      (arith, l.within_limit, total_of-debited state account amount l.accounts h enough);
}

-- the empty ledger
pub length-empty_ledger : length empty_ledger.balances ≡ ACCOUNTS
unfolding empty_ledger
length-empty_ledger = length-replicate {A = ℕ} ACCOUNTS 0

pub length-sealed-empty_ledger : length empty_ledger.sealed ≡ ACCOUNTS
unfolding empty_ledger
length-sealed-empty_ledger = length-replicate ACCOUNTS false

pub balance_of-empty_ledger : (account : ℕ) → IsAccount account
    → balance_of empty_ledger account ≡ 0
unfolding empty_ledger
balance_of-empty_ledger account h =
    get_or-replicate ACCOUNTS (account - 1) 0 0 (omega (arith, h.0, h.1))

pub total_of-empty_ledger : total_of empty_ledger ≡ 0
unfolding empty_ledger
total_of-empty_ledger = sum_by-replicate (λ (n : ℕ). n) ACCOUNTS 0

pub IsLedger-empty_ledger : IsLedger empty_ledger
IsLedger-empty_ledger = record {
  accounts = length-empty_ledger;
  marks = length-sealed-empty_ledger;
  within_limit = omega (arith, total_of-empty_ledger);
}

-- balances that are all zero and marks that are all clear, one for each account
pub is_empty_ledger : (balances : List ℕ) (sealed : List Bool) → balances ≡ replicate ACCOUNTS 0
    → sealed ≡ replicate ACCOUNTS false → state_of balances sealed ≡ empty_ledger
unfolding empty_ledger
is_empty_ledger balances sealed zeros clear i = state_of (zeros i) (clear i)
