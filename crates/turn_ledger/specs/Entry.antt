-- The verdict of an entry on a state, and the state after it.
use Rattle.std.specs.Prelude.{ℕ, ◌+◌, Bool, false, ◌==◌, not, nat_lt, if◌then◌else◌, List, [], ◌∷◌}
use Rattle.std.specs.Prelude.{◌++◌, Result, Ok, Err}
use Rattle.std.specs.List.{list_all, list_any}
use Rattle.turn_ledger.specs.declared.limits.TheConstants.{TOTAL_LIMIT}
use Rattle.turn_ledger.specs.declared.entry.Entry.{Entry}
use Rattle.turn_ledger.specs.declared.entry.Entry.TheVariants.{Deposit, Withdraw, Transfer, Seal}
use Rattle.turn_ledger.specs.declared.refusal.EntryRefusal.{EntryRefusal}
use Rattle.turn_ledger.specs.declared.refusal.EntryRefusal.TheVariants.{ZeroAmount, NoAccount}
use Rattle.turn_ledger.specs.declared.refusal.EntryRefusal.TheVariants.{SameAccount, Short}
use Rattle.turn_ledger.specs.declared.refusal.EntryRefusal.TheVariants.{OverLimit, Sealed}
use Rattle.turn_ledger.specs.State.{LedgerState, balance_of, total_of, is_account, mark_of}
use Rattle.turn_ledger.specs.State.{sealed_at, credited, debited}

-- a yes, or the refusal
abbrev pub Verdict : Type 0
Verdict = Result (Unit {0}) EntryRefusal

-- the number that the caller gave the entry
abbrev pub reference_of : Entry → ℕ
reference_of (Deposit to amount reference) = reference
reference_of (Withdraw from amount reference) = reference
reference_of (Transfer from to amount reference) = reference
reference_of (Seal account reference) = reference

-- it moves nothing; a seal has no amount
abbrev pub is_zero_amount : Entry → Bool
is_zero_amount (Deposit to amount reference) = amount == 0
is_zero_amount (Withdraw from amount reference) = amount == 0
is_zero_amount (Transfer from to amount reference) = amount == 0
is_zero_amount (Seal account reference) = false

-- the accounts that an entry names
abbrev pub accounts_of : Entry → List ℕ
accounts_of (Deposit to amount reference) = to ∷ []
accounts_of (Withdraw from amount reference) = from ∷ []
accounts_of (Transfer from to amount reference) = from ∷ to ∷ []
accounts_of (Seal account reference) = account ∷ []

-- a transfer from an account to itself
abbrev pub is_to_itself : Entry → Bool
is_to_itself (Deposit to amount reference) = false
is_to_itself (Withdraw from amount reference) = false
is_to_itself (Transfer from to amount reference) = from == to
is_to_itself (Seal account reference) = false

-- it takes more than its source holds
abbrev pub is_short : LedgerState → Entry → Bool
is_short state (Deposit to amount reference) = false
is_short state (Withdraw from amount reference) = nat_lt (balance_of state from) amount
is_short state (Transfer from to amount reference) = nat_lt (balance_of state from) amount
is_short state (Seal account reference) = false

-- it brings in so much that the total passes the limit
abbrev pub is_over_limit : LedgerState → Entry → Bool
is_over_limit state (Deposit to amount reference) = nat_lt TOTAL_LIMIT (total_of state + amount)
is_over_limit state (Withdraw from amount reference) = false
is_over_limit state (Transfer from to amount reference) = false
is_over_limit state (Seal account reference) = false

-- it names a sealed account
abbrev pub is_of_sealed : LedgerState → Entry → Bool
is_of_sealed state entry = list_any (mark_of state) (accounts_of entry)

-- the checks of an entry that don't look at the state, in their order: where one holds, its refusal
abbrev pub own_checks : Entry → List (Bool × EntryRefusal)
own_checks entry =
    (is_zero_amount entry, ZeroAmount)
    ∷ (not (list_all is_account (accounts_of entry)), NoAccount)
    ∷ (is_to_itself entry, SameAccount)
    ∷ []

-- those that look at the state, after the others
abbrev pub state_checks : LedgerState → Entry → List (Bool × EntryRefusal)
state_checks state entry =
    (is_short state entry, Short) ∷ (is_over_limit state entry, OverLimit)
    ∷ (is_of_sealed state entry, Sealed) ∷ []

-- the first refusal whose check holds, or a yes
abbrev pub first_refusal : List (Bool × EntryRefusal) → Verdict
first_refusal [] = Ok tt
first_refusal (check ∷ checks) = if check.0 then Err check.1 else first_refusal checks

-- the verdict of an entry on a state
unfoldable pub verdict : LedgerState → Entry → Verdict
verdict state entry = first_refusal (own_checks entry ++ state_checks state entry)

-- the state after an accepted entry: its amount added and taken away
unfoldable pub posted : LedgerState → Entry → LedgerState
posted state (Deposit to amount reference) = credited state to amount
posted state (Withdraw from amount reference) = debited state from amount
posted state (Transfer from to amount reference) = credited (debited state from amount) to amount
posted state (Seal account reference) = sealed_at state account
