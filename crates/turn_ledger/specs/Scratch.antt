-- A state with some balances written over and some marks set, as the screening of a batch keeps it.
use Rattle.std.specs.Prelude.{◌≡◌, ℕ, Bool, true, List, fold, slice_set}
use Rattle.turn_ledger.specs.declared.scratch.Change.{Change}
use Rattle.turn_ledger.specs.State.{LedgerState, IsLedger, total_of, state_of}

-- the balances after the changes, in order
abbrev pub changed : List ℕ → List Change → List ℕ
changed balances changes =
    fold (λ (before : List ℕ) change. slice_set before change.place change.balance) balances changes

-- the marks with those at these places set
abbrev pub marked : List Bool → List ℕ → List Bool
marked sealed places =
    fold (λ (before : List Bool) place. slice_set before place true) sealed places

-- the state with the changes written over its balances, and the marks at these places set
abbrev pub changed_state : LedgerState → List Change → List ℕ → LedgerState
changed_state state changes places =
    state_of (changed state.balances changes) (marked state.sealed places)

-- the changed state is one of a ledger, and its total is kept
pub record IsKept (state : LedgerState) (total : ℕ) (changes : List Change)
    (places : List ℕ) : Type 0 where
  pub is_ledger : IsLedger (changed_state state changes places)
  pub total_is : total ≡ total_of (changed_state state changes places)
