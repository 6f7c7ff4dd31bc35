-- Marks are only ever set, and a sealed account stays as it is.
use Rattle.std.specs.Prelude.{◌≡◌, ◌≢◌, ℕ, ◌-◌, ◌==◌, ◌||◌, Bool, true, false, List, [], ◌∷◌}
use Rattle.std.specs.Prelude.{length, Ok, refl}
use Rattle.std.specs.List.{list_any}
use Rattle.std.proofs.Common.{◌∙◌, ap, sym, subst, arith, ⊎_elim}
use Rattle.std.proofs.Math.Bool.{or-false, or-true, or_assoc}
use Rattle.std.proofs.lemmas.Bool.{cases_eq, eq-eqb, ne_eqb}
use Rattle.std.proofs.lemmas.List.{length-set, get_or-set_same, get_or-set_other}
use Rattle.turn_ledger.specs.declared.limits.TheConstants.{ACCOUNTS}
use Rattle.turn_ledger.specs.declared.entry.Entry.{Entry}
use Rattle.turn_ledger.specs.declared.entry.Entry.TheVariants.{Deposit, Withdraw, Transfer, Seal}
use Rattle.turn_ledger.specs.State.{LedgerState, IsAccount, balance_of, mark_of, sealed_at}
use Rattle.turn_ledger.specs.State.{IsLedger, debited}
use Rattle.turn_ledger.specs.StateLaws.{balance_of-with_balance_other}
use Rattle.turn_ledger.specs.Entry.{verdict, posted}
use Rattle.turn_ledger.specs.EntryLaws.{passes-from_yes, IsLedger-posted}
use Rattle.turn_ledger.specs.Screen.{AreAccepted, posted_in_order}
use Rattle.turn_ledger.specs.Ledger.{seals, sealed_after}

-- each account has a mark after an entry
length-sealed-posted : (state : LedgerState) (entry : Entry)
    → length (posted state entry).sealed ≡ length state.sealed
unfolding posted
length-sealed-posted state (Deposit to amount reference) = refl
length-sealed-posted state (Withdraw from amount reference) = refl
length-sealed-posted state (Transfer from to amount reference) = refl
length-sealed-posted state (Seal account reference) = length-set state.sealed (account - 1) true

pub length-sealed-posted_in_order : (state : LedgerState) (entries : List Entry)
    → length (posted_in_order state entries).sealed ≡ length state.sealed
length-sealed-posted_in_order state [] = refl
length-sealed-posted_in_order state (entry ∷ entries) =
    length-sealed-posted_in_order (posted state entry) entries ∙ length-sealed-posted state entry

-- an account is sealed after a posted entry where it was, or where the entry seals it
mark_of-sealed_at : (state : LedgerState) (sealed account : ℕ) → length state.sealed ≡ ACCOUNTS
    → IsAccount sealed → IsAccount account
    → mark_of (sealed_at state sealed) account ≡ (mark_of state account || (sealed == account))
mark_of-sealed_at state sealed account size h k =
    ⊎_elim
    (λ (same : sealed ≡ account).
    subst (λ (n : ℕ). mark_of (sealed_at state sealed) n ≡ (mark_of state n || (sealed == n))) same
    (get_or-set_same state.sealed (sealed - 1) true false (omega (arith, size, h.0, h.1))
    ∙ sym (or-true (mark_of state sealed))
    ∙ ap (λ (b : Bool). mark_of state sealed || b) (sym (eq-eqb sealed sealed refl))))
    (λ (apart : sealed ≢ account).
    get_or-set_other state.sealed (sealed - 1) (account - 1) true false
    (λ e. apart (omega (arith, e, h.0, k.0)))
    ∙ sym (or-false (mark_of state account))
    ∙ ap (λ (b : Bool). mark_of state account || b) (sym (ne_eqb sealed account apart)))
    (cases_eq sealed account)

mark_of-posted : (state : LedgerState) (entry : Entry) (account : ℕ) → IsLedger state
    → verdict state entry ≡ Ok tt → IsAccount account
    → mark_of (posted state entry) account ≡ (mark_of state account || seals account entry)
unfolding posted
mark_of-posted state (Deposit to amount reference) account l ok k =
    sym (or-false (mark_of state account))
mark_of-posted state (Withdraw from amount reference) account l ok k =
    sym (or-false (mark_of state account))
mark_of-posted state (Transfer from to amount reference) account l ok k =
    sym (or-false (mark_of state account))
mark_of-posted state (Seal sealed reference) account l ok k =
    mark_of-sealed_at state sealed account l.marks
    (passes-from_yes state (Seal sealed reference) ok).0 k

pub mark_of-posted_in_order : (state : LedgerState) (entries : List Entry) (account : ℕ)
    → IsLedger state → AreAccepted state entries → IsAccount account
    → mark_of (posted_in_order state entries) account ≡ sealed_after state entries account
mark_of-posted_in_order state [] account l a k = sym (or-false (mark_of state account))
mark_of-posted_in_order state (entry ∷ entries) account l a k =
    mark_of-posted_in_order (posted state entry) entries account (IsLedger-posted state entry l a.0)
    a.1 k
    ∙ ap (λ (b : Bool). b || list_any (seals account) entries)
    (mark_of-posted state entry account l a.0 k)
    ∙ or_assoc (mark_of state account) (seals account entry) (list_any (seals account) entries)

-- an account that isn't sealed is another than a sealed one
other_than_sealed : (state : LedgerState) (account other : ℕ) → mark_of state account ≡ true
    → mark_of state other ≡ false → account ≢ other
other_than_sealed state account other marked clear same =
    absurd (cc (ap (mark_of state) same, marked, clear))

-- an entry with a yes leaves what a sealed account holds
kept_by-posted : (state : LedgerState) (entry : Entry) (account : ℕ) → verdict state entry ≡ Ok tt
    → IsAccount account → mark_of state account ≡ true
    → balance_of (posted state entry) account ≡ balance_of state account
unfolding posted
kept_by-posted state (Deposit to amount reference) account ok k marked =
    let p = passes-from_yes state (Deposit to amount reference) ok in
    balance_of-with_balance_other state to account _ p.1 k
    (other_than_sealed state account to marked p.3)
kept_by-posted state (Withdraw from amount reference) account ok k marked =
    let p = passes-from_yes state (Withdraw from amount reference) ok in
    balance_of-with_balance_other state from account _ p.1 k
    (other_than_sealed state account from marked p.3)
kept_by-posted state (Transfer from to amount reference) account ok k marked =
    let p = passes-from_yes state (Transfer from to amount reference) ok in
    balance_of-with_balance_other (debited state from amount) to account _ p.2 k
    (other_than_sealed state account to marked p.6)
    ∙ balance_of-with_balance_other state from account _ p.1 k
    (other_than_sealed state account from marked p.5)
kept_by-posted state (Seal sealed reference) account ok k marked = refl

pub kept_by-posted_in_order : (state : LedgerState) (entries : List Entry) (account : ℕ)
    → IsLedger state → AreAccepted state entries → IsAccount account
    → mark_of state account ≡ true
    → (balance_of (posted_in_order state entries) account ≡ balance_of state account)
    × (mark_of (posted_in_order state entries) account ≡ true)
kept_by-posted_in_order state [] account l a k marked = (refl, marked)
kept_by-posted_in_order state (entry ∷ entries) account l a k marked =
    let still : mark_of (posted state entry) account ≡ true =
    mark_of-posted state entry account l a.0 k
    ∙ ap (λ (b : Bool). b || seals account entry) marked in
    let rest = kept_by-posted_in_order (posted state entry) entries account
    (IsLedger-posted state entry l a.0) a.1 k still in
    (rest.0 ∙ kept_by-posted state entry account a.0 k marked, rest.1)
