-- Posting entries one after another gives each account's sum, and ledgers after batches compose.
use Rattle.std.specs.Prelude.{◌≡◌, ◌≢◌, ℕ, ◌+◌, ◌-◌, ◌≤◌, ◌<◌, ◌==◌, Bool, true, false}
use Rattle.std.specs.Prelude.{if◌then◌else◌, List, [], ◌∷◌, ◌++◌, map, length, sum_by, Ok, refl}
use Rattle.std.specs.List.{range_with_len}
use Rattle.std.proofs.Common.{◌∙◌, ap, sym, subst, arith, get_or, ⊎_elim, add-zero}
use Rattle.std.proofs.lemmas.Bool.{cases_eq, eq-eqb, ne_eqb}
use Rattle.std.proofs.lemmas.List.{same_lists, get_or_default, append-nil}
use Rattle.std.proofs.lemmas.List.Concat.{flat_map-append}
use Rattle.std.proofs.lemmas.List.FromFn.{length-map-range_with_len, get_or-map-range_with_len}
use Rattle.std.proofs.lemmas.List.Sums.{sum_by-cons}
use Rattle.turn_ledger.specs.declared.limits.TheConstants.{ACCOUNTS}
use Rattle.turn_ledger.specs.declared.entry.Entry.{Entry}
use Rattle.turn_ledger.specs.declared.entry.Entry.TheVariants.{Deposit, Withdraw, Transfer, Seal}
use Rattle.turn_ledger.specs.State.{LedgerState, IsAccount, balance_of, mark_of, IsLedger, credited}
use Rattle.turn_ledger.specs.State.{debited}
use Rattle.turn_ledger.specs.StateLaws.{same_state, length-with_balance}
use Rattle.turn_ledger.specs.StateLaws.{balance_of-with_balance_same, balance_of-with_balance_other}
use Rattle.turn_ledger.specs.Entry.{verdict, posted}
use Rattle.turn_ledger.specs.EntryLaws.{passes-from_yes, length-posted, IsLedger-posted}
use Rattle.turn_ledger.specs.MarkLaws.{length-sealed-posted_in_order, mark_of-posted_in_order}
use Rattle.turn_ledger.specs.MarkLaws.{kept_by-posted_in_order}
use Rattle.turn_ledger.specs.Screen.{AreAccepted, posted_in_order}
use Rattle.turn_ledger.specs.Ledger.{into, out_of, sealed_after, entries_of, balance_after}
use Rattle.turn_ledger.specs.Ledger.{ledger_after}

-- an amount where the accounts are one, and nothing where they aren't
if_same : (account other amount : ℕ) → account ≡ other
    → (if account == other then amount else 0) ≡ amount
if_same account other amount same = ap (λ b. if b then amount else 0) (eq-eqb account other same)

if_apart : (account other amount : ℕ) → account ≢ other
    → (if account == other then amount else 0) ≡ 0
if_apart account other amount apart = ap (λ b. if b then amount else 0) (ne_eqb account other apart)

pub balance_of-credited : (state : LedgerState) (to amount account : ℕ)
    → length state.balances ≡ ACCOUNTS → IsAccount to → IsAccount account
    → balance_of (credited state to amount) account
    ≡ balance_of state account + (if to == account then amount else 0)
balance_of-credited state to amount account size h k =
    ⊎_elim
    (λ (same : to ≡ account).
    subst (λ (n : ℕ). balance_of (credited state to amount) n
    ≡ balance_of state n + (if to == n then amount else 0)) same
    (balance_of-with_balance_same state to _ size h
    ∙ ap (λ (n : ℕ). balance_of state to + n) (sym (if_same to to amount refl))))
    (λ (apart : to ≢ account).
    balance_of-with_balance_other state to account _ h k (λ e. apart (sym e))
    ∙ omega (arith, if_apart to account amount apart))
    (cases_eq to account)

pub balance_of-debited : (state : LedgerState) (from amount account : ℕ)
    → length state.balances ≡ ACCOUNTS → IsAccount from → IsAccount account
    → amount ≤ balance_of state from
    → balance_of (debited state from amount) account + (if from == account then amount else 0)
    ≡ balance_of state account
balance_of-debited state from amount account size h k enough =
    ⊎_elim
    (λ (same : from ≡ account).
    subst (λ (n : ℕ). balance_of (debited state from amount) n + (if from == n then amount else 0)
    ≡ balance_of state n) same
    (omega (
      arith,
      balance_of-with_balance_same state from (balance_of state from - amount) size h,
      if_same from from amount refl,
    )))
    (λ (apart : from ≢ account).
    omega (
      arith,
      balance_of-with_balance_other state from account (balance_of state from - amount)
          h k (λ e. apart (sym e)),
      if_apart from account amount apart,
    ))
    (cases_eq from account)

-- an entry with a yes brings and takes what it says
pub balance_of-posted : (state : LedgerState) (entry : Entry) (account : ℕ) → IsLedger state
    → verdict state entry ≡ Ok tt → IsAccount account
    → balance_of (posted state entry) account + out_of account entry
    ≡ balance_of state account + into account entry
unfolding posted
balance_of-posted state (Deposit to amount reference) account l ok k =
    let p = passes-from_yes state (Deposit to amount reference) ok in
    add-zero _ ∙ balance_of-credited state to amount account l.accounts p.1 k
balance_of-posted state (Withdraw from amount reference) account l ok k =
    let p = passes-from_yes state (Withdraw from amount reference) ok in
    balance_of-debited state from amount account l.accounts p.1 k p.2 ∙ sym (add-zero _)
balance_of-posted state (Transfer from to amount reference) account l ok k =
    let p = passes-from_yes state (Transfer from to amount reference) ok in
    let size : length (debited state from amount).balances ≡ ACCOUNTS =
    length-with_balance state from _ ∙ l.accounts in
    omega (
      arith,
      balance_of-debited state from amount account l.accounts p.1 k p.4,
      balance_of-credited (debited state from amount) to amount account size p.2 k,
    )
balance_of-posted state (Seal sealed reference) account l ok k = refl

-- entries posted in turn
pub length-posted_in_order : (state : LedgerState) (entries : List Entry)
    → length (posted_in_order state entries).balances ≡ length state.balances
length-posted_in_order state [] = refl
length-posted_in_order state (entry ∷ entries) =
    length-posted_in_order (posted state entry) entries ∙ length-posted state entry

pub IsLedger-posted_in_order : (state : LedgerState) (entries : List Entry) → IsLedger state
    → AreAccepted state entries → IsLedger (posted_in_order state entries)
IsLedger-posted_in_order state [] l a = l
IsLedger-posted_in_order state (entry ∷ entries) l a =
    IsLedger-posted_in_order (posted state entry) entries (IsLedger-posted state entry l a.0) a.1

pub posted_in_order-append : (state : LedgerState) (first second : List Entry)
    → posted_in_order state (first ++ second) ≡ posted_in_order (posted_in_order state first) second
posted_in_order-append state [] second = refl
posted_in_order-append state (entry ∷ first) second =
    posted_in_order-append (posted state entry) first second

pub AreAccepted-append : (state : LedgerState) (first second : List Entry) → AreAccepted state first
    → AreAccepted (posted_in_order state first) second → AreAccepted state (first ++ second)
AreAccepted-append state [] second a b = b
AreAccepted-append state (entry ∷ first) second a b =
    (a.0, AreAccepted-append (posted state entry) first second a.1 b)

pub AreAccepted-front : (state : LedgerState) (first second : List Entry)
    → AreAccepted state (first ++ second) → AreAccepted state first
AreAccepted-front state [] second a = tt
AreAccepted-front state (entry ∷ first) second a =
    (a.0, AreAccepted-front (posted state entry) first second a.1)

pub AreAccepted-back : (state : LedgerState) (first second : List Entry)
    → AreAccepted state (first ++ second) → AreAccepted (posted_in_order state first) second
AreAccepted-back state [] second a = a
AreAccepted-back state (entry ∷ first) second a =
    AreAccepted-back (posted state entry) first second a.1

-- for each account, what came in and what went out
pub balance_of-posted_in_order : (state : LedgerState) (entries : List Entry) (account : ℕ)
    → IsLedger state → AreAccepted state entries → IsAccount account
    → balance_of (posted_in_order state entries) account + sum_by (out_of account) entries
    ≡ balance_of state account + sum_by (into account) entries
balance_of-posted_in_order state [] account l a k = refl
balance_of-posted_in_order state (entry ∷ entries) account l a k =
    omega (
      arith,
      sum_by-cons (out_of account) entry entries,
      sum_by-cons (into account) entry entries,
      balance_of-posted state entry account l a.0 k,
      balance_of-posted_in_order (posted state entry) entries account
          (IsLedger-posted state entry l a.0) a.1 k,
    )

-- the ledger after batches is the state after their entries were posted one after another
balances_agree : (state : LedgerState) (entries : List Entry) (k : ℕ) (d : ℕ) → IsLedger state
    → AreAccepted state entries → k < length (posted_in_order state entries).balances
    → get_or (posted_in_order state entries).balances k d
    ≡ get_or (map (balance_after state entries) (range_with_len 1 (length state.balances))) k d
balances_agree state entries k d l a h =
    let within : k < length state.balances =
    subst (λ (n : ℕ). k < n) (length-posted_in_order state entries) h in
    let account : IsAccount (k + 1) = (omega arith, omega (arith, l.accounts)) in
    let place : k + 1 - 1 ≡ k = omega arith in
    let sums = balance_of-posted_in_order state entries (k + 1) l a account in
    get_or_default (posted_in_order state entries).balances k d 0 h
    ∙ ap (λ (n : ℕ). get_or (posted_in_order state entries).balances n 0) (sym place)
    ∙ omega (arith, sums)
    ∙ sym (get_or-map-range_with_len (balance_after state entries) 1 (length state.balances) k
    (k + 1) d within (omega arith))

marks_agree : (state : LedgerState) (entries : List Entry) (k : ℕ) (d : Bool) → IsLedger state
    → AreAccepted state entries → k < length (posted_in_order state entries).sealed
    → get_or (posted_in_order state entries).sealed k d
    ≡ get_or (map (sealed_after state entries) (range_with_len 1 (length state.sealed))) k d
marks_agree state entries k d l a h =
    let within : k < length state.sealed =
    subst (λ (n : ℕ). k < n) (length-sealed-posted_in_order state entries) h in
    let account : IsAccount (k + 1) = (omega arith, omega (arith, l.marks)) in
    let place : k + 1 - 1 ≡ k = omega arith in
    get_or_default (posted_in_order state entries).sealed k d false h
    ∙ ap (λ (n : ℕ). get_or (posted_in_order state entries).sealed n false) (sym place)
    ∙ mark_of-posted_in_order state entries (k + 1) l a account
    ∙ sym (get_or-map-range_with_len (sealed_after state entries) 1 (length state.sealed) k (k + 1)
    d within (omega arith))

pub posted_in_order-is-ledger_after : (state : LedgerState) (batches : List (List Entry))
    → IsLedger state → AreAccepted state (entries_of batches)
    → posted_in_order state (entries_of batches) ≡ ledger_after state batches
unfolding ledger_after
posted_in_order-is-ledger_after state batches l a =
    same_state (posted_in_order state (entries_of batches)) _
    (same_lists _ _
    (length-posted_in_order state (entries_of batches)
    ∙ sym (length-map-range_with_len (balance_after state (entries_of batches)) 1
    (length state.balances)))
    (λ k d h. balances_agree state (entries_of batches) k d l a h))
    (same_lists _ _
    (length-sealed-posted_in_order state (entries_of batches)
    ∙ sym (length-map-range_with_len (sealed_after state (entries_of batches)) 1
    (length state.sealed)))
    (λ k d h. marks_agree state (entries_of batches) k d l a h))

-- a ledger after batches is a ledger
pub IsLedger-ledger_after : (state : LedgerState) (batches : List (List Entry)) → IsLedger state
    → AreAccepted state (entries_of batches) → IsLedger (ledger_after state batches)
IsLedger-ledger_after state batches l a =
    subst IsLedger (posted_in_order-is-ledger_after state batches l a)
    (IsLedger-posted_in_order state (entries_of batches) l a)

-- a sealed account keeps its balance, and stays sealed
pub kept_by-ledger_after : (state : LedgerState) (batches : List (List Entry)) (account : ℕ)
    → IsLedger state → AreAccepted state (entries_of batches) → IsAccount account
    → mark_of state account ≡ true
    → (balance_of (ledger_after state batches) account ≡ balance_of state account)
    × (mark_of (ledger_after state batches) account ≡ true)
kept_by-ledger_after state batches account l a k marked =
    subst (λ (s : LedgerState). (balance_of s account ≡ balance_of state account)
    × (mark_of s account ≡ true))
    (posted_in_order-is-ledger_after state batches l a)
    (kept_by-posted_in_order state (entries_of batches) account l a k marked)

-- one batch
pub entries_of-one : (batch : List Entry) → entries_of (batch ∷ []) ≡ batch
entries_of-one batch = append-nil batch

pub posted_in_order-is-ledger_after_one : (state : LedgerState) (batch : List Entry)
    → IsLedger state → AreAccepted state batch
    → posted_in_order state batch ≡ ledger_after state (batch ∷ [])
posted_in_order-is-ledger_after_one state batch l a =
    ap (posted_in_order state) (sym (entries_of-one batch))
    ∙ posted_in_order-is-ledger_after state (batch ∷ []) l
    (subst (AreAccepted state) (sym (entries_of-one batch)) a)

-- no batch changes nothing
pub ledger_after-none : (state : LedgerState) → IsLedger state → ledger_after state [] ≡ state
ledger_after-none state l = sym (posted_in_order-is-ledger_after state [] l tt)

pub entries_of-append : (first second : List (List Entry))
    → entries_of (first ++ second) ≡ entries_of first ++ entries_of second
entries_of-append first second = flat_map-append (λ (batch : List Entry). batch) first second

-- batches after batches, each entry of which is accepted, in order
pub AreAccepted-batches : (state : LedgerState) (first second : List (List Entry)) → IsLedger state
    → AreAccepted state (entries_of first)
    → AreAccepted (ledger_after state first) (entries_of second)
    → AreAccepted state (entries_of (first ++ second))
AreAccepted-batches state first second l a b =
    subst (AreAccepted state) (sym (entries_of-append first second))
    (AreAccepted-append state (entries_of first) (entries_of second) a
    (subst (λ (s : LedgerState). AreAccepted s (entries_of second))
    (sym (posted_in_order-is-ledger_after state first l a)) b))

pub AreAccepted-batches_front : (state : LedgerState) (first second : List (List Entry))
    → AreAccepted state (entries_of (first ++ second)) → AreAccepted state (entries_of first)
AreAccepted-batches_front state first second a =
    AreAccepted-front state (entries_of first) (entries_of second)
    (subst (AreAccepted state) (entries_of-append first second) a)

pub AreAccepted-batches_back : (state : LedgerState) (first second : List (List Entry))
    → IsLedger state → AreAccepted state (entries_of (first ++ second))
    → AreAccepted (ledger_after state first) (entries_of second)
AreAccepted-batches_back state first second l a =
    subst (λ (s : LedgerState). AreAccepted s (entries_of second))
    (posted_in_order-is-ledger_after state first l (AreAccepted-batches_front state first second a))
    (AreAccepted-back state (entries_of first) (entries_of second)
    (subst (AreAccepted state) (entries_of-append first second) a))

-- the ledger after more batches is that after the later ones, from that after the earlier ones
pub ledger_after-append : (state : LedgerState) (first second : List (List Entry)) → IsLedger state
    → AreAccepted state (entries_of (first ++ second))
    → ledger_after state (first ++ second) ≡ ledger_after (ledger_after state first) second
ledger_after-append state first second l a =
    let front = AreAccepted-batches_front state first second a in
    let back = AreAccepted-batches_back state first second l a in
    sym (posted_in_order-is-ledger_after state (first ++ second) l a)
    ∙ ap (posted_in_order state) (entries_of-append first second)
    ∙ posted_in_order-append state (entries_of first) (entries_of second)
    ∙ ap (λ (s : LedgerState). posted_in_order s (entries_of second))
    (posted_in_order-is-ledger_after state first l front)
    ∙ posted_in_order-is-ledger_after (ledger_after state first) second
    (IsLedger-ledger_after state first l front) back

-- one more batch is posted entry after entry
pub ledger_after-push : (state : LedgerState) (batches : List (List Entry)) (batch : List Entry)
    → IsLedger state → AreAccepted state (entries_of batches)
    → AreAccepted (ledger_after state batches) batch
    → ledger_after state (batches ++ batch ∷ [])
    ≡ posted_in_order (ledger_after state batches) batch
ledger_after-push state batches batch l a b =
    let one : AreAccepted (ledger_after state batches) (entries_of (batch ∷ [])) =
    subst (AreAccepted (ledger_after state batches)) (sym (entries_of-one batch)) b in
    ledger_after-append state batches (batch ∷ []) l
    (AreAccepted-batches state batches (batch ∷ []) l a one)
    ∙ sym (posted_in_order-is-ledger_after_one (ledger_after state batches) batch
    (IsLedger-ledger_after state batches l a) b)

pub AreAccepted-push : (state : LedgerState) (batches : List (List Entry)) (batch : List Entry)
    → IsLedger state → AreAccepted state (entries_of batches)
    → AreAccepted (ledger_after state batches) batch
    → AreAccepted state (entries_of (batches ++ batch ∷ []))
AreAccepted-push state batches batch l a b =
    AreAccepted-batches state batches (batch ∷ []) l a
    (subst (AreAccepted (ledger_after state batches)) (sym (entries_of-one batch)) b)

-- an empty batch changes nothing
pub ledger_after-empty_batch : (state : LedgerState) (batches : List (List Entry))
    → ledger_after state ([] ∷ batches) ≡ ledger_after state batches
unfolding ledger_after
ledger_after-empty_batch state batches = refl
