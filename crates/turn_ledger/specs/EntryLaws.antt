-- What a yes means, and that a posted entry leaves a ledger.
use Rattle.std.specs.Prelude.{◌≡◌, ◌≢◌, ℕ, ◌+◌, ◌≤◌, ◌<◌, Bool, true, false, ◌==◌, ◌&&◌, ◌||◌, ◌-◌}
use Rattle.std.specs.Prelude.{not, nat_lt, if◌then◌else◌, List, ◌++◌, [], ◌∷◌, length, Ok, Err}
use Rattle.std.specs.Prelude.{refl}
use Rattle.std.proofs.Common.{◌∙◌, ap, sym, arith}
use Rattle.std.proofs.lemmas.Bool.{ne_eqb}
use Rattle.std.proofs.lemmas.List.{length-set}
use Rattle.std.proofs.lemmas.Bool.Decides.{nat_tests}
use Rattle.turn_ledger.specs.declared.limits.TheConstants.{TOTAL_LIMIT}
use Rattle.turn_ledger.specs.declared.entry.Entry.{Entry}
use Rattle.turn_ledger.specs.declared.entry.Entry.TheVariants.{Deposit, Withdraw, Transfer, Seal}
use Rattle.turn_ledger.specs.declared.refusal.EntryRefusal.{EntryRefusal}
use Rattle.turn_ledger.specs.State.{LedgerState, IsAccount, is_account, mark_of, sealed_at}
use Rattle.turn_ledger.specs.State.{balance_of, total_of, IsLedger, credited, debited}
use Rattle.turn_ledger.specs.Entry.{Verdict, verdict, posted, own_checks, state_checks}
use Rattle.turn_ledger.specs.Entry.{first_refusal}
use Rattle.turn_ledger.specs.StateLaws.{length-with_balance, IsLedger-credited, IsLedger-debited}
use Rattle.turn_ledger.specs.StateLaws.{total_of-debited}

-- of two lists of checks, the second is looked at where the first gives a yes
pub first_refusal-append_ok : (checks more : List (Bool × EntryRefusal))
    → first_refusal checks ≡ Ok tt → first_refusal (checks ++ more) ≡ first_refusal more
first_refusal-append_ok [] more h = refl
first_refusal-append_ok ((true, refusal) ∷ checks) more h = cc
first_refusal-append_ok ((false, refusal) ∷ checks) more h = first_refusal-append_ok checks more h

pub first_refusal-append_err : (checks more : List (Bool × EntryRefusal)) (refusal : EntryRefusal)
    → first_refusal checks ≡ Err refusal → first_refusal (checks ++ more) ≡ Err refusal
first_refusal-append_err [] more e h = cc
first_refusal-append_err ((true, refusal) ∷ checks) more e h = h
first_refusal-append_err ((false, refusal) ∷ checks) more e h =
    first_refusal-append_err checks more e h

-- what a yes means
abbrev pub Passes : LedgerState → Entry → Type 0
Passes state (Deposit to amount reference) =
    (0 < amount) × IsAccount to × (total_of state + amount ≤ TOTAL_LIMIT)
    × (mark_of state to ≡ false)
Passes state (Withdraw from amount reference) =
    (0 < amount) × IsAccount from × (amount ≤ balance_of state from) × (mark_of state from ≡ false)
Passes state (Transfer from to amount reference) =
    (0 < amount) × IsAccount from × IsAccount to × (from ≢ to) × (amount ≤ balance_of state from)
    × (mark_of state from ≡ false)
    × (mark_of state to ≡ false)
Passes state (Seal account reference) = IsAccount account × (mark_of state account ≡ false)

-- a check that doesn't hold
passed : (test : Bool) (refusal : EntryRefusal) (rest : Verdict)
    → (if test then Err refusal else rest) ≡ Ok tt → (test ≡ false) × (rest ≡ Ok tt)
passed true refusal rest h = cc
passed false refusal rest h = (refl, h)

above_zero : (n : ℕ) → (n == 0) ≡ false → 0 < n
above_zero n h = grind (arith, nat_tests)

is_account-true : (n : ℕ) → not (is_account n && true) ≡ false → IsAccount n
is_account-true n h = grind (arith, nat_tests)

two_accounts-true : (m n : ℕ) → not (is_account m && (is_account n && true)) ≡ false
    → IsAccount m × IsAccount n
two_accounts-true m n h = grind (arith, nat_tests)

at_most : (m n : ℕ) → nat_lt m n ≡ false → n ≤ m
at_most m n h = grind (arith, nat_tests)

differ : (m n : ℕ) → (m == n) ≡ false → m ≢ n
differ m n h = grind (arith, nat_tests)

not_sealed : (a : Bool) → (a || false) ≡ false → a ≡ false
not_sealed true h = h
not_sealed false h = refl

neither_sealed : (a b : Bool) → (a || (b || false)) ≡ false → (a ≡ false) × (b ≡ false)
neither_sealed true b h = absurd (cc)
neither_sealed false b h = (refl, not_sealed b h)

deposit_passes : (state : LedgerState) (to amount reference : ℕ)
    → verdict state (Deposit to amount reference) ≡ Ok tt
    → Passes state (Deposit to amount reference)
unfolding verdict
deposit_passes state to amount reference ok =
    let zero = passed (amount == 0) _ _ ok in
    let named = passed (not (is_account to && true)) _ _ zero.1 in
    let limit = passed (nat_lt TOTAL_LIMIT (total_of state + amount)) _ _ named.1 in
    let sealed = passed (mark_of state to || false) _ _ limit.1 in (
      above_zero amount zero.0,
      is_account-true to named.0,
      at_most _ _ limit.0,
      not_sealed _ sealed.0,
    )

withdraw_passes : (state : LedgerState) (from amount reference : ℕ)
    → verdict state (Withdraw from amount reference) ≡ Ok tt
    → Passes state (Withdraw from amount reference)
unfolding verdict
withdraw_passes state from amount reference ok =
    let zero = passed (amount == 0) _ _ ok in
    let named = passed (not (is_account from && true)) _ _ zero.1 in
    let short = passed (nat_lt (balance_of state from) amount) _ _ named.1 in
    let sealed = passed (mark_of state from || false) _ _ short.1 in (
      above_zero amount zero.0,
      is_account-true from named.0,
      at_most _ _ short.0,
      not_sealed _ sealed.0,
    )

transfer_passes : (state : LedgerState) (from to amount reference : ℕ)
    → verdict state (Transfer from to amount reference) ≡ Ok tt
    → Passes state (Transfer from to amount reference)
unfolding verdict
transfer_passes state from to amount reference ok =
    let zero = passed (amount == 0) _ _ ok in
    let named = passed (not (is_account from && (is_account to && true))) _ _ zero.1 in
    let same = passed (from == to) _ _ named.1 in
    let short = passed (nat_lt (balance_of state from) amount) _ _ same.1 in
    let both = two_accounts-true from to named.0 in
    let sealed = passed (mark_of state from || (mark_of state to || false)) _ _ short.1 in
    let neither = neither_sealed _ _ sealed.0 in (
      above_zero amount zero.0,
      both.0,
      both.1,
      differ from to same.0,
      at_most _ _ short.0,
      neither.0,
      neither.1,
    )

seal_passes : (state : LedgerState) (account reference : ℕ)
    → verdict state (Seal account reference) ≡ Ok tt → Passes state (Seal account reference)
unfolding verdict
seal_passes state account reference ok =
    let named = passed (not (is_account account && true)) _ _ ok in
    let sealed = passed (mark_of state account || false) _ _ named.1 in
    (is_account-true account named.0, not_sealed _ sealed.0)

-- an accepted entry
pub passes-from_yes : (state : LedgerState) (entry : Entry) → verdict state entry ≡ Ok tt
    → Passes state entry
passes-from_yes state (Deposit to amount reference) ok = deposit_passes state to amount reference ok
passes-from_yes state (Withdraw from amount reference) ok =
    withdraw_passes state from amount reference ok
passes-from_yes state (Transfer from to amount reference) ok =
    transfer_passes state from to amount reference ok
passes-from_yes state (Seal account reference) ok = seal_passes state account reference ok

-- all accounts are there after an entry
pub length-posted : (state : LedgerState) (entry : Entry)
    → length (posted state entry).balances ≡ length state.balances
unfolding posted
length-posted state (Deposit to amount reference) = length-with_balance state to _
length-posted state (Withdraw from amount reference) = length-with_balance state from _
length-posted state (Transfer from to amount reference) =
    length-with_balance (debited state from amount) to _ ∙ length-with_balance state from _
length-posted state (Seal account reference) = refl

-- posting an accepted entry leaves a ledger
pub IsLedger-posted : (state : LedgerState) (entry : Entry) → IsLedger state
    → verdict state entry ≡ Ok tt → IsLedger (posted state entry)
unfolding posted
IsLedger-posted state (Deposit to amount reference) l ok =
    let p = deposit_passes state to amount reference ok in
    IsLedger-credited state to amount l p.1 p.2
IsLedger-posted state (Withdraw from amount reference) l ok =
    let p = withdraw_passes state from amount reference ok in
    IsLedger-debited state from amount l p.1 p.2
IsLedger-posted state (Transfer from to amount reference) l ok =
    let p = transfer_passes state from to amount reference ok in
    let taken = IsLedger-debited state from amount l p.1 p.4 in
    IsLedger-credited (debited state from amount) to amount taken p.2
    (omega (arith, l.within_limit, total_of-debited state from amount l.accounts p.1 p.4))
IsLedger-posted state (Seal account reference) l ok = record {
  accounts = l.accounts;
  marks = length-set state.sealed (account - 1) true ∙ l.marks;
  within_limit = l.within_limit;
}

-- what the yes of an entry means, and what it leaves, where its kind is known
pub passes_as : (state : LedgerState) (entry form : Entry) → entry ≡ form
    → verdict state entry ≡ Ok tt → Passes state form
passes_as state entry form same ok = passes-from_yes state form (ap (verdict state) (sym same) ∙ ok)

pub posted-deposit : (state : LedgerState) (entry : Entry) (to amount reference : ℕ)
    → entry ≡ Deposit to amount reference → posted state entry ≡ credited state to amount
unfolding posted
posted-deposit state entry to amount reference same = ap (posted state) same

pub posted-withdraw : (state : LedgerState) (entry : Entry) (from amount reference : ℕ)
    → entry ≡ Withdraw from amount reference → posted state entry ≡ debited state from amount
unfolding posted
posted-withdraw state entry from amount reference same = ap (posted state) same

pub posted-transfer : (state : LedgerState) (entry : Entry) (from to amount reference : ℕ)
    → entry ≡ Transfer from to amount reference
    → posted state entry ≡ credited (debited state from amount) to amount
unfolding posted
posted-transfer state entry from to amount reference same = ap (posted state) same

pub posted-seal : (state : LedgerState) (entry : Entry) (account reference : ℕ)
    → entry ≡ Seal account reference → posted state entry ≡ sealed_at state account
unfolding posted
posted-seal state entry account reference same = ap (posted state) same

-- an entry's own checks come first
pub verdict-own_ok : (state : LedgerState) (entry : Entry)
    → first_refusal (own_checks entry) ≡ Ok tt
    → verdict state entry ≡ first_refusal (state_checks state entry)
unfolding verdict
verdict-own_ok state entry ok =
    first_refusal-append_ok (own_checks entry) (state_checks state entry) ok

pub verdict-own_err : (state : LedgerState) (entry : Entry) (refusal : EntryRefusal)
    → first_refusal (own_checks entry) ≡ Err refusal → verdict state entry ≡ Err refusal
unfolding verdict
verdict-own_err state entry refusal err =
    first_refusal-append_err (own_checks entry) (state_checks state entry) refusal err

-- the other way: an entry that keeps all rules is accepted
not_held : (test : Bool) (refusal : EntryRefusal) (rest : Verdict) → test ≡ false → rest ≡ Ok tt
    → (if test then Err refusal else rest) ≡ Ok tt
not_held true refusal rest h k = cc
not_held false refusal rest h k = k

test_above_zero : (n : ℕ) → 0 < n → (n == 0) ≡ false
test_above_zero n h = grind (arith, nat_tests)

test_account : (n : ℕ) → IsAccount n → not (is_account n && true) ≡ false
test_account n h = grind (arith, nat_tests)

test_two_accounts : (m n : ℕ) → IsAccount m → IsAccount n
    → not (is_account m && (is_account n && true)) ≡ false
test_two_accounts m n h k = grind (arith, nat_tests)

test_at_most : (m n : ℕ) → n ≤ m → nat_lt m n ≡ false
test_at_most m n h = grind (arith, nat_tests)

test_differ : (m n : ℕ) → m ≢ n → (m == n) ≡ false
test_differ m n h = ne_eqb m n h

pub yes-from_passes : (state : LedgerState) (entry : Entry) → Passes state entry
    → verdict state entry ≡ Ok tt
unfolding verdict
yes-from_passes state (Deposit to amount reference) p =
    not_held (amount == 0) _ _ (test_above_zero amount p.0)
    (not_held (not (is_account to && true)) _ _ (test_account to p.1)
    (not_held (nat_lt TOTAL_LIMIT (total_of state + amount)) _ _ (test_at_most _ _ p.2)
    (not_held (mark_of state to || false) _ _ (ap (λ (b : Bool). b || false) p.3) refl)))
yes-from_passes state (Withdraw from amount reference) p =
    not_held (amount == 0) _ _ (test_above_zero amount p.0)
    (not_held (not (is_account from && true)) _ _ (test_account from p.1)
    (not_held (nat_lt (balance_of state from) amount) _ _ (test_at_most _ _ p.2)
    (not_held (mark_of state from || false) _ _ (ap (λ (b : Bool). b || false) p.3) refl)))
yes-from_passes state (Transfer from to amount reference) p =
    not_held (amount == 0) _ _ (test_above_zero amount p.0)
    (not_held (not (is_account from && (is_account to && true))) _ _
    (test_two_accounts from to p.1 p.2)
    (not_held (from == to) _ _ (test_differ from to p.3)
    (not_held (nat_lt (balance_of state from) amount) _ _ (test_at_most _ _ p.4)
    (not_held (mark_of state from || (mark_of state to || false)) _ _
    (λ i. p.5 i || (p.6 i || false)) refl))))
yes-from_passes state (Seal account reference) p =
    not_held (not (is_account account && true)) _ _ (test_account account p.0)
    (not_held (mark_of state account || false) _ _ (ap (λ (b : Bool). b || false) p.1) refl)
