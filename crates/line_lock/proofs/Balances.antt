-- What an account holds after entries, one after another.
use Rattle.std.specs.Prelude.{◌≡◌, ◌+◌, ◌-◌, ◌^◌, ◌≤◌, ◌<◌, ◌==◌, ℕ, Bool, true, false}
use Rattle.std.specs.Prelude.{if◌then◌else◌, min, List, [], ◌∷◌, ◌++◌, length, take, Ok, refl}
use Rattle.std.proofs.Common.{◌∙◌, ap, sym, subst, arith, drop, get_or}
use Rattle.std.proofs.lemmas.List.{take_more, take-append-drop, at_drop_more}
use Rattle.turn_ledger.specs.declared.limits.TheConstants.{TOTAL_LIMIT}
use Rattle.turn_ledger.specs.declared.entry.Entry.{Entry}
use Rattle.turn_ledger.specs.declared.entry.Entry.TheVariants.{Deposit, Withdraw, Transfer, Seal}
use Rattle.turn_ledger.specs.State.{LedgerState, IsLedger, IsAccount, balance_of}
use Rattle.turn_ledger.specs.StateLaws.{balance_of-le-total_of}
use Rattle.turn_ledger.specs.Entry.{verdict, posted}
use Rattle.turn_ledger.specs.EntryLaws.{passes-from_yes}
use Rattle.turn_ledger.specs.Screen.{AreAccepted, posted_in_order}
use Rattle.std.proofs.lemmas.Grind.{flat_map-append}
use Rattle.turn_ledger.specs.Ledger.{into, out_of, entries_of}
use Rattle.turn_ledger.specs.LedgerLaws.{balance_of-posted, IsLedger-posted_in_order}
use Rattle.turn_ledger.specs.LedgerLaws.{posted_in_order-append, AreAccepted-front}
use Rattle.turn_ledger.specs.LedgerLaws.{AreAccepted-back}
use Rattle.turn_clerk.specs.declared.turns.Turn.{Turn}
use Rattle.turn_clerk.specs.Turn.{accepted_of, as_batch}
use Rattle.turn_clerk.specs.History.{batches_of}
use Rattle.turn_clerk.specs.HistoryLaws.{batches_of-push, entries_of-as_batch}

at_most : (b : Bool) (n : ℕ) → (if b then n else 0) ≤ n
at_most true n = omega arith
at_most false n = omega arith

-- an accepted entry brings no more than a ledger may hold
into_few : (state : LedgerState) (entry : Entry) (account : ℕ) → IsLedger state
    → verdict state entry ≡ Ok tt → into account entry ≤ TOTAL_LIMIT
into_few state (Deposit to amount reference) account sound accepted =
    let passes = passes-from_yes state (Deposit to amount reference) accepted in
    omega (arith, passes.2, at_most (to == account) amount)
into_few state (Withdraw from amount reference) account sound accepted = omega arith
into_few state (Transfer from to amount reference) account sound accepted =
    let passes = passes-from_yes state (Transfer from to amount reference) accepted in
    omega (
      arith,
      passes.4,
      sound.within_limit,
      balance_of-le-total_of state from sound.accounts passes.1,
      at_most (to == account) amount,
    )
into_few state (Seal sealed reference) account sound accepted = omega arith

within : (a b : ℕ) → a ≤ b → min a b ≡ a
within a b le = omega (arith, le)

-- one entry: what it brings is added and what it takes is taken away, in 64 bits
pub stepped : (state : LedgerState) (entry : Entry) (account balance : ℕ) → IsLedger state
    → verdict state entry ≡ Ok tt → IsAccount account → balance ≡ balance_of state account
    → min (balance + into account entry) (2 ^ 64 - 1) - out_of account entry
    ≡ balance_of (posted state entry) account
stepped state entry account balance sound accepted there is =
    let moved = balance_of-posted state entry account sound accepted there in
    let few = into_few state entry account sound accepted in
    let held = balance_of-le-total_of state account sound.accounts there in
    let limit : TOTAL_LIMIT ≡ 1000000000000000000 = refl in
    let small : balance + into account entry ≤ 2 ^ 64 - 1 =
    omega (arith, few, held, sound.within_limit, limit, is) in
    omega (arith, within (balance + into account entry) (2 ^ 64 - 1) small, moved, is)

-- the entry at a place, behind those before it
module _ (state : LedgerState) (entries : List Entry) (index : ℕ) (d : Entry) (account : ℕ)
    (lt : index < length entries) (sound : IsLedger state) (accepted : AreAccepted state entries)
    (there : IsAccount account) where
  abbrev before : List Entry
  before = take index entries

  abbrev entry : Entry
  entry = get_or entries index d

  whole : entries ≡ before ++ entry ∷ drop (index + 1) entries
  whole =
      sym (take-append-drop index entries)
      ∙ ap (λ (rest : List Entry). before ++ rest)
      (at_drop_more (λ (rest : List Entry). rest) entries index d lt)

  pub posted_one_more : (balance brings takes sum after : ℕ)
      → brings ≡ into account (get_or entries index d)
      → takes ≡ out_of account (get_or entries index d)
      → sum ≡ min (balance + brings) (2 ^ 64 - 1) → after ≡ sum - takes
      → balance ≡ balance_of (posted_in_order state (take index entries)) account
      → after ≡ balance_of (posted_in_order state (take (index + 1) entries)) account
  posted_one_more balance brings takes sum after in_it out_it is_sum is held =
      let all = subst (AreAccepted state) whole accepted in
      let far = AreAccepted-front state before (entry ∷ drop (index + 1) entries) all in
      let next = AreAccepted-back state before (entry ∷ drop (index + 1) entries) all in
      is
      ∙ (λ i. is_sum i - takes)
      ∙ (λ i. min (balance + in_it i) (2 ^ 64 - 1) - out_it i)
      ∙ stepped (posted_in_order state before) entry account balance
      (IsLedger-posted_in_order state before sound far) next.0 there held
      ∙ ap (λ (s : LedgerState). balance_of s account)
      (sym (posted_in_order-append state before (entry ∷ [])))
      ∙ ap (λ (es : List Entry). balance_of (posted_in_order state es) account)
      (sym (take_more entries index d lt))

-- what the turns of a longer list accepted
pub accepted_front : (ledger : LedgerState) (turns : List Turn) (more : List (List Entry))
    → AreAccepted ledger (entries_of (batches_of turns ++ more))
    → AreAccepted ledger (entries_of (batches_of turns))
accepted_front ledger turns more accepted =
    AreAccepted-front ledger (entries_of (batches_of turns)) (entries_of more)
    (subst (AreAccepted ledger)
    (flat_map-append (λ (batch : List Entry). batch) (batches_of turns) more) accepted)

pub accepted_up_to : (ledger : LedgerState) (turns : List Turn) (count : ℕ)
    → AreAccepted ledger (entries_of (batches_of turns))
    → AreAccepted ledger (entries_of (batches_of (take count turns)))
accepted_up_to ledger turns count accepted =
    accepted_front ledger (take count turns) (batches_of (drop count turns))
    (subst (λ (batches : List (List Entry)). AreAccepted ledger (entries_of batches))
    (ap batches_of (sym (take-append-drop count turns))
    ∙ flat_map-append (λ (turn : Turn). as_batch (accepted_of turn)) (take count turns)
    (drop count turns))
    accepted)

-- the turn at a place, behind those before it
module _ (ledger : LedgerState) (turns : List Turn) (index : ℕ) (d : Turn)
    (lt : index < length turns) where
  entries_one_more : entries_of (batches_of (take (index + 1) turns))
      ≡ entries_of (batches_of (take index turns)) ++ accepted_of (get_or turns index d)
  entries_one_more =
      let turn = get_or turns index d in
      ap (λ (ts : List Turn). entries_of (batches_of ts)) (take_more turns index d lt)
      ∙ ap entries_of (batches_of-push (take index turns) turn)
      ∙ flat_map-append (λ (batch : List Entry). batch) (batches_of (take index turns))
      (as_batch (accepted_of turn))
      ∙ ap (λ (es : List Entry). entries_of (batches_of (take index turns)) ++ es)
      (entries_of-as_batch (accepted_of turn))

  pub held_one_more : (account balance after : ℕ) (own : List Entry)
      → own ≡ accepted_of (get_or turns index d) → IsLedger ledger
      → AreAccepted ledger (entries_of (batches_of turns))
      → balance ≡ balance_of (posted_in_order ledger (entries_of (batches_of (take index turns))))
      account
      → ((state : LedgerState) → IsLedger state → AreAccepted state own
      → balance ≡ balance_of state account
      → after ≡ balance_of (posted_in_order state own) account)
      → after ≡ balance_of
      (posted_in_order ledger (entries_of (batches_of (take (index + 1) turns)))) account
  held_one_more account balance after own is sound accepted held posts =
      let before = entries_of (batches_of (take index turns)) in
      let both : AreAccepted ledger (before ++ own) =
      subst (AreAccepted ledger)
      (entries_one_more ∙ ap (λ (es : List Entry). before ++ es) (sym is))
      (accepted_up_to ledger turns (index + 1) accepted) in
      posts (posted_in_order ledger before)
      (IsLedger-posted_in_order ledger before sound (AreAccepted-front ledger before own both))
      (AreAccepted-back ledger before own both) held
      ∙ ap (λ (s : LedgerState). balance_of s account)
      (sym (posted_in_order-append ledger before own))
      ∙ ap (λ (es : List Entry). balance_of (posted_in_order ledger es) account)
      (ap (λ (es : List Entry). before ++ es) is ∙ sym entries_one_more)
