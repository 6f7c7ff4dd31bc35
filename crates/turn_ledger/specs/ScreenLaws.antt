-- The accepted entries of a list are accepted again, in order.
use Rattle.std.specs.Prelude.{◌≡◌, ℕ, zero, suc, ◌+◌, ◌≤◌, ◌<◌, true, false, if◌then◌else◌, List}
use Rattle.std.specs.Prelude.{[], ◌∷◌, ◌++◌, map, length, count_by, Some, Ok, Err, is_ok, slice_get}
use Rattle.std.specs.Prelude.{refl}
use Rattle.std.proofs.Common.{◌∙◌, ap, sym, arith, cond, drop, get_or, add-one, append_assoc}
use Rattle.std.proofs.lemmas.List.Sums.{sum_by-cons}
use Rattle.turn_ledger.specs.declared.entry.Entry.{Entry}
use Rattle.turn_ledger.specs.declared.refusal.EntryRefusal.{EntryRefusal}
use Rattle.turn_ledger.specs.State.{LedgerState, IsLedger}
use Rattle.turn_ledger.specs.Entry.{Verdict, verdict, posted}
use Rattle.turn_ledger.specs.Screen.{after_entry, screened, with_yes, accepted, AreAccepted}
use Rattle.turn_ledger.specs.Screen.{posted_in_order}
use Rattle.turn_ledger.specs.Ledger.{ledger_after}
use Rattle.turn_ledger.specs.LedgerLaws.{posted_in_order-is-ledger_after_one}

pub length-screened : (state : LedgerState) (entries : List Entry)
    → length (screened state entries) ≡ length entries
length-screened state [] = refl
length-screened state (entry ∷ entries) =
    ap (λ (n : ℕ). suc n) (length-screened (after_entry state entry) entries)

-- the accepted entries of one entry and of more, where its verdict is known
accepted_given : LedgerState → Entry → List Entry → Verdict → List Entry
accepted_given state entry entries answer =
    with_yes (entry ∷ entries)
    (answer ∷ screened (if is_ok answer then posted state entry else state) entries)

-- the accepted entries are accepted again, in order
accepted_step : (state : LedgerState) (entry : Entry) (entries : List Entry) (answer : Verdict)
    → verdict state entry ≡ answer
    → AreAccepted (posted state entry) (accepted (posted state entry) entries)
    → AreAccepted state (accepted state entries)
    → AreAccepted state (accepted_given state entry entries answer)
unfolding accepted_given
accepted_step state entry entries (Ok x) e after same = (e, after)
accepted_step state entry entries (Err refusal) e after same = same

pub AreAccepted-accepted : (state : LedgerState) (entries : List Entry)
    → AreAccepted state (accepted state entries)
unfolding accepted_given
AreAccepted-accepted state [] = tt
AreAccepted-accepted state (entry ∷ entries) =
    accepted_step state entry entries (verdict state entry) refl
    (AreAccepted-accepted (posted state entry) entries) (AreAccepted-accepted state entries)

-- their number is that of the yeses
pub length-with_yes : (entries : List Entry) (verdicts : List Verdict)
    → length verdicts ≡ length entries
    → length (with_yes entries verdicts) ≡ count_by is_ok verdicts
length-with_yes [] [] same = refl
length-with_yes [] (answer ∷ verdicts) same = cc
length-with_yes (entry ∷ entries) [] same = cc
length-with_yes (entry ∷ entries) ((Ok x) ∷ verdicts) same =
    omega (
      arith,
      length-with_yes entries verdicts (omega (arith, same)),
      sum_by-cons (λ (v : Verdict). cond (is_ok v) 1 0) (Ok x) verdicts,
    )
length-with_yes (entry ∷ entries) ((Err refusal) ∷ verdicts) same =
    omega (
      arith,
      length-with_yes entries verdicts (omega (arith, same)),
      sum_by-cons (λ (v : Verdict). cond (is_ok v) 1 0) (Err refusal) verdicts,
    )

pub length-accepted : (state : LedgerState) (entries : List Entry)
    → length (accepted state entries) ≡ count_by is_ok (screened state entries)
length-accepted state entries =
    length-with_yes entries (screened state entries) (length-screened state entries)

pub length-with_yes-le : (entries : List Entry) (verdicts : List Verdict)
    → length (with_yes entries verdicts) ≤ length entries
length-with_yes-le [] verdicts = omega arith
length-with_yes-le (entry ∷ entries) [] = omega arith
length-with_yes-le (entry ∷ entries) ((Ok x) ∷ verdicts) =
    omega (arith, length-with_yes-le entries verdicts)
length-with_yes-le (entry ∷ entries) ((Err refusal) ∷ verdicts) =
    omega (arith, length-with_yes-le entries verdicts)

pub length-accepted-le : (state : LedgerState) (entries : List Entry)
    → length (accepted state entries) ≤ length entries
length-accepted-le state entries = length-with_yes-le entries (screened state entries)

-- entries that are accepted in order, with their verdicts
screened_given : (state : LedgerState) (entry : Entry) (entries : List Entry)
    → verdict state entry ≡ Ok tt
    → screened state (entry ∷ entries) ≡ Ok tt ∷ screened (posted state entry) entries
screened_given state entry entries ok =
    ap (λ (answer : Verdict). answer
    ∷ screened (if is_ok answer then posted state entry else state) entries) ok

pub screened-AreAccepted : (state : LedgerState) (entries : List Entry) → AreAccepted state entries
    → screened state entries
    ≡ map (λ (entry : Entry). let answer : Verdict = Ok tt in answer) entries
screened-AreAccepted state [] a = refl
screened-AreAccepted state (entry ∷ entries) a =
    screened_given state entry entries a.0
    ∙ ap (λ (rest : List Verdict). let answer : Verdict = Ok tt in answer ∷ rest)
    (screened-AreAccepted (posted state entry) entries a.1)

pub accepted-AreAccepted : (state : LedgerState) (entries : List Entry) → AreAccepted state entries
    → accepted state entries ≡ entries
accepted-AreAccepted state [] a = refl
accepted-AreAccepted state (entry ∷ entries) a =
    ap (with_yes (entry ∷ entries)) (screened_given state entry entries a.0)
    ∙ ap (λ (rest : List Entry). entry ∷ rest)
    (accepted-AreAccepted (posted state entry) entries a.1)

-- posting the accepted entries one after another gives the ledger after them as one batch
pub posted_in_order-accepted : (state : LedgerState) (entries : List Entry) → IsLedger state
    → posted_in_order state (accepted state entries)
    ≡ ledger_after state (accepted state entries ∷ [])
posted_in_order-accepted state entries l =
    posted_in_order-is-ledger_after_one state (accepted state entries) l
    (AreAccepted-accepted state entries)

-- later entries are judged after the accepted ones of the earlier
screened_step : (state : LedgerState) (entry : Entry) (first second : List Entry) (answer : Verdict)
    → screened (posted state entry) (first ++ second)
    ≡ screened (posted state entry) first
    ++ screened (posted_in_order (posted state entry) (accepted (posted state entry) first))
    second
    → screened state (first ++ second)
    ≡ screened state first ++ screened (posted_in_order state (accepted state first)) second
    → screened (if is_ok answer then posted state entry else state) (first ++ second)
    ≡ screened (if is_ok answer then posted state entry else state) first ++ screened
    (posted_in_order state (accepted_given state entry first answer)) second
unfolding accepted_given
screened_step state entry first second (Ok x) after same = after
screened_step state entry first second (Err refusal) after same = same

pub screened-append : (state : LedgerState) (first second : List Entry)
    → screened state (first ++ second)
    ≡ screened state first ++ screened (posted_in_order state (accepted state first)) second
unfolding accepted_given
screened-append state [] second = refl
screened-append state (entry ∷ first) second =
    ap (λ (rest : List Verdict). verdict state entry ∷ rest)
    (screened_step state entry first second (verdict state entry)
    (screened-append (posted state entry) first second) (screened-append state first second))

accepted_append_step : (state : LedgerState) (entry : Entry) (first second : List Entry)
    (answer : Verdict)
    → accepted (posted state entry) (first ++ second)
    ≡ accepted (posted state entry) first
    ++ accepted (posted_in_order (posted state entry) (accepted (posted state entry) first))
    second
    → accepted state (first ++ second)
    ≡ accepted state first ++ accepted (posted_in_order state (accepted state first)) second
    → accepted_given state entry (first ++ second) answer
    ≡ accepted_given state entry first answer
    ++ accepted (posted_in_order state (accepted_given state entry first answer)) second
unfolding accepted_given
accepted_append_step state entry first second (Ok x) after same =
    ap (λ (rest : List Entry). entry ∷ rest) after
accepted_append_step state entry first second (Err refusal) after same = same

pub accepted-append : (state : LedgerState) (first second : List Entry)
    → accepted state (first ++ second)
    ≡ accepted state first ++ accepted (posted_in_order state (accepted state first)) second
unfolding accepted_given
accepted-append state [] second = refl
accepted-append state (entry ∷ first) second =
    accepted_append_step state entry first second (verdict state entry)
    (accepted-append (posted state entry) first second) (accepted-append state first second)

-- the entries with a yes from a place on: with that at the place, where its verdict is a yes, and
-- else without it
with_yes_from_yes : (entries : List Entry) (verdicts : List Verdict) (i : ℕ) (d : Entry)
    → i < length entries → slice_get verdicts i ≡ Some (Ok tt)
    → with_yes (drop i entries) (drop i verdicts)
    ≡ get_or entries i d ∷ with_yes (drop (suc i) entries) (drop (suc i) verdicts)
with_yes_from_yes [] verdicts i d h ok = absurd (omega arith)
with_yes_from_yes (entry ∷ entries) [] zero d h ok = cc
with_yes_from_yes (entry ∷ entries) [] (suc i) d h ok = cc
with_yes_from_yes (entry ∷ entries) (answer ∷ verdicts) zero d h ok =
    let same : answer ≡ Ok tt = cc in
    ap (λ (v : Verdict). with_yes (entry ∷ entries) (v ∷ verdicts)) same
with_yes_from_yes (entry ∷ entries) (answer ∷ verdicts) (suc i) d h ok =
    with_yes_from_yes entries verdicts i d (omega arith) ok

with_yes_from_no : (entries : List Entry) (verdicts : List Verdict) (i : ℕ) (refusal : EntryRefusal)
    → slice_get verdicts i ≡ Some (Err refusal)
    → with_yes (drop i entries) (drop i verdicts)
    ≡ with_yes (drop (suc i) entries) (drop (suc i) verdicts)
with_yes_from_no [] verdicts zero refusal err = refl
with_yes_from_no [] verdicts (suc i) refusal err = refl
with_yes_from_no (entry ∷ entries) [] zero refusal err = cc
with_yes_from_no (entry ∷ entries) [] (suc i) refusal err = cc
with_yes_from_no (entry ∷ entries) (answer ∷ verdicts) zero refusal err =
    let same : answer ≡ Err refusal = cc in
    ap (λ (v : Verdict). with_yes (entry ∷ entries) (v ∷ verdicts)) same
with_yes_from_no (entry ∷ entries) (answer ∷ verdicts) (suc i) refusal err =
    with_yes_from_no entries verdicts i refusal err

pub with_yes-drop_yes : (entries : List Entry) (verdicts : List Verdict) (i : ℕ) (d : Entry)
    → i < length entries → slice_get verdicts i ≡ Some (Ok tt)
    → with_yes (drop i entries) (drop i verdicts)
    ≡ get_or entries i d ∷ with_yes (drop (i + 1) entries) (drop (i + 1) verdicts)
with_yes-drop_yes entries verdicts i d h ok =
    rw add-one (with_yes_from_yes entries verdicts i d h ok)

pub with_yes-drop_no : (entries : List Entry) (verdicts : List Verdict) (i : ℕ)
    (refusal : EntryRefusal) → slice_get verdicts i ≡ Some (Err refusal)
    → with_yes (drop i entries) (drop i verdicts)
    ≡ with_yes (drop (i + 1) entries) (drop (i + 1) verdicts)
with_yes-drop_no entries verdicts i refusal err =
    rw add-one (with_yes_from_no entries verdicts i refusal err)

-- a batch that is gathered entry by entry
pub gathered_yes : (batch entries : List Entry) (verdicts : List Verdict) (i : ℕ) (d : Entry)
    (answer : Verdict) → i < length entries → slice_get verdicts i ≡ Some answer
    → is_ok answer ≡ true
    → (batch ++ get_or entries i d ∷ []) ++ with_yes (drop (i + 1) entries) (drop (i + 1) verdicts)
    ≡ batch ++ with_yes (drop i entries) (drop i verdicts)
gathered_yes batch entries verdicts i d (Ok u) h here accepted =
    append_assoc batch (get_or entries i d ∷ [])
    (with_yes (drop (i + 1) entries) (drop (i + 1) verdicts))
    ∙ ap (λ (rest : List Entry). batch ++ rest)
    (sym (with_yes-drop_yes entries verdicts i d h here))
gathered_yes batch entries verdicts i d (Err refusal) h here accepted = absurd (cc)

pub gathered_no : (batch entries all : List Entry) (verdicts : List Verdict) (i : ℕ)
    (answer : Verdict) → slice_get verdicts i ≡ Some answer → is_ok answer ≡ false
    → batch ++ with_yes (drop i entries) (drop i verdicts) ≡ all
    → batch ++ with_yes (drop (i + 1) entries) (drop (i + 1) verdicts) ≡ all
gathered_no batch entries all verdicts i (Err refusal) here refused told =
    ap (λ (rest : List Entry). batch ++ rest)
    (sym (with_yes-drop_no entries verdicts i refusal here)) ∙ told
gathered_no batch entries all verdicts i (Ok u) here refused told = absurd (cc)
