-- Balances that are written over one after another, and marks that are set.
use Rattle.std.proofs.Common.{◌≡◌, ℕ, ◌+◌, ◌<◌, Bool, true, false, List, [], ◌∷◌, length, take}
use Rattle.std.proofs.Common.{get_or, set, refl, ap, sym, subst, ◌∙◌}
use Rattle.std.specs.Prelude.{◌≢◌, slice_index, slice_index_or, slice_set}
use Rattle.std.proofs.lemmas.List.{length-set, take_more, get_or-set_same, get_or-set_other}
use Rattle.std.proofs.lemmas.Grind.{fold-append}
use Rattle.turn_ledger.specs.declared.scratch.Change.{Change}
use Rattle.turn_ledger.specs.Scratch.{changed, marked}

pub length-changed : (balances : List ℕ) (changes : List Change)
    → length (changed balances changes) ≡ length balances
length-changed balances [] = refl
length-changed balances (change ∷ changes) =
    length-changed (slice_set balances change.place change.balance) changes
    ∙ length-set balances change.place change.balance

-- one more change
changed_more : (balances : List ℕ) (changes : List Change) (i : ℕ) (d : Change) → i < length changes
    → changed balances (take (i + 1) changes)
    ≡ set (changed balances (take i changes)) (get_or changes i d).place
    (get_or changes i d).balance
changed_more balances changes i d h =
    ap (λ (front : List Change). changed balances front) (take_more changes i d h)
    ∙ fold-append (λ (before : List ℕ) (change : Change).
    slice_set before change.place change.balance) balances (take i changes)
    (get_or changes i d ∷ [])

pub changed_more_same : (balances : List ℕ) (changes : List Change) (i place : ℕ) (d : Change)
    → i < length changes → place < length balances → (get_or changes i d).place ≡ place
    → (get_or changes i d).balance ≡ slice_index (changed balances (take (i + 1) changes)) place
changed_more_same balances changes i place d h within same =
    sym (ap (λ (after : List ℕ). slice_index after place) (changed_more balances changes i d h)
    ∙ ap (λ (at : ℕ).
    slice_index (set (changed balances (take i changes)) at (get_or changes i d).balance) place)
    same
    ∙ get_or-set_same (changed balances (take i changes)) place _ 0
    (subst (λ (n : ℕ). place < n) (sym (length-changed balances (take i changes))) within))

pub changed_more_other : (balances : List ℕ) (changes : List Change) (i place : ℕ) (d : Change)
    → i < length changes → (get_or changes i d).place ≢ place
    → slice_index (changed balances (take i changes)) place
    ≡ slice_index (changed balances (take (i + 1) changes)) place
changed_more_other balances changes i place d h differ =
    sym (ap (λ (after : List ℕ). slice_index after place) (changed_more balances changes i d h)
    ∙ get_or-set_other (changed balances (take i changes)) _ place _ 0 (λ e. differ (sym e)))

pub length-marked : (sealed : List Bool) (places : List ℕ)
    → length (marked sealed places) ≡ length sealed
length-marked sealed [] = refl
length-marked sealed (place ∷ places) =
    length-marked (slice_set sealed place true) places ∙ length-set sealed place true

-- one more mark
marked_more : (sealed : List Bool) (places : List ℕ) (i : ℕ) (d : ℕ) → i < length places
    → marked sealed (take (i + 1) places)
    ≡ set (marked sealed (take i places)) (get_or places i d) true
marked_more sealed places i d h =
    ap (λ (front : List ℕ). marked sealed front) (take_more places i d h)
    ∙ fold-append (λ (before : List Bool) (place : ℕ). slice_set before place true) sealed
    (take i places) (get_or places i d ∷ [])

pub marked_more_same : (sealed : List Bool) (places : List ℕ) (i place : ℕ) (d : ℕ)
    → i < length places → place < length sealed → get_or places i d ≡ place
    → true ≡ slice_index_or (marked sealed (take (i + 1) places)) place false
marked_more_same sealed places i place d h within same =
    sym (ap (λ (after : List Bool). slice_index_or after place false)
    (marked_more sealed places i d h)
    ∙ ap (λ (at : ℕ). slice_index_or (set (marked sealed (take i places)) at true) place false) same
    ∙ get_or-set_same (marked sealed (take i places)) place true false
    (subst (λ (n : ℕ). place < n) (sym (length-marked sealed (take i places))) within))

pub marked_more_other : (sealed : List Bool) (places : List ℕ) (i place : ℕ) (d : ℕ)
    → i < length places → get_or places i d ≢ place
    → slice_index_or (marked sealed (take i places)) place false
    ≡ slice_index_or (marked sealed (take (i + 1) places)) place false
marked_more_other sealed places i place d h differ =
    sym (ap (λ (after : List Bool). slice_index_or after place false)
    (marked_more sealed places i d h)
    ∙ get_or-set_other (marked sealed (take i places)) _ place true false (λ e. differ (sym e)))
