-- What the grammar says of an entry, whose reference may stand behind it.
use Rattle.std.proofs.Common.{◌≡◌, ◌≢◌, ◌∙◌, inl, inr, ℕ, ◌+◌, true, false, if◌then◌else◌, List, []}
use Rattle.std.proofs.Common.{◌∷◌, length, ◌==◌, arith, refl, sym}
use Rattle.std.proofs.lemmas.Bool.{eq-eqb, ne_eqb}
use Rattle.std.proofs.lemmas.List.{length-append}
use Rattle.text_grammar.specs.Entries.{FillsEntry, with_reference}
use Rattle.text_grammar.specs.Places.{Field, Value, first_wrong, told_of, told_of_named}
use Rattle.text_grammar.specs.Places.{told_of_one}
use Rattle.text_grammar.specs.Places.{Name, Number}
use Rattle.text_grammar.specs.declared.entries.Reference.{Reference}
use Rattle.text_grammar.specs.declared.entries.Reference.TheVariants.{Fixed, GivenOr}
use Rattle.text_grammar.proofs.GrammarLemmas.{Word, fills_named}

pub one_longer : (form : List Field) → length (with_reference form) ≡ length form + 1
one_longer form = length-append form (Number ∷ [])

-- words that give no reference, and words that give one
pub not_given : (form : List Field) (words : List Word) → length form + 1 ≢ length words
    → told_of_named (form ∷ with_reference form ∷ []) words ≡ told_of_one form words
not_given form words other =
    let test : (length (with_reference form) == length words) ≡ false =
    ne_eqb _ _ (λ e. other (sym (one_longer form) ∙ e)) in
    rw test (elim (length form == length words)
    as (λ short. told_of (form ∷ with_reference form ∷ []) (if short then form ∷ [] else []) words
    ≡ told_of (form ∷ []) (if short then form ∷ [] else []) words)
    [ true ↦ refl | false ↦ refl ])

pub is_given : (form : List Field) (words : List Word) → length form + 1 ≡ length words
    → told_of_named (form ∷ with_reference form ∷ []) words
    ≡ first_wrong (with_reference form) words
is_given form words long =
    let short : (length form == length words) ≡ false = ne_eqb _ _ (λ e. omega (arith, e, long)) in
    let test : (length (with_reference form) == length words) ≡ true =
    eq-eqb _ _ (one_longer form ∙ long) in
    rw (short, test) refl

-- the same with its kind in front
pub entry_named : (by : Reference) (name : Word) (places : List Field) (words : List Word)
    (these : List Value) (reference : ℕ)
    → FillsEntry words places these by reference
    → FillsEntry (name ∷ words) (Name name ∷ places) these by reference
unfolding FillsEntry
entry_named (Fixed line) name places words these reference full =
    (fills_named name places words these full.0, full.1)
entry_named (GivenOr line) name places words these reference (inl full) =
    inl (fills_named name places words these full.0, full.1)
entry_named (GivenOr line) name places words these reference (inr full) =
    inr (fills_named name (with_reference places) words _ full)
