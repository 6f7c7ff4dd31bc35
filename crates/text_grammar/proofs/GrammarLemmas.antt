-- What the grammar says of a line, form by form.
use Rattle.std.proofs.Common.{◌≡◌, ◌≢◌, ◌∙◌, ℕ, suc, ◌≤◌, Bool, true, false, if◌then◌else◌, Option}
use Rattle.std.proofs.Common.{Some, None, Result, Ok, Err, List, []}
use Rattle.std.proofs.Common.{◌∷◌, ◌++◌, length, drop, map, filter, ◌==◌, arith, refl, sym, ap}
use Rattle.std.specs.Prelude.{IfErr, IfOk}
use Rattle.std.specs.Option.{option_or}
use Rattle.std.specs.List.{All}
use Rattle.std.proofs.Math.Dec.{eqb-suc-suc}
use Rattle.std.proofs.Math.Seq.{drop-nil}
use Rattle.std.proofs.lemmas.Bool.{eq-eqb, ne_eqb}
use Rattle.std.proofs.lemmas.List.{append-nil, append_assoc}
use Rattle.std.proofs.lemmas.List.Elements.{All-filter, All-head}
use Rattle.std.proofs.lemmas.Slice.Eq.{bytes_eq-Decides}
use Rattle.text_grammar.specs.Places.{AreTaken, Field, Fills, IsAnswer, Value, fault_by}
use Rattle.text_grammar.specs.Places.{first_wrong, is_skipped, takes, told_as, told_of}
use Rattle.text_grammar.specs.Places.{told_of_named, told_of_one, values, written}
use Rattle.text_grammar.specs.Places.{Name}
use Rattle.text_grammar.specs.declared.faults.LineFault.{LineFault}
use Rattle.text_grammar.specs.declared.faults.LineFault.TheVariants.{WrongNumberOfWords}

abbrev pub Word : Type 0
Word = List ℕ

-- ---- the words of a form, and of another behind it

first_of_both : (f g : List Field) (words : List Word) → length f ≤ length words
    → first_wrong (f ++ g) words
    ≡ option_or (first_wrong f words) (first_wrong g (drop (length f) words))
unfolding first_wrong
first_of_both [] g words enough = refl
first_of_both (place ∷ f) g [] enough = absurd (omega (arith, enough))
first_of_both (place ∷ f) g (word ∷ words) enough =
    elim (takes place word)
    as (λ ok. (if ok then first_wrong (f ++ g) words else Some (told_as place))
    ≡ option_or (if ok then first_wrong f words else Some (told_as place))
    (first_wrong g (drop (length f) words)))
    [ true ↦ first_of_both f g words (omega (arith, enough)) | false ↦ refl ]

pub wrong_first : (f g : List Field) (words : List Word) (fault : LineFault)
    → length f ≤ length words → first_wrong f words ≡ Some fault
    → first_wrong (f ++ g) words ≡ Some fault
wrong_first f g words fault enough h =
    first_of_both f g words enough
    ∙ ap (λ (o : Option LineFault). option_or o (first_wrong g (drop (length f) words))) h

values_first : (f g : List Field) (words : List Word) → length f ≤ length words
    → values (f ++ g) words ≡ values f words ++ values g (drop (length f) words)
values_first [] g words enough = refl
values_first (place ∷ f) g [] enough = absurd (omega (arith, enough))
values_first (place ∷ f) g (word ∷ words) enough =
    ap (λ (l : List Value). written place word ++ l)
    (values_first f g words (omega (arith, enough)))
    ∙ sym (append_assoc (written place word) (values f words) _)

drop_first : (f g : List Field) (words : List Word)
    → drop (length (f ++ g)) words ≡ drop (length g) (drop (length f) words)
drop_first [] g words = refl
drop_first (place ∷ f) g [] = sym (drop-nil (length g))
drop_first (place ∷ f) g (word ∷ words) = drop_first f g words

-- the words of `g` come behind those of `f`, which were taken
module _ (f g : List Field) (a : List Value) (old mid : List Word) (enough : length f ≤ length old)
    (taken : (first_wrong f old ≡ None) × AreTaken f a old mid) where
  pub then_told : (found : Option LineFault) → first_wrong g mid ≡ found
      → first_wrong (f ++ g) old ≡ found
  then_told found h =
      first_of_both f g old enough
      ∙ ap (λ (o : Option LineFault). option_or o (first_wrong g (drop (length f) old))) taken.0
      ∙ ap (first_wrong g) (sym taken.1.1) ∙ h

  pub then_taken : (b : List Value) (new : List Word)
      → (first_wrong g mid ≡ None) × AreTaken g b mid new
      → (first_wrong (f ++ g) old ≡ None) × AreTaken (f ++ g) (a ++ b) old new
  then_taken b new h = (
    then_told None h.0,
    (
      values_first f g old enough
          ∙ ap (λ (l : List Value). l ++ values g (drop (length f) old)) taken.1.0
          ∙ ap (λ (l : List Word). a ++ values g l) (sym taken.1.1)
          ∙ ap (λ (l : List Value). a ++ l) h.1.0,
      h.1.1 ∙ ap (drop (length g)) taken.1.1 ∙ sym (drop_first f g old),
    ),
  )

-- the word at one place
pub one_word : {T : Type 0} (place : Field) (shown : T → Value) (old new : List Word) (word : Word)
    (r : Result T LineFault) → old ≡ word ∷ new
    → IfOk r (λ this. (takes place word ≡ true) × (written place word ≡ shown this ∷ []))
    → IfErr r (λ fault. (takes place word ≡ false) × (fault ≡ told_as place))
    → IsAnswer (first_wrong (place ∷ []) old)
    (λ this. AreTaken (place ∷ []) (shown this ∷ []) old new) r
unfolding first_wrong
one_word place shown old new word (Err fault) same ok err =
    rw (same, err.0) (ap (λ (f : LineFault). Some f) (sym err.1))
one_word place shown old new word (Ok this) same ok err =
    (rw (same, ok.0) refl, (rw same (append-nil (written place word) ∙ ok.1), rw same refl))

-- ---- words that fill a form

pub as_long : (form : List Field) (words : List Word) → length form ≡ length words
    → told_of_one form words ≡ first_wrong form words
as_long form words long =
    let test : (length form == length words) ≡ true = eq-eqb _ _ long in
    rw test refl

pub not_as_long : (form : List Field) (words : List Word) → length form ≢ length words
    → told_of_one form words ≡ Some WrongNumberOfWords
not_as_long form words other =
    let test : (length form == length words) ≡ false = ne_eqb _ _ other in
    rw test refl

pub whole : {T : Type 0} (form : List Field) (shown : T → List Value) (words left : List Word)
    (r : Result T LineFault) → length form ≡ length words
    → IsAnswer (first_wrong form words) (λ this. AreTaken form (shown this) words left) r
    → IsAnswer (told_of_one form words) (λ this. Fills words form (shown this)) r
unfolding Fills
whole form shown words left (Err fault) long h = as_long form words long ∙ h
whole form shown words left (Ok this) long h =
    (as_long form words long ∙ h.0, (sym long, h.0, h.1.0))

-- ---- forms and words with more in front

kept : (front : List Field → List Field) (b : Bool) (form : List Field) (xs ys : List (List Field))
    → xs ≡ map front ys
    → (if b then front form ∷ xs else xs) ≡ map front (if b then form ∷ ys else ys)
kept front true form xs ys e = ap (λ (l : List (List Field)). front form ∷ l) e
kept front false form xs ys e = e

pub filter_front : (front : List Field → List Field) (p q : List Field → Bool)
    → ((form : List Field) → q (front form) ≡ p form)
    → (forms : List (List Field)) → filter q (map front forms) ≡ map front (filter p forms)
filter_front front p q same [] = refl
filter_front front p q same (form ∷ forms) =
    rw (same form) (kept front (p form) form _ _ (filter_front front p q same forms))

-- what is told of the words without what stands in front is `found`, and with it `more`
module _ (front : List Field → List Field) (words longer : List Word)
    (found more : Option LineFault) where
  abbrev pub GoesOn : List Field → Type 0
  GoesOn form = first_wrong form words ≡ found → first_wrong (front form) longer ≡ more

  told_front : ((fault : LineFault) → found ≡ Some fault → more ≡ Some fault)
      → (named long : List (List Field)) → All GoesOn long
      → told_of named long words ≡ found → told_of (map front named) (map front long) longer ≡ more
  told_front on [] long all h = sym (on _ (sym h))
  told_front on (form ∷ named) [] all h = sym (on _ (sym h))
  told_front on (form ∷ named) (first ∷ long) all h = All-head GoesOn first long all h

  pub told_in_front
      : ((form : List Field)
      → (length (front form) == length longer) ≡ (length form == length words))
      → ((fault : LineFault) → found ≡ Some fault → more ≡ Some fault) → (named : List (List Field))
      → All GoesOn named
      → told_of_named named words ≡ found → told_of_named (map front named) longer ≡ more
  told_in_front same on named all h =
      ap (λ (long : List (List Field)). told_of (map front named) long longer)
      (filter_front front _ _ same named)
      ∙ told_front on named _ (All-filter _ GoesOn named all) h

-- what is told of words stays the same with a name in front
pub behind : (name : Word) (forms : List (List Field)) (words : List Word)
    → told_of_named (map (λ form. Name name ∷ form) forms) (name ∷ words)
    ≡ told_of_named forms words
unfolding first_wrong takes
behind name forms words =
    told_in_front (λ form. Name name ∷ form) words (name ∷ words) _ _
    (λ form. eqb-suc-suc (length form) (length words)) (λ fault e. e) forms
    (λ k d low e. rw ((bytes_eq-Decides name name).1 refl) e) refl

pub fills_named : (name : Word) (places : List Field) (words : List Word) (these : List Value)
    → Fills words places these
    → Fills (name ∷ words) (Name name ∷ places) these
unfolding Fills first_wrong takes
fills_named name places words these full =
    (ap suc full.0, rw ((bytes_eq-Decides name name).1 refl) full.1, full.2)

-- nothing is wrong with a line that says nothing
pub skipped : (table : List (List Field)) (words : List Word) → is_skipped words ≡ true
    → fault_by table words ≡ None
skipped table words e = rw e refl
