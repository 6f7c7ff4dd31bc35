-- What is told of an entry behind `post` and a station.
use Rattle.std.proofs.Common.{◌≡◌, ◌∙◌, inl, inr, ℕ, true, false, Option, List, [], ◌∷◌, Some, None}
use Rattle.std.proofs.Common.{codes, filter, refl, sym, ap}
use Rattle.std.proofs.Math.Dec.{eqb-suc-suc}
use Rattle.std.proofs.lemmas.Bool.{and_parts, cases_cond, cond-true, cond_both}
use Rattle.std.proofs.lemmas.List.Elements.{All-filter, All-from_recursion, filter_passes}
use Rattle.std.proofs.lemmas.Option.{none-some, same_Some}
use Rattle.text_grammar.specs.Entries.{SpellsEntry, entries}
use Rattle.text_grammar.specs.Grammar.{Spells, line_fault, post_form}
use Rattle.text_grammar.specs.Places.{Field, Fills, first_wrong, has_names, takes, told_as, told_by}
use Rattle.text_grammar.specs.Places.{told_of_named, written}
use Rattle.text_grammar.specs.Places.{Name, Number, NumberIs}
use Rattle.text_grammar.specs.declared.commands.Command.TheVariants.{Post}
use Rattle.text_grammar.specs.declared.entries.Reference.TheVariants.{Fixed}
use Rattle.text_grammar.specs.declared.faults.LineFault.{LineFault}
use Rattle.text_grammar.specs.declared.faults.LineFault.TheVariants.{BadNumber, WrongNumberOfWords}
use Rattle.turn_ledger.specs.declared.entry.Entry.{Entry}
use Rattle.text_grammar.proofs.GrammarLemmas.{GoesOn, Word, filter_front, told_in_front}

-- every wrong word at a place of the form is a bad number
abbrev Numbers : List Field → Type 0
Numbers [] = Unit {0}
Numbers (Name name ∷ places) = Numbers places
Numbers (place ∷ places) = (told_as place ≡ BadNumber) × Numbers places

bad_number : (form : List Field) (words : List Word) (fault : LineFault) → Numbers form
    → has_names form words ≡ true
    → first_wrong form words ≡ Some fault → fault ≡ BadNumber
unfolding first_wrong takes
bad_number [] words fault numbers names h = absurd (none-some _ h)
bad_number (Name name ∷ places) [] fault numbers names h = absurd (none-some _ h)
bad_number (Name name ∷ places) (word ∷ words) fault numbers names h =
    let both = and_parts _ _ names in
    bad_number places words fault numbers both.1 (sym (cond-true _ _ _ both.0) ∙ h)
bad_number (place ∷ places) [] fault numbers names h = absurd (none-some _ h)
bad_number (place ∷ places) (word ∷ words) fault numbers names h =
    elim (cases_cond (takes place word) _ _ _ (sym h)) [
      | inl later ↦ bad_number places words fault numbers.1 names (sym later)
      | inr here ↦ same_Some _ _ here ∙ numbers.0
    ]

-- what is told of an entry's words is `found`, and with `post` and a station in front `more`
post_told : (s : Word) (rest : List Word) (found more : Option LineFault)
    → ((fault : LineFault) → found ≡ Some fault → more ≡ Some fault)
    → ((form : List Field) → Numbers form → has_names form rest ≡ true
    → GoesOn post_form rest (codes "post" ∷ s ∷ rest) found more form)
    → told_by entries rest ≡ found → line_fault (codes "post" ∷ s ∷ rest) ≡ more
unfolding line_fault
post_told s rest found more on each h =
    let longer : List Word = codes "post" ∷ s ∷ rest in
    let kept : List (List Field) = filter (λ form. has_names form rest) entries in
    let numbers = All-filter (λ form. has_names form rest) Numbers entries
    (All-from_recursion Numbers entries (
      (refl, (refl, tt)),
      ((refl, (refl, tt)), ((refl, (refl, (refl, tt))), ((refl, tt), tt))),
    )) in
    ap (λ (named : List (List Field)). told_of_named named longer)
    (filter_front post_form (λ form. has_names form rest) (λ form. has_names form longer)
    (λ form. refl) entries)
    ∙ told_in_front post_form rest longer found more (λ form. eqb-suc-suc _ _ ∙ eqb-suc-suc _ _) on
    kept
    (λ k d low. each _ (numbers k d low)
    (filter_passes (λ form. has_names form rest) entries k d low)) h

pub post_wrong : (s : Word) (rest : List Word) (fault : LineFault)
    → told_by entries rest ≡ Some fault → line_fault (codes "post" ∷ s ∷ rest) ≡ Some fault
unfolding first_wrong takes
post_wrong s rest fault h =
    post_told s rest (Some fault) (Some fault) (λ other e. e)
    (λ form numbers names e. cond_both (takes Number s) _ _ (λ o. o ≡ Some fault) (λ _. e)
    (λ _. ap (λ (f : LineFault). Some f) (sym (bad_number form rest fault numbers names e)))) h

pub station_wrong : (s : Word) (rest : List Word) → takes Number s ≡ false
    → told_by entries rest ≡ None → line_fault (codes "post" ∷ s ∷ rest) ≡ Some BadNumber
unfolding first_wrong takes
station_wrong s rest bad h =
    post_told s rest None (Some BadNumber) (λ fault e. absurd (none-some _ e))
    (λ form numbers names e. rw bad refl) h

pub nothing_wrong : (s : Word) (rest : List Word) → takes Number s ≡ true
    → told_by entries rest ≡ None → line_fault (codes "post" ∷ s ∷ rest) ≡ None
unfolding first_wrong takes
nothing_wrong s rest ok h =
    post_told s rest None None (λ fault e. e) (λ form numbers names e. rw ok e) h

pub spelled : (s : Word) (rest : List Word) (station line : ℕ) (entry : Entry)
    → takes Number s ≡ true → written Number s ≡ NumberIs station ∷ []
    → SpellsEntry (Fixed line) rest entry
    → Spells (codes "post" ∷ s ∷ rest) line (Post station entry)
unfolding Spells Fills first_wrong takes
spelled s rest station line entry ok value full = ((refl, rw ok refl, value), full)

pub no_station : line_fault (codes "post" ∷ []) ≡ Some WrongNumberOfWords
unfolding line_fault
no_station = refl

pub no_kind : (s : Word) → line_fault (codes "post" ∷ s ∷ []) ≡ Some WrongNumberOfWords
unfolding line_fault
no_kind s = refl

pub ruleset posts = (no_station, no_kind, post_wrong, station_wrong, nothing_wrong, spelled)
