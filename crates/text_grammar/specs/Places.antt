-- What stands at the places of a line: forms, what is wrong with words that should fill one, and
-- the values that they write.
use Rattle.std.specs.Prelude.{◌≡◌, ℕ, ◌^◌, Bool, true, ◌&&◌, Option, None, Some, Result, Ok, Err}
use Rattle.std.specs.Prelude.{if◌then◌else◌, List, [], ◌∷◌, ◌++◌, ◌==◌, drop, filter, length}
use Rattle.std.specs.Prelude.{nat_lt, bytes_eq, slice_index}
use Rattle.std.specs.Str.Parse.{digits_value}
use Rattle.text_grammar.specs.Script.{bits_written, is_bit_text, is_number}
use Rattle.text_grammar.specs.declared.faults.LineFault.{LineFault}
use Rattle.text_grammar.specs.declared.faults.LineFault.TheVariants.{UnknownCommand}
use Rattle.text_grammar.specs.declared.faults.LineFault.TheVariants.{WrongNumberOfWords, BadNumber}
use Rattle.text_grammar.specs.declared.faults.LineFault.TheVariants.{BadBits}

-- what stands at one place of a line: a name, a number above zero, a number, a number below 2^32,
-- bits, or a number from 1 to 100,000
pub data Field : Type 0 where
  Name : List ℕ → Field
  Slots : Field
  Number : Field
  Account : Field
  BitText : Field
  Moves : Field

-- whether the word may stand at the place
unfoldable pub takes : Field → List ℕ → Bool
takes (Name name) word = bytes_eq word name
takes Slots word = is_number word && nat_lt 0 (digits_value 10 word)
takes Number word = is_number word
takes Account word = is_number word && nat_lt (digits_value 10 word) (2 ^ 32)
takes BitText word = is_bit_text word
takes Moves word =
    is_number word && nat_lt 0 (digits_value 10 word) && nat_lt (digits_value 10 word) 100001

-- what a wrong word at the place is reported as
abbrev pub told_as : Field → LineFault
told_as (Name name) = UnknownCommand
told_as BitText = BadBits
told_as _ = BadNumber

-- what a word writes at a place: a number, or bits
pub data Value : Type 0 where
  NumberIs : ℕ → Value
  BitsAre : List Bool → Value

-- the values that the word writes at the place: one, or none at the place of a name
abbrev pub written : Field → List ℕ → List Value
written (Name name) word = []
written BitText word = BitsAre (bits_written word) ∷ []
written _ word = NumberIs (digits_value 10 word) ∷ []

-- whether the words have the names of the form, as far as they go
abbrev pub has_names : List Field → List (List ℕ) → Bool
has_names (Name name ∷ places) (word ∷ words) = bytes_eq word name && has_names places words
has_names (_ ∷ places) words = has_names places (drop 1 words)
has_names [] words = true

-- what the first word that may not stand at its place is reported as
unfoldable pub first_wrong : List Field → List (List ℕ) → Option LineFault
first_wrong (place ∷ places) (word ∷ words) =
    if takes place word then first_wrong places words else Some (told_as place)
first_wrong _ _ = None

-- the values that words write at the places of a form
abbrev pub values : List Field → List (List ℕ) → List Value
values (place ∷ places) (word ∷ words) = written place word ++ values places words
values _ _ = []

-- what is told of words, of the forms whose names they have and of those of them that are as long
abbrev pub told_of : List (List Field) → List (List Field) → List (List ℕ) → Option LineFault
told_of [] _ words = Some UnknownCommand
told_of _ [] words = Some WrongNumberOfWords
told_of _ (form ∷ _) words = first_wrong form words

-- what is told of words that have the names of all these forms
abbrev pub told_of_named : List (List Field) → List (List ℕ) → Option LineFault
told_of_named named words = told_of named (filter (λ form. length form == length words) named) words

-- what is told of words that may have one of these forms
abbrev pub told_by : List (List Field) → List (List ℕ) → Option LineFault
told_by table words = told_of_named (filter (λ form. has_names form words) table) words

-- what is told of words whose names, or the lack of them, leave this form alone
abbrev pub told_of_one : List Field → List (List ℕ) → Option LineFault
told_of_one form words = told_of_named (form ∷ []) words

-- a line that says nothing: it has no words, or is a comment
abbrev pub is_skipped : List (List ℕ) → Bool
is_skipped [] = true
is_skipped (name ∷ _) = slice_index name 0 == 35

-- what is wrong with a line of these words, which may have one of these forms; the first that holds
abbrev pub fault_by : List (List Field) → List (List ℕ) → Option LineFault
fault_by table words = if is_skipped words then None else told_by table words

-- the words fill the form with these values: there are as many as places, each may stand at its
-- place and writes this
unfoldable pub Fills : List (List ℕ) → List Field → List Value → Type 0
Fills words form these =
    (length words ≡ length form) × (first_wrong form words ≡ None) × (values form words ≡ these)

-- the first words write these values at the places of the form, and the other words are left
abbrev pub AreTaken : List Field → List Value → List (List ℕ) → List (List ℕ) → Type 0
AreTaken form these words left = (values form words ≡ these) × (left ≡ drop (length form) words)

-- what reading a line answers: what is wrong with it, or else what its words spell
abbrev pub IsAnswer : {T : Type 0} → Option LineFault → (T → Type 0) → Result T LineFault → Type 0
IsAnswer wrong Spelled (Err fault) = wrong ≡ Some fault
IsAnswer wrong Spelled (Ok this) = (wrong ≡ None) × Spelled this
