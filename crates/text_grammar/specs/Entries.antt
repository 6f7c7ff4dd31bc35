-- The grammar of entries, which lines of scripts and of counters share.
use Rattle.std.specs.Prelude.{◌≡◌, ◌⊎◌, ℕ, Option, List, [], ◌∷◌, ◌++◌, codes, map}
use Rattle.text_grammar.specs.Places.{Field, Fills, Value, told_of_named, told_of_one}
use Rattle.text_grammar.specs.Places.{Account, Name, Number, NumberIs}
use Rattle.text_grammar.specs.declared.entries.Reference.{Reference}
use Rattle.text_grammar.specs.declared.entries.Reference.TheVariants.{Fixed, GivenOr}
use Rattle.text_grammar.specs.declared.faults.LineFault.{LineFault}
use Rattle.turn_ledger.specs.declared.entry.Entry.{Entry}
use Rattle.turn_ledger.specs.declared.entry.Entry.TheVariants.{Deposit, Withdraw, Transfer, Seal}

-- the form of each kind of entry, without its reference
abbrev pub deposit_entry : List Field
deposit_entry = Name (codes "deposit") ∷ Account ∷ Number ∷ []

abbrev pub withdraw_entry : List Field
withdraw_entry = Name (codes "withdraw") ∷ Account ∷ Number ∷ []

abbrev pub transfer_entry : List Field
transfer_entry = Name (codes "transfer") ∷ Account ∷ Account ∷ Number ∷ []

abbrev pub seal_entry : List Field
seal_entry = Name (codes "seal") ∷ Account ∷ []

-- the forms of all kinds
abbrev pub entries : List (List Field)
entries = deposit_entry ∷ withdraw_entry ∷ transfer_entry ∷ seal_entry ∷ []

-- the form of an entry with its reference behind it
abbrev pub with_reference : List Field → List Field
with_reference form = form ++ (Number ∷ [])

-- the forms where the reference may be given
abbrev pub entries_given : List (List Field)
entries_given = entries ++ map with_reference entries

-- the forms of entries with such a reference
abbrev pub entry_forms : Reference → List (List Field)
entry_forms (Fixed line) = entries
entry_forms (GivenOr line) = entries_given

-- what is wrong with words that have the names of an entry's form
abbrev pub told_of_entry : Reference → List Field → List (List ℕ) → Option LineFault
told_of_entry (Fixed line) form words = told_of_one form words
told_of_entry (GivenOr line) form words = told_of_named (form ∷ with_reference form ∷ []) words

-- the words fill an entry's form with these values and this reference: the one behind them, if one
-- may be given and is, and else the line's number
unfoldable pub FillsEntry : List (List ℕ) → List Field → List Value → Reference → ℕ → Type 0
FillsEntry words form these (Fixed line) reference = Fills words form these × (reference ≡ line)
FillsEntry words form these (GivenOr line) reference =
    (Fills words form these × (reference ≡ line))
    ⊎ Fills words (with_reference form) (these ++ (NumberIs reference ∷ []))

-- the words spell the entry, whose reference is fixed or may be given
unfoldable pub SpellsEntry : Reference → List (List ℕ) → Entry → Type 0
SpellsEntry by words (Deposit to amount reference) =
    FillsEntry words deposit_entry (NumberIs to ∷ NumberIs amount ∷ []) by reference
SpellsEntry by words (Withdraw from amount reference) =
    FillsEntry words withdraw_entry (NumberIs from ∷ NumberIs amount ∷ []) by reference
SpellsEntry by words (Transfer from to amount reference) =
    FillsEntry words transfer_entry (NumberIs from ∷ NumberIs to ∷ NumberIs amount ∷ []) by
    reference
SpellsEntry by words (Seal account reference) =
    FillsEntry words seal_entry (NumberIs account ∷ []) by reference
