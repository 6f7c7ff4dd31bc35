-- What is told of a line that begins with this name.
use Rattle.std.proofs.Common.{◌≡◌, true, None, List, [], ◌∷◌, codes}
use Rattle.text_grammar.specs.Entries.{entry_forms, told_of_entry, with_reference}
use Rattle.text_grammar.specs.Grammar.{line_fault}
use Rattle.text_grammar.specs.Places.{is_skipped, told_by, told_of_one}
use Rattle.text_grammar.specs.Places.{Account, BitText, Moves, Number, Slots}
use Rattle.text_grammar.specs.Requests.{request_fault, request_forms}
use Rattle.text_grammar.specs.declared.entries.Reference.{Reference}
use Rattle.text_grammar.specs.declared.entries.Reference.TheVariants.{Fixed, GivenOr}
use Rattle.text_grammar.proofs.EntryLemmas.{entry_named}
use Rattle.text_grammar.proofs.GrammarLemmas.{Word, behind, fills_named, skipped}

pub format_told : (words : List Word)
    → line_fault (codes "format" ∷ words) ≡ told_of_one (Slots ∷ []) words
unfolding line_fault
format_told words = behind (codes "format") ((Slots ∷ []) ∷ []) words

pub open_told : (words : List Word)
    → line_fault (codes "open" ∷ words) ≡ told_of_one (Number ∷ BitText ∷ BitText ∷ []) words
unfolding line_fault
open_told words = behind (codes "open") ((Number ∷ BitText ∷ BitText ∷ []) ∷ []) words

pub turn_told : (words : List Word)
    → line_fault (codes "turn" ∷ words) ≡ told_of_one (Number ∷ []) words
unfolding line_fault
turn_told words = behind (codes "turn") ((Number ∷ []) ∷ []) words

pub bits_told : (words : List Word) → line_fault (codes "bits" ∷ words) ≡ told_of_one [] words
unfolding line_fault
bits_told words = behind (codes "bits") ([] ∷ []) words

pub balances_told : (words : List Word)
    → line_fault (codes "balances" ∷ words) ≡ told_of_one [] words
unfolding line_fault
balances_told words = behind (codes "balances") ([] ∷ []) words

pub crash_told : (words : List Word) → line_fault (codes "crash" ∷ words) ≡ told_of_one [] words
unfolding line_fault
crash_told words = behind (codes "crash") ([] ∷ []) words

pub day_told : (words : List Word)
    → line_fault (codes "day" ∷ words) ≡ told_of_one (Moves ∷ []) words
unfolding line_fault
day_told words = behind (codes "day") ((Moves ∷ []) ∷ []) words

pub balance_told : (words : List Word)
    → request_fault (codes "balance" ∷ words) ≡ told_of_one (Account ∷ []) words
unfolding request_fault
balance_told words = behind (codes "balance") ((Account ∷ []) ∷ []) words

pub find_told : (words : List Word)
    → request_fault (codes "find" ∷ words) ≡ told_of_one (Number ∷ []) words
unfolding request_fault
find_told words = behind (codes "find") ((Number ∷ []) ∷ []) words

pub last_told : (words : List Word) → request_fault (codes "last" ∷ words) ≡ told_of_one [] words
unfolding request_fault
last_told words = behind (codes "last") ([] ∷ []) words

pub first_told : (words : List Word)
    → request_fault (codes "first" ∷ words) ≡ told_of_one (Number ∷ []) words
unfolding request_fault
first_told words = behind (codes "first") ((Number ∷ []) ∷ []) words

pub hello_told : (words : List Word)
    → request_fault (codes "hello" ∷ words) ≡ told_of_one (Number ∷ []) words
unfolding request_fault
hello_told words = behind (codes "hello") ((Number ∷ []) ∷ []) words

pub copy_told : (words : List Word) → request_fault (codes "copy" ∷ words) ≡ told_of_one [] words
unfolding request_fault
copy_told words = behind (codes "copy") ([] ∷ []) words

pub archive_told : (words : List Word)
    → request_fault (codes "archive" ∷ words) ≡ told_of_one [] words
unfolding request_fault
archive_told words = behind (codes "archive") ([] ∷ []) words

pub status_told : (words : List Word)
    → request_fault (codes "status" ∷ words) ≡ told_of_one [] words
unfolding request_fault
status_told words = behind (codes "status") ([] ∷ []) words

pub name_told : (words : List Word) → request_fault (codes "name" ∷ words) ≡ told_of_one [] words
unfolding request_fault
name_told words = behind (codes "name") ([] ∷ []) words

pub help_told : (words : List Word) → request_fault (codes "help" ∷ words) ≡ told_of_one [] words
unfolding request_fault
help_told words = behind (codes "help") ([] ∷ []) words

pub close_told : (words : List Word) → request_fault (codes "close" ∷ words) ≡ told_of_one [] words
unfolding request_fault
close_told words = behind (codes "close") ([] ∷ []) words

-- nothing is wrong with a counter's line that says nothing
pub skipped_request : (words : List Word) → is_skipped words ≡ true → request_fault words ≡ None
unfolding request_fault
skipped_request words e = skipped request_forms words e

pub deposit_told : (by : Reference) (words : List Word)
    → told_by (entry_forms by) (codes "deposit" ∷ words)
    ≡ told_of_entry by (Account ∷ Number ∷ []) words
deposit_told (Fixed line) words = behind (codes "deposit") ((Account ∷ Number ∷ []) ∷ []) words
deposit_told (GivenOr line) words =
    behind (codes "deposit") ((Account ∷ Number ∷ []) ∷ with_reference (Account ∷ Number ∷ []) ∷ [])
    words

pub withdraw_told : (by : Reference) (words : List Word)
    → told_by (entry_forms by) (codes "withdraw" ∷ words)
    ≡ told_of_entry by (Account ∷ Number ∷ []) words
withdraw_told (Fixed line) words = behind (codes "withdraw") ((Account ∷ Number ∷ []) ∷ []) words
withdraw_told (GivenOr line) words =
    behind (codes "withdraw")
    ((Account ∷ Number ∷ []) ∷ with_reference (Account ∷ Number ∷ []) ∷ []) words

pub transfer_told : (by : Reference) (words : List Word)
    → told_by (entry_forms by) (codes "transfer" ∷ words)
    ≡ told_of_entry by (Account ∷ Account ∷ Number ∷ []) words
transfer_told (Fixed line) words =
    behind (codes "transfer") ((Account ∷ Account ∷ Number ∷ []) ∷ []) words
transfer_told (GivenOr line) words =
    behind (codes "transfer")
    ((Account ∷ Account ∷ Number ∷ []) ∷ with_reference (Account ∷ Account ∷ Number ∷ []) ∷ [])
    words

pub seal_told : (by : Reference) (words : List Word)
    → told_by (entry_forms by) (codes "seal" ∷ words) ≡ told_of_entry by (Account ∷ []) words
seal_told (Fixed line) words = behind (codes "seal") ((Account ∷ []) ∷ []) words
seal_told (GivenOr line) words =
    behind (codes "seal") ((Account ∷ []) ∷ with_reference (Account ∷ []) ∷ []) words

-- what each of the two grammars knows of its names, and that of entries
pub ruleset commands =
    (format_told, open_told, turn_told, bits_told, balances_told, crash_told, day_told, fills_named)

pub ruleset requests = (
  balance_told,
  find_told,
  last_told,
  first_told,
  hello_told,
  copy_told,
  archive_told,
  status_told,
  name_told,
  help_told,
  close_told,
  fills_named,
)

pub ruleset kinds = (deposit_told, withdraw_told, transfer_told, seal_told, entry_named)
