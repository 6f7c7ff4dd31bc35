-- The grammar of the lines that a counter says: its forms, what is wrong with a line, and the
-- request that its words spell.
use Rattle.std.specs.Prelude.{ℕ, Option, Result, List, [], ◌∷◌, ◌++◌, codes}
use Rattle.text_grammar.specs.Entries.{SpellsEntry, entries_given}
use Rattle.text_grammar.specs.Places.{Field, Fills, IsAnswer, fault_by}
use Rattle.text_grammar.specs.Places.{Account, Name, Number, NumberIs}
use Rattle.text_grammar.specs.declared.entries.Reference.TheVariants.{GivenOr}
use Rattle.text_grammar.specs.declared.faults.LineFault.{LineFault}
use Rattle.text_grammar.specs.declared.requests.Request.{Request}
use Rattle.text_grammar.specs.declared.requests.Request.TheVariants.{Post, Balance, Find, Last}
use Rattle.text_grammar.specs.declared.requests.Request.TheVariants.{First, Hello, Copy, Archive}
use Rattle.text_grammar.specs.declared.requests.Request.TheVariants.{Status, Help, Close}
use Rattle.text_grammar.specs.declared.requests.Request.TheVariants as request

-- the form of each request but entries
abbrev pub balance_request : List Field
balance_request = Name (codes "balance") ∷ Account ∷ []

abbrev pub find_request : List Field
find_request = Name (codes "find") ∷ Number ∷ []

abbrev pub last_request : List Field
last_request = Name (codes "last") ∷ []

abbrev pub first_request : List Field
first_request = Name (codes "first") ∷ Number ∷ []

abbrev pub hello_request : List Field
hello_request = Name (codes "hello") ∷ Number ∷ []

abbrev pub copy_request : List Field
copy_request = Name (codes "copy") ∷ []

abbrev pub archive_request : List Field
archive_request = Name (codes "archive") ∷ []

abbrev pub status_request : List Field
status_request = Name (codes "status") ∷ []

abbrev pub name_request : List Field
name_request = Name (codes "name") ∷ []

abbrev pub help_request : List Field
help_request = Name (codes "help") ∷ []

abbrev pub close_request : List Field
close_request = Name (codes "close") ∷ []

-- the forms of a counter's lines
abbrev pub request_forms : List (List Field)
request_forms =
    entries_given ++ (balance_request ∷ find_request ∷ last_request ∷ first_request ∷ hello_request
    ∷ copy_request ∷ archive_request ∷ status_request ∷ name_request
    ∷ help_request ∷ close_request ∷ [])

-- what is wrong with a counter's line of these words, the first that holds
unfoldable pub request_fault : List (List ℕ) → Option LineFault
request_fault words = fault_by request_forms words

-- the words spell the request; an entry without a reference has reference 0
unfoldable pub SpellsRequest : List (List ℕ) → Request → Type 0
SpellsRequest words (Post entry) = SpellsEntry (GivenOr 0) words entry
SpellsRequest words (Balance account) = Fills words balance_request (NumberIs account ∷ [])
SpellsRequest words (Find reference) = Fills words find_request (NumberIs reference ∷ [])
SpellsRequest words Last = Fills words last_request []
SpellsRequest words (First reference) = Fills words first_request (NumberIs reference ∷ [])
SpellsRequest words (Hello number) = Fills words hello_request (NumberIs number ∷ [])
SpellsRequest words Copy = Fills words copy_request []
SpellsRequest words Archive = Fills words archive_request []
SpellsRequest words Status = Fills words status_request []
SpellsRequest words request.Name = Fills words name_request []
SpellsRequest words Help = Fills words help_request []
SpellsRequest words Close = Fills words close_request []

-- what reading a counter's line of these words answers
unfoldable pub IsRequestRead : List (List ℕ) → Result Request LineFault → Type 0
IsRequestRead words answer = IsAnswer (request_fault words) (SpellsRequest words) answer
