-- The grammar of a script's lines: its forms, what is wrong with a line, and the command that its
-- words spell.
use Rattle.std.specs.Prelude.{ℕ, Option, Result, List, [], ◌∷◌, ◌++◌, codes, drop, map, take}
use Rattle.std.specs.Int.NonZero.{non_zero_u64_get}
use Rattle.text_grammar.specs.Bits.{bits_of}
use Rattle.text_grammar.specs.Entries.{SpellsEntry, entries}
use Rattle.text_grammar.specs.Places.{Field, Fills, IsAnswer, fault_by}
use Rattle.text_grammar.specs.Places.{BitText, BitsAre, Moves, Name, Number, NumberIs, Slots}
use Rattle.text_grammar.specs.declared.commands.Command.{Command}
use Rattle.text_grammar.specs.declared.commands.Command.TheVariants.{Format, Open, Post, Turn, Bits}
use Rattle.text_grammar.specs.declared.commands.Command.TheVariants.{Balances, Crash, Day}
use Rattle.text_grammar.specs.declared.entries.Reference.TheVariants.{Fixed}
use Rattle.text_grammar.specs.declared.faults.LineFault.{LineFault}

-- the form of each command; `post` and a station stand in front of an entry
abbrev pub format_form : List Field
format_form = Name (codes "format") ∷ Slots ∷ []

abbrev pub open_form : List Field
open_form = Name (codes "open") ∷ Number ∷ BitText ∷ BitText ∷ []

abbrev pub post_places : List Field
post_places = Name (codes "post") ∷ Number ∷ []

abbrev pub post_form : List Field → List Field
post_form entry = post_places ++ entry

abbrev pub turn_form : List Field
turn_form = Name (codes "turn") ∷ Number ∷ []

abbrev pub bits_form : List Field
bits_form = Name (codes "bits") ∷ []

abbrev pub balances_form : List Field
balances_form = Name (codes "balances") ∷ []

abbrev pub crash_form : List Field
crash_form = Name (codes "crash") ∷ []

abbrev pub day_form : List Field
day_form = Name (codes "day") ∷ Moves ∷ []

-- the forms of a script's lines
abbrev pub forms : List (List Field)
forms =
    map post_form entries
    ++ (format_form ∷ open_form ∷ turn_form ∷ bits_form ∷ balances_form ∷ crash_form ∷ day_form
    ∷ [])

-- what is wrong with a script's line of these words, the first that holds
unfoldable pub line_fault : List (List ℕ) → Option LineFault
line_fault words = fault_by forms words

-- the words of the line of this number spell the command; an entry's reference is that number
unfoldable pub Spells : List (List ℕ) → ℕ → Command → Type 0
Spells words line (Format slots) = Fills words format_form (NumberIs (non_zero_u64_get slots) ∷ [])
Spells words line (Open stations x up) =
    Fills words open_form (NumberIs stations ∷ BitsAre (bits_of x) ∷ BitsAre (bits_of up) ∷ [])
Spells words line (Post station entry) =
    Fills (take 2 words) post_places (NumberIs station ∷ [])
    × SpellsEntry (Fixed line) (drop 2 words) entry
Spells words line (Turn station) = Fills words turn_form (NumberIs station ∷ [])
Spells words line Bits = Fills words bits_form []
Spells words line Balances = Fills words balances_form []
Spells words line Crash = Fills words crash_form []
Spells words line (Day moves) = Fills words day_form (NumberIs moves ∷ [])

-- what reading a script's line of these words answers
unfoldable pub IsRead : List (List ℕ) → ℕ → Result Command LineFault → Type 0
IsRead words line answer = IsAnswer (line_fault words) (Spells words line) answer
