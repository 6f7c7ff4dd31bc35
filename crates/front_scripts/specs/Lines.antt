-- Which line of a script is wrong.
use Rattle.std.specs.Prelude.{ℕ, ◌+◌, Option, None, Some, List, [], ◌∷◌}
use Rattle.text_grammar.specs.Grammar.{line_fault}
use Rattle.text_grammar.specs.Script.{words_of}
use Rattle.text_grammar.specs.declared.faults.LineFault.{LineFault}
use Rattle.front_scripts.specs.declared.faults.ScriptFault.{ScriptFault}
use Rattle.front_scripts.specs.declared.faults.ScriptFault.TheVariants.{Line}

-- the fault of the line of this number, or else that of a later line
abbrev pub this_or_later : ℕ → Option LineFault → Option ScriptFault → Option ScriptFault
this_or_later number (Some cause) later = Some (Line number cause)
this_or_later number None later = later

-- the fault of the first line that is none of the grammar, where the first one of these lines has
-- this number
abbrev pub first_fault : ℕ → List (List ℕ) → Option ScriptFault
first_fault number [] = None
first_fault number (line ∷ more) =
    this_or_later number (line_fault (words_of line)) (first_fault (number + 1) more)
