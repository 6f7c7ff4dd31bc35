-- What is told of the lines of a script, as they run one after another.
use Rattle.std.proofs.Common.{◌≡◌, ◌+◌, ◌-◌, ◌^◌, ◌≤◌, ◌==◌, ◌∙◌, ℕ, Bool, true, false, Option}
use Rattle.std.proofs.Common.{Some, None, List, [], ◌∷◌, length, min, ap, arith, if◌then◌else◌}
use Rattle.std.specs.List.{slice_split}
use Rattle.std.specs.Str.Lines.{lines, lines_of_parts}
use Rattle.std.proofs.lemmas.List.Splits.{length-slice_split}
use Rattle.std.proofs.lemmas.List.Sums.{count_by-le-length}
use Rattle.text_grammar.specs.Grammar.{line_fault}
use Rattle.text_grammar.specs.Script.{words_of}
use Rattle.text_grammar.specs.declared.faults.LineFault.{LineFault}
use Rattle.front_scripts.specs.declared.faults.ScriptFault.TheVariants.{Line}
use Rattle.front_scripts.specs.Lines.{first_fault, this_or_later}

one_at_most : (part : List ℕ) (b : Bool) → length (if b then [] else part ∷ []) ≤ 1
one_at_most part true = omega arith
one_at_most part false = omega arith

no_more_than_parts : (parts : List (List ℕ)) → length (lines_of_parts parts) ≤ length parts
no_more_than_parts [] = omega arith
no_more_than_parts (part ∷ []) = one_at_most part (length part == 0)
no_more_than_parts (part ∷ other ∷ more) = omega (arith, no_more_than_parts (other ∷ more))

-- a line for each byte at most, and one
length-lines : (bytes : List ℕ) → length (lines bytes) ≤ length bytes + 1
length-lines bytes =
    let parts = no_more_than_parts (slice_split (λ b. b == 10) bytes) in
    omega (
      arith,
      parts,
      length-slice_split (λ b. b == 10) bytes,
      count_by-le-length (λ b. b == 10) bytes,
    )

-- a line's number is the one that was counted, since a script has fewer lines than a u64 can count
number_of : (script : List ℕ) (before number : ℕ) (left : List (List ℕ)) (line : List ℕ)
    (more : List (List ℕ)) → length script ≤ 16777216
    → before + length left ≡ length (lines script) → left ≡ line ∷ more
    → number ≡ min (before + 1) (2 ^ 64 - 1) → before + 1 ≡ number
number_of script before number left line more short counted parts next =
    let one_less : length left ≡ length (line ∷ more) = ap length parts in
    omega (arith, one_less, length-lines script, short, counted, next)

-- a wrong line is the first wrong one of those that begin with it
wrong_here : (number : ℕ) (left : List (List ℕ)) (line : List ℕ) (more : List (List ℕ))
    (cause : LineFault)
    → left ≡ line ∷ more → line_fault (words_of line) ≡ Some cause
    → first_fault number left ≡ Some (Line number cause)
wrong_here number left line more cause parts wrong =
    ap (first_fault number) parts
    ∙ ap (λ (told : Option LineFault).
    this_or_later number told (first_fault (number + 1) more)) wrong

-- behind a line that isn't, it is that of the later lines
right_here : (number : ℕ) (left : List (List ℕ)) (line : List ℕ) (more : List (List ℕ))
    → left ≡ line ∷ more → line_fault (words_of line) ≡ None
    → first_fault number left ≡ first_fault (number + 1) more
right_here number left line more parts right =
    ap (first_fault number) parts
    ∙ ap (λ (told : Option LineFault).
    this_or_later number told (first_fault (number + 1) more)) right

-- Lines of a script that are left, where no line before them is wrong and so many stand before
-- them.
pub record AreLeft (script : List ℕ) (before : ℕ) (left : List (List ℕ)) : Type 0 where
  pub ahead : first_fault 1 (lines script) ≡ first_fault (before + 1) left
  pub counted : before + length left ≡ length (lines script)

-- the line is the next one of those that are left, with that number
pub record IsNextLine (script : List ℕ) (before number : ℕ) (left : List (List ℕ)) (line : List ℕ)
    (more : List (List ℕ)) : Type 0 where
  pub short : length script ≤ 16777216
  pub are : AreLeft script before left
  pub parts : left ≡ line ∷ more
  pub next : number ≡ min (before + 1) (2 ^ 64 - 1)

-- it is wrong
pub wrong_line : (script : List ℕ) (before number : ℕ) (left : List (List ℕ)) (line : List ℕ)
    (more : List (List ℕ)) (cause : LineFault)
    → IsNextLine script before number left line more → line_fault (words_of line) ≡ Some cause
    → first_fault 1 (lines script) ≡ Some (Line number cause)
wrong_line script before number left line more cause is wrong =
    is.are.ahead ∙ wrong_here (before + 1) left line more cause is.parts wrong
    ∙ ap (λ (n : ℕ). Some (Line n cause))
    (number_of script before number left line more is.short is.are.counted is.parts is.next)

-- it isn't
pub right_line : (script : List ℕ) (before number : ℕ) (left : List (List ℕ)) (line : List ℕ)
    (more : List (List ℕ))
    → IsNextLine script before number left line more → line_fault (words_of line) ≡ None
    → AreLeft script number more
right_line script before number left line more is right =
    let numbered = number_of script before number left line more is.short is.are.counted is.parts
    is.next in
    let one_less : length left ≡ length (line ∷ more) = ap length is.parts in
    record {
      ahead = is.are.ahead ∙ right_here (before + 1) left line more is.parts right
          ∙ ap (λ (n : ℕ). first_fault (n + 1) more) numbered;
      counted = omega (arith, one_less, numbered, is.are.counted);
    }
