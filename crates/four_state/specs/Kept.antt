-- A line's configuration gives back how it is kept.
use Rattle.std.specs.Prelude.{◌≡◌, ℕ, List}
use Rattle.std.proofs.Common.{ap, ◌∙◌}
use Rattle.four_state.specs.Configuration.{Configuration, stations}
use Rattle.four_state.specs.Words.{words_of, shown, IsKept}
use Rattle.four_state.specs.declared.lines.Line.TheInside.{Inside}

-- a line as it is kept
abbrev pub inside : ℕ → List ℕ → Inside
inside n words = record { stations = n; words = words }

abbrev pub kept : Configuration → Inside
kept c = inside (stations c) (words_of c)

-- what is shown of a line gives back how it is kept
pub kept-shown : (a : Inside) → IsKept a.stations a.words → kept (shown a.stations a.words) ≡ a
kept-shown a k =
    ap (λ (n : ℕ). inside n (words_of (shown a.stations a.words))) k.number
    ∙ ap (inside a.stations) k.same_words
