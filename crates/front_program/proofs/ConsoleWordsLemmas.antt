-- What the program's words ask for, where there is no word but the program's name.
use Rattle.std.proofs.Common.{◌≡◌, ◌∙◌, ℕ, List, [], ◌∷◌, true, Option, Some, None, length, arith}
use Rattle.std.proofs.Common.{refl, sym, ap, codes}
use Rattle.std.specs.Str.Parse.{digits_value, without_leading_plus}
use Rattle.clap.specs.Words.{Text, is_simple, matches_of, first_of, one_of}
use Rattle.clap.proofs.OnLiterals.{clap_on_literals}
use Rattle.front_program.specs.ConsoleWords.{AskForSectors, AskForDevice, console}

pub console_is_simple : is_simple console ≡ true
unfolding clap_on_literals
console_is_simple = refl

default_text : (name : Text)
    → one_of (codes "sectors") (matches_of console (name ∷ [])) ≡ Some (codes "64")
unfolding clap_on_literals
default_text name = refl

pub default_sectors : (words : List Text) (sectors : ℕ) → length words ≡ 1
    → AskForSectors words sectors → sectors ≡ 64
default_sectors [] sectors one asked = absurd (omega arith)
default_sectors (name ∷ []) sectors one asked =
    let same : Some asked.0 ≡ Some (codes "64") = sym asked.1 ∙ default_text name in
    let text : asked.0 ≡ codes "64" = cc in
    asked.2 ∙ ap (λ (t : Text). digits_value 10 (without_leading_plus t)) text
default_sectors (name ∷ word ∷ more) sectors one asked = absurd (omega arith)

no_device : (name : Text) → first_of (codes "device") (matches_of console (name ∷ [])) ≡ None
unfolding clap_on_literals
no_device name = refl

pub default_device : (words : List Text) (device : Option Text) → length words ≡ 1
    → AskForDevice words device → device ≡ None
default_device [] device one asked = absurd (omega arith)
default_device (name ∷ []) device one asked = asked ∙ no_device name
default_device (name ∷ word ∷ more) device one asked = absurd (omega arith)
