-- The tests of words, as facts.
use Rattle.std.proofs.Common.{◌≡◌, ℕ, ◌<◌, ◌^◌, Bool, List, [], ◌∷◌, length, ◌==◌, ◌||◌, ◌⊎◌, refl}
use Rattle.std.specs.Bool.{Decides}
use Rattle.std.specs.List.{All, list_all}
use Rattle.std.specs.Char.{digit_value, is_digit}
use Rattle.std.specs.Str.Parse.{AllDigits, IsNumeral, digits_value}
use Rattle.std.proofs.lemmas.Bool.Decides.{Decides-and, Decides-or, Decides-eqb, Decides-ltb}
use Rattle.std.proofs.lemmas.Bool.Decides.{Decides-by_and}
use Rattle.text_grammar.specs.Script.{is_bit_text, is_number}

abbrev is_bit : ℕ → Bool
is_bit byte = (byte == 48) || (byte == 49)

bit : (byte : ℕ) → Decides (is_bit byte) ((byte ≡ 48) ⊎ (byte ≡ 49))
bit byte = Decides-or (byte == 48) (byte == 49) (Decides-eqb byte 48) (Decides-eqb byte 49)

pub bit_text : (word : List ℕ)
    → Decides (is_bit_text word) ((0 < length word) × All (λ byte. (byte ≡ 48) ⊎ (byte ≡ 49)) word)
bit_text word =
    Decides-and _ _ (Decides-ltb 0 (length word))
    (Decides-by_and is_bit (λ byte. (byte ≡ 48) ⊎ (byte ≡ 49)) (list_all is_bit) bit refl
    (λ _ _. refl) word)

digits : (word : List ℕ) → Decides (list_all (λ byte. is_digit byte 10) word) (AllDigits 10 word)
digits [] = (λ _. tt, λ _. refl)
digits (byte ∷ word) = Decides-and _ _ (Decides-ltb (digit_value byte) 10) (digits word)

pub numeral : (word : List ℕ)
    → Decides (is_number word) (IsNumeral 10 word × (digits_value 10 word < 2 ^ 64))
numeral word =
    Decides-and _ _ (Decides-and _ _ (Decides-ltb 0 (length word)) (digits word))
    (Decides-ltb (digits_value 10 word) (2 ^ 64))
