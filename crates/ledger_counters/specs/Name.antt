-- What a counter may be called.
use Rattle.std.specs.Prelude.{◌≡◌, ◌⊎◌, ◌<◌, ◌≤◌, ℕ, List, All, length}

-- from this byte to that one
abbrev pub IsFromTo : ℕ → ℕ → ℕ → Type 0
IsFromTo first last byte = (first ≤ byte) × (byte ≤ last)

-- a letter or a digit of ASCII, - or _
abbrev pub IsNameByte : ℕ → Type 0
IsNameByte byte =
    IsFromTo 48 57 byte ⊎ IsFromTo 65 90 byte ⊎ IsFromTo 97 122 byte ⊎ (byte ≡ 45) ⊎ (byte ≡ 95)

-- 1 to 64 of them
pub record IsName (text : List ℕ) : Type 0 where
  pub some : 0 < length text
  pub most : length text ≤ 64
  pub each : All IsNameByte text
