-- Two texts are the same, or not.
use Rattle.std.proofs.Common.{◌≡◌, ◌⊎◌, inl, inr, ℕ, List, Bool, true, false, Decides, refl}
use Rattle.std.specs.Prelude.{bytes_eq}
use Rattle.std.proofs.lemmas.Bool.{false≢true}
use Rattle.std.proofs.lemmas.Slice.Eq.{bytes_eq-Decides}

decided : (r : Bool) (P : Type 0) → Decides r P → P ⊎ (P → ⊥)
decided true P tells = inl (tells.0 refl)
decided false P tells = inr (λ p. absurd (false≢true (tells.1 p)))

pub same_or_not : (a b : List ℕ) → (a ≡ b) ⊎ (a ≡ b → ⊥)
same_or_not a b = decided (bytes_eq a b) (a ≡ b) (bytes_eq-Decides a b)
