-- A name among the names of counters.
use Rattle.std.specs.Prelude.{◌≡◌, ◌<◌, ◌≤◌, ℕ, zero, suc, List, [], ◌∷◌, true, false, Some, map}
use Rattle.std.specs.Prelude.{length, slice_get, bytes_eq, string_bytes, HoldsAt, All, Contains}
use Rattle.std.specs.List.{AllByRecursion, slice_index_or}
use Rattle.std.proofs.Common.{String, Global, arith, ap}
use Rattle.std.proofs.lemmas.Bool.Decides.{not_from_Decides}
use Rattle.std.proofs.lemmas.Slice.Eq.{bytes_eq-Decides}
use Rattle.std.proofs.lemmas.List.Elements.{recursion_from_All}

-- the bytes of each
abbrev pub texts : List (String Global) → List (List ℕ)
texts names = map (λ one. string_bytes one) names

-- it stands where it was found
pub named_at : (names : List (String Global)) (name : List ℕ) (place : ℕ) → place < length names
    → HoldsAt (λ one. bytes_eq (string_bytes one) name ≡ true) names place
    → slice_get (texts names) place ≡ Some name
named_at [] name place within found = absurd (omega (arith, within))
named_at (x ∷ xs) name zero within found =
    ap Some ((bytes_eq-Decides (string_bytes x) name).0 (found x))
named_at (x ∷ xs) name (suc place) within found =
    named_at xs name place (omega (arith, within)) found

-- none of these has it
lacks_by_recursion : (names : List (String Global)) (name : List ℕ)
    → AllByRecursion (λ one. bytes_eq (string_bytes one) name ≡ false) names
    → (place : ℕ) → place < length (texts names) → slice_index_or (texts names) place name ≡ name
    → ⊥
lacks_by_recursion [] name none place within found = omega (arith, within)
lacks_by_recursion (x ∷ xs) name none zero within found =
    not_from_Decides _ (bytes_eq-Decides (string_bytes x) name) none.0 found
lacks_by_recursion (x ∷ xs) name none (suc place) within found =
    lacks_by_recursion xs name none.1 place (omega (arith, within)) found

pub lacks : (names : List (String Global)) (name : List ℕ)
    → All (λ one. bytes_eq (string_bytes one) name ≡ false) names → Contains (texts names) name → ⊥
lacks names name none found =
    lacks_by_recursion names name (recursion_from_All _ names none) found.0 found.1 found.2
