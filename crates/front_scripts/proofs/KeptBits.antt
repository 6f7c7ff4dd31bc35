-- The first 65 of a line's bits tell how many there are, and are all of them.
use Rattle.std.specs.Prelude.{◌≢◌, Result, Ok, Err, IfOk, IsOk}
use Rattle.std.proofs.Common.{◌≡◌, ◌≤◌, ◌⊎◌, ◌↔◌, ◌∙◌, ℕ, Bool, List, length, take}
use Rattle.std.proofs.Common.{inl, inr, ⊎_elim, arith, refl, ap}
use Rattle.std.proofs.lemmas.List.{length-take, take_all}
use Rattle.four_state.specs.Configuration.{Configuration}
use Rattle.four_state.specs.declared.refusals.LineRefusal.{LineRefusal}
use Rattle.front_scripts.specs.Clerk.{line_of}

-- so many are kept where there are so many, and only there
as_many : (kept bits : List Bool) (n : ℕ) → n ≤ 64 → kept ≡ take 65 bits
    → (length kept ≡ n) ↔ (length bits ≡ n)
as_many kept bits n few are =
    let long = ap length are ∙ length-take 65 bits in
    (λ same. omega (arith, few, long, same), λ same. omega (arith, few, long, same))

-- and of two lists
pub both_as_many : (x kept_x up kept_up : List Bool) (n : ℕ) → n ≤ 64 → kept_x ≡ take 65 x
    → kept_up ≡ take 65 up
    → ((length kept_x ≡ n) × (length kept_up ≡ n)) ↔ ((length x ≡ n) × (length up ≡ n))
both_as_many x kept_x up kept_up n few are_x are_up =
    let one = as_many kept_x x n few are_x in
    let other = as_many kept_up up n few are_up in
    (λ both. (one.0 both.0, other.0 both.1), λ both. (one.1 both.0, other.1 both.1))

-- one of two lists of kept bits has another length where one of the lists has, and only there
pub other_length : (x kept_x up kept_up : List Bool) (n : ℕ) → n ≤ 64 → kept_x ≡ take 65 x
    → kept_up ≡ take 65 up
    → ((length kept_x ≢ n) ⊎ (length kept_up ≢ n)) ↔ ((length x ≢ n) ⊎ (length up ≢ n))
other_length x kept_x up kept_up n few are_x are_up = (
  ⊎_elim (λ no. inl (λ same. no ((as_many kept_x x n few are_x).1 same)))
      (λ no. inr (λ same. no ((as_many kept_up up n few are_up).1 same))),
  ⊎_elim (λ no. inl (λ same. no ((as_many kept_x x n few are_x).0 same)))
      (λ no. inr (λ same. no ((as_many kept_up up n few are_up).0 same))),
)

-- so many bits are all kept
all_kept : (kept bits : List Bool) (n : ℕ) → n ≤ 64 → kept ≡ take 65 bits → length kept ≡ n
    → kept ≡ bits
all_kept kept bits n few are same =
    let long = (as_many kept bits n few are).0 same in
    are ∙ take_all 65 bits (omega (arith, few, long))

-- the line of the kept bits is that of all
pub same_line : (result : Result Configuration LineRefusal) (x kept_x up kept_up : List Bool)
    (n : ℕ) → kept_x ≡ take 65 x → kept_up ≡ take 65 up
    → (IsOk result → (n ≤ 64) × ((length kept_x ≡ n) × (length kept_up ≡ n)))
    → IfOk result (λ line. line ≡ line_of kept_x kept_up n)
    → IfOk result (λ line. line ≡ line_of x up n)
same_line (Ok line) x kept_x up kept_up n are_x are_up long is =
    let told = long refl in
    is ∙ ap (λ (bits : List Bool). line_of bits kept_up n)
    (all_kept kept_x x n told.0 are_x told.1.0)
    ∙ ap (λ (bits : List Bool). line_of x bits n) (all_kept kept_up up n told.0 are_up told.1.1)
same_line (Err refusal) x kept_x up kept_up n are_x are_up long is = tt
