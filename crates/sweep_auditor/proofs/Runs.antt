-- What the audit's loop keeps.
use Rattle.std.proofs.Common.{◌≡◌, ℕ, zero, suc, ◌+◌, ◌<◌, List, [], ◌∷◌, length, get_or, Option}
use Rattle.std.proofs.Common.{Some, None, IfSome, refl, sym, subst, arith, inl, inr}
use Rattle.std.proofs.lemmas.Bool.{cases_eq}
use Rattle.four_state.specs.Configuration.{Configuration}
use Rattle.four_state.specs.Privilege.{IsPrivilege, IsLegitimate, privileges_of}
use Rattle.sweep_auditor.specs.Run.{next, configuration_at, IsRun, IsLeastLegitimate}
use Rattle.sweep_auditor.specs.Run.{IsFirstLegitimate}
use Rattle.sweep_auditor.specs.declared.moves.Move.{Move}

-- ---- the first legitimate configuration, with one number more

pub first_stays : (c : Configuration) (moves : List Move) (n i : ℕ) → IsLeastLegitimate c moves n i
    → IsLeastLegitimate c moves (n + 1) i
first_stays c moves n i h =
    let within = h.within in
    record { within = omega arith; legitimate = h.legitimate; none_before = h.none_before }

pub first_here : (c : Configuration) (moves : List Move) (n : ℕ) → IsFirstLegitimate c moves n None
    → IsLegitimate (configuration_at c moves (n + 1)) → IsLeastLegitimate c moves (n + 1) (n + 1)
first_here c moves n none h =
    record { within = omega arith; legitimate = h; none_before = λ k l. none k (omega arith) }

pub still_none : (c : Configuration) (moves : List Move) (n : ℕ) → IsFirstLegitimate c moves n None
    → ¬ IsLegitimate (configuration_at c moves (n + 1)) → IsFirstLegitimate c moves (n + 1) None
still_none c moves n none h k l =
    elim (cases_eq k (n + 1)) [
      | inl e ↦ λ legitimate.
          h (subst (λ j. IsLegitimate (configuration_at c moves j)) e legitimate)
      | inr different ↦ none k (omega arith)
    ]

-- The first legitimate number stays, or the configuration with the next number is the first, or
-- there is none still.
pub first_more : (c : Configuration) (moves : List Move) (n : ℕ) (old new : Option ℕ)
    → IsFirstLegitimate c moves n old → IfSome old (λ i. new ≡ Some i)
    → (old ≡ None → IsLegitimate (configuration_at c moves (n + 1)) → new ≡ Some (n + 1))
    → (old ≡ None → ¬ IsLegitimate (configuration_at c moves (n + 1)) → new ≡ None)
    → IsFirstLegitimate c moves (n + 1) new
first_more c moves n (Some i) new h found here not_here =
    subst (IsFirstLegitimate c moves (n + 1)) (sym found) (first_stays c moves n i h)
first_more c moves n None new h found here not_here =
    elim (cases_eq (length (privileges_of (configuration_at c moves (n + 1)))) 1) [
      | inl is ↦ subst (IsFirstLegitimate c moves (n + 1)) (sym (here refl is))
          (first_here c moves n h is)
      | inr is_not ↦ subst (IsFirstLegitimate c moves (n + 1)) (sym (not_here refl is_not))
          (still_none c moves n h is_not)
    ]

-- ---- each move of a run is a privilege at its place

pub privilege_at : (moves : List Move) (c : Configuration) (i : ℕ) (d : Move) → IsRun c moves
    → i < length moves
    → IsPrivilege (configuration_at c moves i) (get_or moves i d).station (get_or moves i d).rule
privilege_at [] c i d run l = absurd (omega arith)
privilege_at (m ∷ moves) c zero d run l = run.0.privilege
privilege_at (m ∷ moves) c (suc i) d run l = privilege_at moves (next c m) i d run.1 (omega arith)
