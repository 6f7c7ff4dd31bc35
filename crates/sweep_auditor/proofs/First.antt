-- What the first legitimate configuration tells of the run.
use Rattle.std.proofs.Common.{◌≡◌, ℕ, ◌+◌, ◌-◌, ◌*◌, ◌^◌, ◌≤◌, List, length, take, Option, Some}
use Rattle.std.proofs.Common.{None, IfSome, arith, inl, inr}
use Rattle.std.specs.Prelude.{IsSomeAnd}
use Rattle.std.proofs.lemmas.Bool.{cases_lt}
use Rattle.std.proofs.lemmas.List.{take_all}
use Rattle.four_state.specs.Configuration.{Configuration, IsConfiguration}
use Rattle.four_state.specs.Privilege.{privileges_of}
use Rattle.sweep_auditor.specs.Run.{IsRun, IsFirstLegitimate}
use Rattle.sweep_auditor.specs.Stabilization.{top_of, ReachesLegitimate, Sweeps}
use Rattle.sweep_auditor.specs.declared.moves.Move.{Move}
use Rattle.sweep_auditor.proofs.Bound.{stabilizes, stabilizes_from_any, stabilizes_in_cube}
use Rattle.sweep_auditor.proofs.Sweep.{sweeps}

-- it comes no later than any
pub first_within : (c : Configuration) (moves : List Move) (most : ℕ) (first : Option ℕ)
    → IsFirstLegitimate c moves (length moves) first → most ≤ length moves
    → ReachesLegitimate c moves most → IsSomeAnd first (λ i. i ≤ most)
first_within c moves most None h l found =
    let within = found.within in absurd (h found.number (omega arith) found.legitimate)
first_within c moves most (Some i) h l found =
    let within = found.within in
    elim (cases_lt found.number i) [
      | inl before ↦ absurd (h.none_before found.number before found.legitimate)
      | inr after ↦ omega arith
    ]

-- ---- what an audit knows at its end, where number i is the last

module _ (c : Configuration) (moves : List Move) (i : ℕ) (first : Option ℕ) (is : IsConfiguration c)
    (run : IsRun c (take i moves)) (found : IsFirstLegitimate c moves i first)
    (end : length moves ≤ i) (within : i ≤ length moves) where
  whole_run : IsRun c moves
  whole_run = let whole = take_all i moves end in rw whole at run

  whole_found : IsFirstLegitimate c moves (length moves) first
  whole_found = let last : i ≡ length moves = omega arith in rw last at found

  pub reached : let n = top_of c in let k = length (privileges_of c) in
      (k - 1) * (2 * n - k) + 1 ≤ length moves
      → IsSomeAnd first (λ i. i ≤ (k - 1) * (2 * n - k) + 1)
  reached l = first_within c moves _ first whole_found l (stabilizes c moves is whole_run l)

  pub reached_from_any : top_of c ^ 2 - top_of c + 1 ≤ length moves
      → IsSomeAnd first (λ k. k ≤ top_of c ^ 2 - top_of c + 1)
  reached_from_any l =
      first_within c moves _ first whole_found l (stabilizes_from_any c moves is whole_run l)

  pub reached_in_cube : top_of c ^ 3 - 1 ≤ length moves
      → IsSomeAnd first (λ k. k ≤ top_of c ^ 3 - 1)
  reached_in_cube l =
      first_within c moves _ first whole_found l (stabilizes_in_cube c moves is whole_run l)

-- after the first legitimate configuration the stations sweep
sweeps_if_found : (c : Configuration) (moves : List Move) (first : Option ℕ)
    → IsFirstLegitimate c moves (length moves) first → IsConfiguration c → IsRun c moves
    → IfSome first (Sweeps c moves)
sweeps_if_found c moves None h is run = tt
sweeps_if_found c moves (Some i) h is run = sweeps c moves i is run h.within h.legitimate

pub first_sweeps : (c : Configuration) (moves : List Move) (i : ℕ) (first : Option ℕ)
    → IsConfiguration c → IsRun c (take i moves) → IsFirstLegitimate c moves i first
    → length moves ≤ i → i ≤ length moves → IfSome first (Sweeps c moves)
first_sweeps c moves i first is run found end within =
    sweeps_if_found c moves first (whole_found c moves i first is run found end within) is
    (whole_run c moves i first is run found end within)

-- a part of what holds of the first legitimate number
pub some_part : (P Q : ℕ → Type 0) (o : Option ℕ) → ((i : ℕ) → P i → Q i) → IfSome o P → IfSome o Q
some_part P Q None f h = tt
some_part P Q (Some i) f h = f i h
