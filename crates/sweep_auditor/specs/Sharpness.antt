-- The bounds of `Stabilization` are the least: runs of one move less that contain no legitimate
-- configuration.
use Rattle.std.specs.Prelude.{◌≡◌, ℕ, ◌-◌, ◌*◌, ◌^◌, ◌≤◌, List, length}
use Rattle.four_state.specs.Configuration.{Configuration, IsConfiguration}
use Rattle.four_state.specs.Privilege.{IsLegitimate, privileges_of}
use Rattle.sweep_auditor.specs.Run.{IsRun, configuration_at}
use Rattle.sweep_auditor.specs.Stabilization.{top_of}
use Rattle.sweep_auditor.specs.declared.moves.Move.{Move}

-- A run of so many moves, from a start with top station n and k privileges, none of whose
-- configurations is legitimate.
pub record HasLongRun (n k number : ℕ) : Type 0 where
  pub start : Configuration
  pub moves : List Move
  pub configuration : IsConfiguration start
  pub top : top_of start ≡ n
  pub privileges : length (privileges_of start) ≡ k
  pub run : IsRun start moves
  pub as_many : length moves ≡ number
  pub never_legitimate : (i : ℕ) → i ≤ number → ¬ IsLegitimate (configuration_at start moves i)

-- From N = 3 on, for each k from 2 to N: some run of (k - 1)·(2·N - k) moves, from a start with k
-- privileges, contains no legitimate configuration.
abbrev pub NoFewerMoves : Type 0
NoFewerMoves = (n k : ℕ) → 3 ≤ n → 2 ≤ k → k ≤ n → HasLongRun n k ((k - 1) * (2 * n - k))

-- And so some run of N² - N moves, from a start with N privileges.
abbrev pub NoFewerMovesFromAny : Type 0
NoFewerMovesFromAny = (n : ℕ) → 3 ≤ n → HasLongRun n n (n ^ 2 - n)
