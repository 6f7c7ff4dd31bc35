-- Runs of the line: lists of moves, and the configurations that they pass.
use Rattle.std.specs.Prelude.{◌≡◌, ℕ, ◌<◌, ◌≤◌, List, [], ◌∷◌, take, Option, Some, None, ⊤}
use Rattle.std.specs.Prelude.{slice_get}
use Rattle.four_state.specs.Configuration.{Configuration}
use Rattle.four_state.specs.Privilege.{IsPrivilege, IsLegitimate}
use Rattle.four_state.specs.Motion.{moved, IsMove}
use Rattle.sweep_auditor.specs.declared.moves.Move.{Move}
use Rattle.sweep_auditor.specs.declared.moves.AuditRefusal.{AuditRefusal}
use Rattle.sweep_auditor.specs.declared.moves.AuditRefusal.TheVariants.{NotEnabled}

-- the configuration after one move
abbrev pub next : Configuration → Move → Configuration
next c move = moved c move.station move.rule

-- the configuration after all of the moves
abbrev pub after : Configuration → List Move → Configuration
after c [] = c
after c (move ∷ moves) = after (next c move) moves

-- Configuration number i of the run: the one after its first i moves.
abbrev pub configuration_at : Configuration → List Move → ℕ → Configuration
configuration_at c moves i = after c (take i moves)

-- A run: each step is a move of the line.
abbrev pub IsRun : Configuration → List Move → Type 0
IsRun c [] = ⊤
IsRun c (move ∷ moves) = IsMove c move.station move.rule (next c move) × IsRun (next c move) moves

-- the least number, up to n, of a legitimate configuration
pub record IsLeastLegitimate (c : Configuration) (moves : List Move) (n i : ℕ) : Type 0 where
  pub within : i ≤ n
  pub legitimate : IsLegitimate (configuration_at c moves i)
  pub none_before : (k : ℕ) → k < i → ¬ IsLegitimate (configuration_at c moves k)

-- which configuration, of those up to number n, is the first that is legitimate; `None` where there
-- is none
abbrev pub IsFirstLegitimate : Configuration → List Move → ℕ → Option ℕ → Type 0
IsFirstLegitimate c moves n None = (k : ℕ) → k ≤ n → ¬ IsLegitimate (configuration_at c moves k)
IsFirstLegitimate c moves n (Some i) = IsLeastLegitimate c moves n i

-- The first move that is no privilege at its place: those before it are a run.
pub record IsRefusedAt (c : Configuration) (moves : List Move) (index : ℕ) : Type 0 where
  pub run_before : IsRun c (take index moves)
  pub move : Move
  pub stands_there : slice_get moves index ≡ Some move
  pub no_privilege : ¬ IsPrivilege (configuration_at c moves index) move.station move.rule

abbrev pub AuditRefuses : Configuration → List Move → AuditRefusal → Type 0
AuditRefuses c moves (NotEnabled index) = IsRefusedAt c moves index
