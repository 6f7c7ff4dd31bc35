-- What every run of the line has, from whatever configuration, and whichever privilege moves each
-- time.
use Rattle.std.specs.Prelude.{◌≡◌, ◌↔◌, ℕ, ◌+◌, ◌-◌, ◌*◌, ◌^◌, ◌%◌, ◌≤◌, List, length, map, drop}
use Rattle.std.specs.Prelude.{nat_le, if◌then◌else◌}
use Rattle.std.specs.List.{range_with_len}
use Rattle.four_state.specs.Configuration.{Configuration, IsConfiguration, stations}
use Rattle.four_state.specs.Privilege.{IsLegitimate, privileges_of}
use Rattle.sweep_auditor.specs.Run.{IsRun, configuration_at}
use Rattle.sweep_auditor.specs.declared.moves.Move.{Move}

-- the number of the top station
abbrev pub top_of : Configuration → ℕ
top_of c = stations c - 1

-- some configuration is legitimate, of those up to this number
pub record ReachesLegitimate (c : Configuration) (moves : List Move) (most : ℕ) : Type 0 where
  pub number : ℕ
  pub within : number ≤ most
  pub legitimate : IsLegitimate (configuration_at c moves number)

-- With N for the number of the top station and k for the number of privileges at the start: every
-- run of (k - 1)·(2·N - k) + 1 moves contains a legitimate configuration.
abbrev pub Stabilizes : Type 0
Stabilizes =
    (c : Configuration) (moves : List Move) → IsConfiguration c → IsRun c moves → let n =
    top_of c in let k = length (privileges_of c) in (k - 1) * (2 * n - k) + 1 ≤ length moves
    → ReachesLegitimate c moves ((k - 1) * (2 * n - k) + 1)

-- From any start, every run of N² - N + 1 moves does.
abbrev pub StabilizesFromAny : Type 0
StabilizesFromAny =
    (c : Configuration) (moves : List Move) → IsConfiguration c → IsRun c moves → let n =
    top_of c in n ^ 2 - n + 1 ≤ length moves → ReachesLegitimate c moves (n ^ 2 - n + 1)

-- Every run of N³ - 1 moves does.
abbrev pub StabilizesInCube : Type 0
StabilizesInCube =
    (c : Configuration) (moves : List Move) → IsConfiguration c → IsRun c moves → let n =
    top_of c in n ^ 3 - 1 ≤ length moves → ReachesLegitimate c moves (n ^ 3 - 1)

-- From configuration number i on, all are legitimate.
abbrev pub LegitimateFrom : Configuration → List Move → ℕ → Type 0
LegitimateFrom c moves i =
    (k : ℕ) → i ≤ k → k ≤ length moves → IsLegitimate (configuration_at c moves k)

-- Place j of the sweep: the stations 0, 1, .., n, n - 1, .., 1, repeated without end.
abbrev pub sweep_at : ℕ → ℕ → ℕ
sweep_at n j = let place = j % (2 * n) in if nat_le place n then place else 2 * n - place

-- The stations that move are a stretch of the sweep.
pub record IsStretch (n : ℕ) (moves : List Move) : Type 0 where
  pub start : ℕ
  pub stations_are : map (λ (move : Move). move.station) moves
      ≡ map (sweep_at n) (range_with_len start (length moves))

-- From configuration number i on, a configuration comes again after each 4·N moves, and at no other
-- time.
abbrev pub ComesRound : Configuration → List Move → ℕ → Type 0
ComesRound c moves i =
    (a b : ℕ) → i ≤ a → a ≤ b → b ≤ length moves
    → (configuration_at c moves a ≡ configuration_at c moves b) ↔ ((b - a) % (4 * top_of c) ≡ 0)

-- After a legitimate configuration all are, and the stations sweep up and down.
pub record Sweeps (c : Configuration) (moves : List Move) (i : ℕ) : Type 0 where
  pub legitimate : LegitimateFrom c moves i
  pub stretch : IsStretch (top_of c) (drop i moves)
  pub round : ComesRound c moves i

abbrev pub SweepsFromLegitimate : Type 0
SweepsFromLegitimate =
    (c : Configuration) (moves : List Move) (i : ℕ) → IsConfiguration c → IsRun c moves
    → i ≤ length moves → IsLegitimate (configuration_at c moves i) → Sweeps c moves i
