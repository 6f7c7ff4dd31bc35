-- What an audit of moves says of them.
use Rattle.std.specs.Prelude.{◌≡◌, ◌+◌, ◌-◌, ◌*◌, ◌^◌, ◌≤◌, List, length, drop, IfSome, IsSomeAnd}
use Rattle.four_state.specs.Configuration.{Configuration}
use Rattle.four_state.specs.Privilege.{privileges_of}
use Rattle.sweep_auditor.specs.Run.{after, IsFirstLegitimate}
use Rattle.sweep_auditor.specs.Stabilization.{top_of, LegitimateFrom, IsStretch, ComesRound}
use Rattle.sweep_auditor.specs.declared.moves.Audit.{Audit}
use Rattle.sweep_auditor.specs.declared.moves.Move.{Move}

-- The audit of a run of moves from a start: where they end, and which configuration is the first
-- legitimate one. Where they are many enough there is one, by three bounds; from it on all are
-- legitimate, and the stations sweep up and down.
pub record IsAuditOf (start : Configuration) (moves : List Move) (audit : Audit) : Type 0 where
  pub last : audit.last ≡ after start moves
  pub first : IsFirstLegitimate start moves (length moves) audit.first_legitimate
  -- of so many moves, with n for the number of the top station and k for the number of privileges
  -- at the start
  pub stabilizes : let n = top_of start in let k = length (privileges_of start) in
      (k - 1) * (2 * n - k) + 1 ≤ length moves
      → IsSomeAnd audit.first_legitimate (λ i. i ≤ (k - 1) * (2 * n - k) + 1)
  -- of so many from any start
  pub stabilizes_from_any : let n = top_of start in
      n ^ 2 - n + 1 ≤ length moves → IsSomeAnd audit.first_legitimate (λ i. i ≤ n ^ 2 - n + 1)
  pub stabilizes_in_cube : let n = top_of start in
      n ^ 3 - 1 ≤ length moves → IsSomeAnd audit.first_legitimate (λ i. i ≤ n ^ 3 - 1)
  pub stays_legitimate : IfSome audit.first_legitimate (λ i. LegitimateFrom start moves i)
  pub sweeps : IfSome audit.first_legitimate (λ i. IsStretch (top_of start) (drop i moves))
  pub comes_round : IfSome audit.first_legitimate (λ i. ComesRound start moves i)
