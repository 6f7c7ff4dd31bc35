-- The moves of a run, one by one.
use Rattle.std.proofs.Common.{◌<◌, ◌∷◌, [], ℕ, zero, suc, List, length, get_or, arith}
use Rattle.four_state.specs.Configuration.{Configuration}
use Rattle.four_state.specs.Privilege.{IsPrivilege}
use Rattle.sweep_auditor.specs.declared.moves.Move.{Move}
use Rattle.sweep_auditor.specs.Run.{next, configuration_at, IsRun}

-- each is a privilege where it is made
pub privileged : (moves : List Move) (c : Configuration) (i : ℕ) (d : Move) → IsRun c moves
    → i < length moves
    → IsPrivilege (configuration_at c moves i) (get_or moves i d).station (get_or moves i d).rule
privileged [] c i d run lt = absurd (omega (arith, lt))
privileged (m ∷ moves) c zero d run lt = run.0.privilege
privileged (m ∷ moves) c (suc i) d run lt =
    privileged moves (next c m) i d run.1 (omega (arith, lt))
