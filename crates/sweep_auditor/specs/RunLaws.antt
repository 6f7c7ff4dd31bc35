-- Laws of runs that the crates above may cite.
use Rattle.std.specs.Prelude.{◌≡◌, ℕ, zero, suc, ◌+◌, ◌<◌, List, [], ◌∷◌, ◌++◌, length, take}
use Rattle.std.proofs.Common.{get_or, refl, ap, ◌∙◌}
use Rattle.std.proofs.lemmas.List.{take_more}
use Rattle.four_state.specs.Configuration.{Configuration, IsConfiguration, IsLine, stations}
use Rattle.four_state.specs.Privilege.{IsPrivilege}
use Rattle.four_state.specs.MotionLaws.{IsConfiguration-moved, IsLine-moved, stations-moved}
use Rattle.sweep_auditor.specs.Run.{next, after, configuration_at, IsRun}
use Rattle.sweep_auditor.specs.declared.moves.Move.{Move}

pub after-append : (moves more : List Move) (c : Configuration)
    → after c (moves ++ more) ≡ after (after c moves) more
after-append [] more c = refl
after-append (m ∷ moves) more c = after-append moves more (next c m)

pub IsRun-append : (moves more : List Move) (c : Configuration) → IsRun c moves
    → IsRun (after c moves) more → IsRun c (moves ++ more)
IsRun-append [] more c run rest = rest
IsRun-append (m ∷ moves) more c run rest = (run.0, IsRun-append moves more (next c m) run.1 rest)

-- one move more
pub after-push : (moves : List Move) (m : Move) (c : Configuration)
    → after c (moves ++ m ∷ []) ≡ next (after c moves) m
after-push moves m c = after-append moves (m ∷ []) c

pub IsRun-push : (moves : List Move) (m : Move) (c : Configuration) → IsRun c moves
    → IsPrivilege (after c moves) m.station m.rule → IsRun c (moves ++ m ∷ [])
IsRun-push moves m c run p =
    IsRun-append moves (m ∷ []) c run (record { privilege = p; change = refl }, tt)

-- the configuration with the next number
pub configuration_at-more : (c : Configuration) (moves : List Move) (i : ℕ) (d : Move)
    → i < length moves
    → configuration_at c moves (i + 1) ≡ next (configuration_at c moves i) (get_or moves i d)
configuration_at-more c moves i d l =
    ap (after c) (take_more moves i d l) ∙ after-push (take i moves) (get_or moves i d) c

-- a run goes on by a privilege
pub IsRun-more : (c : Configuration) (moves : List Move) (i : ℕ) (d : Move) → i < length moves
    → IsRun c (take i moves)
    → IsPrivilege (configuration_at c moves i) (get_or moves i d).station (get_or moves i d).rule
    → IsRun c (take (i + 1) moves)
IsRun-more c moves i d l run p =
    let longer = take_more moves i d l in
    rw longer (IsRun-push (take i moves) (get_or moves i d) c run p)

-- a run leads from line to line
pub IsLine-after : (moves : List Move) (c : Configuration) → IsLine c → IsRun c moves
    → IsLine (after c moves)
IsLine-after [] c h run = h
IsLine-after (m ∷ moves) c h run =
    IsLine-after moves (next c m) (IsLine-moved c m.station m.rule h run.0.privilege) run.1

-- and from configuration to configuration, of as many stations
pub IsConfiguration-after : (moves : List Move) (c : Configuration) → IsConfiguration c
    → IsRun c moves → IsConfiguration (after c moves)
IsConfiguration-after [] c h run = h
IsConfiguration-after (m ∷ moves) c h run =
    IsConfiguration-after moves (next c m)
    (IsConfiguration-moved c m.station m.rule h run.0.privilege) run.1

pub stations-after : (moves : List Move) (c : Configuration) → stations (after c moves) ≡ stations c
stations-after [] c = refl
stations-after (m ∷ moves) c = stations-after moves (next c m) ∙ stations-moved c m.station m.rule

-- a part of a run is a run
pub IsRun-take : (k : ℕ) (moves : List Move) (c : Configuration) → IsRun c moves
    → IsRun c (take k moves)
IsRun-take zero moves c run = tt
IsRun-take (suc k) [] c run = tt
IsRun-take (suc k) (m ∷ moves) c run = (run.0, IsRun-take k moves (next c m) run.1)
