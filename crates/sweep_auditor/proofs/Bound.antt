-- Every run that is long enough contains a legitimate configuration.
use Rattle.std.proofs.Common.{◌≡◌, ℕ, zero, suc, ◌+◌, ◌-◌, ◌*◌, ◌^◌, ◌≤◌, ◌⊎◌, List, [], ◌∷◌}
use Rattle.std.proofs.Common.{length, take, refl, ap, ◌∙◌, subst, arith, inl, inr}
use Rattle.std.proofs.Math.Nat.{pow-suc, pow-zero}
use Rattle.std.proofs.lemmas.Bool.{cases_eq}
use Rattle.std.proofs.lemmas.List.{take-take, length-take-le}
use Rattle.std.proofs.lemmas.List.FromFn.{length-map-range_with_len}
use Rattle.four_state.specs.Configuration.{Configuration, IsConfiguration, stations}
use Rattle.four_state.specs.Privilege.{IsPrivilege, IsLegitimate, privileges_of}
use Rattle.four_state.specs.MotionLaws.{IsConfiguration-moved}
use Rattle.four_state.specs.PrivilegeLaws.{length-privileges_of, one-le-privileges}
use Rattle.sweep_auditor.specs.Run.{next, after, configuration_at, IsRun}
use Rattle.sweep_auditor.specs.Stabilization.{ReachesLegitimate, Stabilizes, StabilizesFromAny}
use Rattle.sweep_auditor.specs.Stabilization.{StabilizesInCube}
use Rattle.sweep_auditor.specs.declared.moves.Move.{Move}
use Rattle.sweep_auditor.specs.RunLaws.{IsConfiguration-after, IsRun-take}
use Rattle.sweep_auditor.proofs.Rows.{cell_at, cells_of, count, count-cells_from}
use Rattle.sweep_auditor.proofs.Energy.{energy, energy-most, energy-least, count-most}
use Rattle.sweep_auditor.proofs.Falls.{Change-falls}
use Rattle.sweep_auditor.proofs.Local.{Change-moved}

-- as many privileges are present as there are marks in the row
pub counted : (c : Configuration) → IsConfiguration c
    → count (cells_of c) ≡ length (privileges_of c)
counted c h =
    let marks = count-cells_from c (stations c - 1) 0 in
    let privileges = length-privileges_of c h in
    omega arith

-- no privilege is the only one
abbrev pub IsCrowded : Configuration → Type 0
IsCrowded c = 2 ≤ length (privileges_of c)

-- one move that leaves two privileges or more
one_falls : (c : Configuration) (m : Move) → IsConfiguration c → IsPrivilege c m.station m.rule
    → IsCrowded (next c m) → energy (cells_of (next c m)) + 1 ≤ energy (cells_of c)
one_falls c m h p crowded =
    let marks = counted (next c m) (IsConfiguration-moved c m.station m.rule h p) in
    Change-falls m.station (cells_of c) (cells_of (next c m)) (Change-moved c m.station m.rule h p)
    (omega arith)

-- a run that leaves two privileges or more each time
run_falls : (moves : List Move) (c : Configuration) → IsConfiguration c → IsRun c moves
    → ((k : ℕ) → k ≤ length moves → IsCrowded (configuration_at c moves k))
    → energy (cells_of (after c moves)) + length moves ≤ energy (cells_of c)
run_falls [] c h run crowded = omega arith
run_falls (m ∷ moves) c h run crowded =
    let p = run.0.privilege in
    let later = IsConfiguration-moved c m.station m.rule h p in
    let first = one_falls c m h p (crowded 1 (omega arith)) in
    let rest = run_falls moves (next c m) later run.1 (λ k l. crowded (suc k) (omega arith)) in
    omega arith

-- each configuration of a run has a privilege, so it is legitimate or crowded
legitimate_or_crowded : (c : Configuration) (moves : List Move) (k : ℕ) → IsConfiguration c
    → IsRun c moves
    → IsLegitimate (configuration_at c moves k) ⊎ IsCrowded (configuration_at c moves k)
legitimate_or_crowded c moves k h run =
    let some = one-le-privileges (configuration_at c moves k)
    (IsConfiguration-after (take k moves) c h (IsRun-take k moves c run)) in
    elim (cases_eq (length (privileges_of (configuration_at c moves k))) 1) [
      | inl is ↦ inl is
      | inr is_not ↦ inr (omega arith)
    ]

-- up to number m, one configuration is legitimate or all are crowded
found_or_crowded : (c : Configuration) (moves : List Move) (m : ℕ) → IsConfiguration c
    → IsRun c moves
    → ReachesLegitimate c moves m ⊎ ((k : ℕ) → k ≤ m → IsCrowded (configuration_at c moves k))
found_or_crowded c moves zero h run =
    elim (legitimate_or_crowded c moves 0 h run) [
      | inl is ↦ inl (record { number = 0; within = omega arith; legitimate = is })
      | inr crowded ↦
          inr (λ k l. let e : 0 ≡ k = omega arith in
          subst (λ i. IsCrowded (configuration_at c moves i)) e crowded)
    ]
found_or_crowded c moves (suc m) h run =
    elim (found_or_crowded c moves m h run) [
      | inl found ↦
          let within = found.within in
          inl (record {
            number = found.number;
            within = omega arith;
            legitimate = found.legitimate;
          })
      | inr all ↦
          elim (legitimate_or_crowded c moves (suc m) h run) [
            | inl is ↦ inl (record { number = suc m; within = omega arith; legitimate = is })
            | inr crowded ↦
                inr
                (λ k l.
                elim (cases_eq (suc m) k) [
                  | inl e ↦ subst (λ i. IsCrowded (configuration_at c moves i)) e crowded
                  | inr ne ↦ all k (omega arith)
                ])
          ]
    ]

-- with k privileges at the start and n boundaries, and k at most n
bound_is : (n k j : ℕ) → k ≡ j + 1 → k ≤ n → (k - 1) * (2 * n - k) ≡ (j + 1) * j + (j + j) * (n - k)
bound_is n k j e l =
    let f = n - k in
    let all : n ≡ j + 1 + f = omega arith in
    let less : k - 1 ≡ j = omega arith in
    let twice : 2 * n - k ≡ j + 1 + f + f = omega arith in
    rw (less, twice) (omega arith)

-- So the energy of a configuration is at most one more than its bound.
energy_within : (c : Configuration) → IsConfiguration c → let n = stations c - 1 in
    let k = length (privileges_of c) in 2 ≤ k → energy (cells_of c) ≤ (k - 1) * (2 * n - k) + 2
energy_within c h two =
    let n = stations c - 1 in
    let k = length (privileges_of c) in
    let marks = counted c h in
    let long = length-map-range_with_len (cell_at c) 0 n in
    let room = count-most (cells_of c) in
    let most = energy-most (cells_of c) (k - 1) (n - k) (omega arith) (omega arith) (omega arith) in
    let bound = bound_is n k (k - 1) (omega arith) (omega arith) in
    omega arith

-- no run has so many moves and a crowd each time
pub crowded_ends : (c : Configuration) (moves : List Move) (m : ℕ) → IsConfiguration c
    → IsRun c moves
    → let n = stations c - 1 in let k = length (privileges_of c) in
    m ≡ (k - 1) * (2 * n - k) + 1 → m ≤ length moves
    → ((i : ℕ) → i ≤ m → IsCrowded (configuration_at c moves i)) → ⊥
crowded_ends c moves m h run bound long crowded =
    let front = take m moves in
    let front_long : length front ≡ m = length-take-le m moves long in
    let front_run = IsRun-take m moves c run in
    let all : (i : ℕ) → i ≤ length front → IsCrowded (configuration_at c front i) =
    λ i l. let same = take-take i m moves (omega arith) in rw same (crowded i (omega arith)) in
    let falls = run_falls front c h front_run all in
    let last_is = IsConfiguration-after front c h front_run in
    let last_crowded : IsCrowded (after c front) = crowded m (omega arith) in
    let marks = counted (after c front) last_is in
    let least = energy-least (cells_of (after c front)) (omega arith) in
    let most = energy_within c h (crowded 0 (omega arith)) in
    omega arith

-- With k privileges at the start, every run of (k - 1)·(2·N - k) + 1 moves contains a legitimate
-- configuration.
pub stabilizes : Stabilizes
stabilizes c moves h run long =
    let n = stations c - 1 in
    let k = length (privileges_of c) in
    elim (found_or_crowded c moves ((k - 1) * (2 * n - k) + 1) h run) [
      | inl found ↦ found
      | inr crowded ↦
          absurd (crowded_ends c moves ((k - 1) * (2 * n - k) + 1) h run refl long crowded)
    ]

-- ---- the bounds that don't speak of the start's privileges

pub square_is : (n : ℕ) → n ^ 2 ≡ n * n
square_is n =
    let once : n ^ 1 ≡ n = pow-suc n 0 ∙ ap (λ k. k * n) (pow-zero n) ∙ omega arith in
    pow-suc n 1 ∙ ap (λ k. k * n) once

cube_is : (n : ℕ) → n ^ 3 ≡ n * n * n
cube_is n = pow-suc n 2 ∙ ap (λ k. k * n) (square_is n)

-- the bound with k is greatest where k is n
bound_most : (n k j f : ℕ) → k ≡ j + 1 → n ≡ j + 1 + f → (k - 1) * (2 * n - k) + n ≤ n ^ 2
bound_most n k j f e all =
    let square = square_is n in
    let bound = bound_is n k j e (omega arith) in
    let rest : n - k ≡ f = omega arith in
    let whole : n * n ≡ (j + 1 + f) * (j + 1 + f) = ap (λ i. i * i) all in
    let part : (j + j) * (n - k) ≡ (j + j) * f = ap (λ i. (j + j) * i) rest in
    omega arith

square_below_cube : (n i : ℕ) → n ≡ i + 2 → n ^ 2 + 2 ≤ n ^ 3 + n
square_below_cube n i e =
    let square : n ^ 2 ≡ (i + 2) * (i + 2) = square_is n ∙ ap (λ k. k * k) e in
    let cube : n ^ 3 ≡ (i + 2) * (i + 2) * (i + 2) = cube_is n ∙ ap (λ k. k * k * k) e in
    omega arith

-- a start that isn't legitimate has at most as many privileges as boundaries, and its bound is at
-- most N² - N + 1
within_square : (c : Configuration) → IsConfiguration c → IsCrowded c → let n = stations c - 1 in
    let k = length (privileges_of c) in (2 ≤ n) × ((k - 1) * (2 * n - k) + n ≤ n ^ 2)
within_square c h two =
    let n = stations c - 1 in
    let k = length (privileges_of c) in
    let marks = counted c h in
    let long = length-map-range_with_len (cell_at c) 0 n in
    let room = count-most (cells_of c) in
    (omega arith, bound_most n k (k - 1) (n - k) (omega arith) (omega arith))

-- a bound that is enough from a start that isn't legitimate is enough
reaches : (c : Configuration) (moves : List Move) (most : ℕ) → IsConfiguration c → IsRun c moves
    → most ≤ length moves
    → let n = stations c - 1 in let k = length (privileges_of c) in
    (IsCrowded c → (k - 1) * (2 * n - k) + 1 ≤ most) → ReachesLegitimate c moves most
reaches c moves most h run long enough =
    elim (legitimate_or_crowded c moves 0 h run) [
      | inl is ↦ record { number = 0; within = omega arith; legitimate = is }
      | inr crowded ↦
          let less = enough crowded in
          let found = stabilizes c moves h run (omega arith) in
          let within = found.within in
          record { number = found.number; within = omega arith; legitimate = found.legitimate }
    ]

-- Every run of N² - N + 1 moves contains a legitimate configuration.
pub stabilizes_from_any : StabilizesFromAny
stabilizes_from_any c moves h run long =
    let n = stations c - 1 in
    reaches c moves (n ^ 2 - n + 1) h run long
    (λ crowded. let square = within_square c h crowded in let most = square.1 in omega arith)

-- Every run of N³ - 1 moves does.
pub stabilizes_in_cube : StabilizesInCube
stabilizes_in_cube c moves h run long =
    let n = stations c - 1 in
    reaches c moves (n ^ 3 - 1) h run long
    (λ crowded.
    let square = within_square c h crowded in
    let two = square.0 in
    let most = square.1 in
    let cube = square_below_cube n (n - 2) (omega arith) in
    omega arith)
