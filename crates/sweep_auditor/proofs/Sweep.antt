-- After a legitimate configuration the stations sweep up and down, and each 4N moves it comes
-- again.
use Rattle.std.proofs.Common.{◌≡◌, ◌↔◌, ℕ, zero, suc, ◌+◌, ◌-◌, ◌*◌, ◌/◌, ◌%◌, ◌<◌, ◌≤◌, ◌⊎◌, Bool}
use Rattle.std.proofs.Common.{true, false, cond}
use Rattle.std.proofs.Common.{List, [], ◌∷◌, ◌++◌, length, map, take, drop, refl, sym, ap, ◌∙◌}
use Rattle.std.proofs.Common.{subst, arith, inl, inr}
use Rattle.std.proofs.Common.{length-drop, zero-add}
use Rattle.std.specs.List.{range_with_len}
use Rattle.std.proofs.Math.Nat.{mul-add-mod_self_right, div-add-mod, suc-mul}
use Rattle.std.proofs.lemmas.Nat.{mod-mul-add, mod_below}
use Rattle.std.proofs.lemmas.List.FromFn.{length-map-range_with_len}
use Rattle.four_state.specs.Configuration.{Configuration, IsConfiguration, stations, x_at}
use Rattle.four_state.specs.Privilege.{IsLegitimate}
use Rattle.four_state.specs.MotionLaws.{IsConfiguration-moved, stations-moved}
use Rattle.four_state.specs.Marks.{mark_at, marks_of}
use Rattle.four_state.specs.PrivilegeLaws.{length-privileges_of}
use Rattle.sweep_auditor.specs.Run.{next, after, configuration_at, IsRun}
use Rattle.sweep_auditor.specs.Stabilization.{sweep_at, SweepsFromLegitimate}
use Rattle.sweep_auditor.specs.declared.moves.Move.{Move}
use Rattle.sweep_auditor.specs.RunLaws.{IsConfiguration-after, stations-after, after-append}
use Rattle.sweep_auditor.specs.RunLaws.{IsRun-take}
use Rattle.sweep_auditor.proofs.Phases.{place, place-most, phase_of, IsLegitimate-next, advances}
use Rattle.sweep_auditor.proofs.Same.{same_configuration}

-- ---- a run from a legitimate configuration

legitimate_run : (moves : List Move) (c : Configuration) (k : ℕ) → IsConfiguration c → IsRun c moves
    → IsLegitimate c → IsLegitimate (configuration_at c moves k)
legitimate_run moves c zero h run one = one
legitimate_run [] c (suc k) h run one = one
legitimate_run (m ∷ moves) c (suc k) h run one =
    let p = run.0.privilege in
    legitimate_run moves (next c m) k (IsConfiguration-moved c m.station m.rule h p) run.1
    (IsLegitimate-next c m.station m.rule h p one)

-- the sweep has period 2n, and so 4n
sweep_at-round : (n a : ℕ) → sweep_at n (4 * n + a) ≡ sweep_at n a
sweep_at-round n a =
    let twice : 4 * n + a ≡ 2 * (2 * n) + a = omega arith in
    let same : (4 * n + a) % (2 * n) ≡ a % (2 * n) =
    ap (λ k. k % (2 * n)) twice ∙ mul-add-mod_self_right 2 (2 * n) a in
    rw same refl

sweeps_round : (n k a : ℕ)
    → map (sweep_at n) (range_with_len (4 * n + a) k) ≡ map (sweep_at n) (range_with_len a k)
sweeps_round n zero a = refl
sweeps_round n (suc k) a =
    let place : 4 * n + a + 1 ≡ 4 * n + (a + 1) = omega arith in
    ap (λ s. s ∷ map (sweep_at n) (range_with_len (4 * n + a + 1) k)) (sweep_at-round n a)
    ∙ ap (λ (ss : List ℕ). sweep_at n a ∷ ss)
    (ap (λ b. map (sweep_at n) (range_with_len b k)) place ∙ sweeps_round n k (a + 1))

-- the stretch that follows a move
goes_on : (n k : ℕ) (c d : Configuration)
    → (phase_of n d ≡ phase_of n c + 1) ⊎ ((phase_of n c + 1 ≡ 4 * n) × (phase_of n d ≡ 0))
    → map (sweep_at n) (range_with_len (phase_of n d + 1) k)
    ≡ map (sweep_at n) (range_with_len (phase_of n c + 1 + 1) k)
goes_on n k c d (inl e) = ap (λ b. map (sweep_at n) (range_with_len (b + 1) k)) e
goes_on n k c d (inr e) =
    let later : phase_of n c + 1 + 1 ≡ 4 * n + 1 = ap (λ b. b + 1) e.0 in
    ap (λ b. map (sweep_at n) (range_with_len (b + 1) k)) e.1
    ∙ sym (ap (λ b. map (sweep_at n) (range_with_len b k)) later ∙ sweeps_round n k 1)

stretch_from : (moves : List Move) (c : Configuration) (n : ℕ) → IsConfiguration c
    → stations c ≡ n + 1 → IsRun c moves → IsLegitimate c
    → map (λ (m : Move). m.station) moves
    ≡ map (sweep_at n) (range_with_len (phase_of n c + 1) (length moves))
stretch_from [] c n h e run one = refl
stretch_from (m ∷ moves) c n h e run one =
    let p = run.0.privilege in
    let advance = advances n c m.station m.rule h e p one in
    let later = IsConfiguration-moved c m.station m.rule h p in
    let long = stations-moved c m.station m.rule ∙ e in
    let rest = stretch_from moves (next c m) n later long run.1
    (IsLegitimate-next c m.station m.rule h p one) in
    ap (λ s. s ∷ map (λ (k : Move). k.station) moves) advance.station
    ∙ ap (λ (ss : List ℕ). sweep_at n (phase_of n c + 1) ∷ ss)
    (rest ∙ goes_on n (length moves) c (next c m) advance.next)

-- ---- how often the line has come round

record Rounds (n : ℕ) (c : Configuration) (moves : List Move) (j : ℕ) : Type 0 where
  count : ℕ
  reached : phase_of n c + j ≡ count * (4 * n) + phase_of n (configuration_at c moves j)

one_more : (n j : ℕ) (c d : Configuration) (moves : List Move) (m : Move)
    → (phase_of n d ≡ phase_of n c + 1) ⊎ ((phase_of n c + 1 ≡ 4 * n) × (phase_of n d ≡ 0))
    → d ≡ next c m
    → Rounds n d moves j → Rounds n c (m ∷ moves) (suc j)
one_more n j c d moves m (inl e) same r =
    let reached = r.reached in
    record {
      count = r.count;
      reached = rw same at
          (let t : phase_of n c + suc j
          ≡ r.count * (4 * n) + phase_of n (configuration_at d moves j) = omega arith in t);
    }
one_more n j c d moves m (inr e) same r =
    let reached = r.reached in
    let product = suc-mul r.count (4 * n) in
    record {
      count = suc r.count;
      reached = rw same at
          (let t : phase_of n c + suc j
          ≡ suc r.count * (4 * n) + phase_of n (configuration_at d moves j) =
          omega (arith, e.0, e.1) in t);
    }

rounds : (moves : List Move) (c : Configuration) (n j : ℕ) → IsConfiguration c → stations c ≡ n + 1
    → IsRun c moves → IsLegitimate c → j ≤ length moves → Rounds n c moves j
rounds moves c n zero h e run one l = record { count = 0; reached = omega arith }
rounds [] c n (suc j) h e run one l = absurd (omega arith)
rounds (m ∷ moves) c n (suc j) h e run one l =
    let p = run.0.privilege in
    let advance = advances n c m.station m.rule h e p one in
    let later = IsConfiguration-moved c m.station m.rule h p in
    let long = stations-moved c m.station m.rule ∙ e in
    one_more n j c (next c m) moves m advance.next refl
    (rounds moves (next c m) n j later long run.1 (IsLegitimate-next c m.station m.rule h p one)
    (omega arith))

phase_below : (x : Bool) (p n : ℕ) → p < 2 * n → p + cond x (2 * n) 0 < 4 * n
phase_below true p n l = omega arith
phase_below false p n l = omega arith

-- a phase is one of 4n
phase_of-below : (n : ℕ) (c : Configuration) → IsConfiguration c → stations c ≡ n + 1
    → IsLegitimate c → phase_of n c < 4 * n
phase_of-below n c h e one =
    let count = length-privileges_of c h in
    let long = length-map-range_with_len (mark_at c) 0 (stations c - 1) in
    let most = place-most (marks_of c) 0 (omega arith) in
    phase_below (x_at c 0) (place 0 (marks_of c)) n (omega arith)

-- ---- equal exactly after a multiple of 4n moves

module _ (w t a b p q r s : ℕ) (below_p : p < w) (below_q : q < w) (order : a ≤ b)
    (at_a : t + a ≡ r * w + p) (at_b : t + b ≡ s * w + q) where
  -- the same phase
  whole_rounds : p ≡ q → (b - a) % w ≡ 0
  whole_rounds e =
      let d = b - a in
      let left = d % w in
      let below : left < w = mod_below d w (omega arith) in
      let split = div-add-mod d w in
      let parts : s * w + 0 ≡ (r + d / w) * w + left = omega arith in
      sym (mod-mul-add (r + d / w) w left below) ∙ ap (λ k. k % w) (sym parts)
      ∙ mod-mul-add s w 0 (omega arith)

  same_phases : (b - a) % w ≡ 0 → p ≡ q
  same_phases e =
      let d = b - a in
      let split = div-add-mod d w in
      let parts : s * w + q ≡ (r + d / w) * w + p = omega arith in
      sym (mod-mul-add (r + d / w) w p below_p) ∙ ap (λ k. k % w) (sym parts)
      ∙ mod-mul-add s w q below_q

-- ---- the same from configuration number i on

take-none : (k : ℕ) → take {A = Move} k [] ≡ []
take-none zero = refl
take-none (suc k) = refl

take-add : (i j : ℕ) (moves : List Move)
    → take (i + j) moves ≡ take i moves ++ take j (drop i moves)
take-add zero j moves = ap (λ k. take k moves) (zero-add j)
take-add (suc i) j [] = take-none (suc i + j) ∙ sym (take-none j)
take-add (suc i) j (m ∷ moves) =
    let counted : suc i + j ≡ suc (i + j) = omega arith in
    ap (λ k. take k (m ∷ moves)) counted ∙ ap (λ (ms : List Move). m ∷ ms) (take-add i j moves)

configuration_at-add : (c : Configuration) (moves : List Move) (i j : ℕ)
    → configuration_at c moves (i + j)
    ≡ configuration_at (configuration_at c moves i) (drop i moves) j
configuration_at-add c moves i j =
    ap (after c) (take-add i j moves) ∙ after-append (take i moves) (take j (drop i moves)) c

IsRun-drop : (i : ℕ) (moves : List Move) (c : Configuration) → IsRun c moves
    → IsRun (configuration_at c moves i) (drop i moves)
IsRun-drop zero moves c run = run
IsRun-drop (suc i) [] c run = tt
IsRun-drop (suc i) (m ∷ moves) c run = IsRun-drop i moves (next c m) run.1

-- two configurations of a run from a legitimate one
-- a run of a line of n + 1 stations that is legitimate
record RunsLegitimate (moves : List Move) (c : Configuration) (n : ℕ) : Type 0 where
  is : IsConfiguration c
  long : stations c ≡ n + 1
  run : IsRun c moves
  one : IsLegitimate c

comes_round : (moves : List Move) (c : Configuration) (n a b : ℕ) → RunsLegitimate moves c n → a ≤ b
    → b ≤ length moves
    → (configuration_at c moves a ≡ configuration_at c moves b) ↔ ((b - a) % (4 * n) ≡ 0)
comes_round moves c n a b runs order within =
    let h = runs.is in
    let e = runs.long in
    let run = runs.run in
    let one = runs.one in
    let first = configuration_at c moves a in
    let last = configuration_at c moves b in
    let first_is = IsConfiguration-after (take a moves) c h (IsRun-take a moves c run) in
    let last_is = IsConfiguration-after (take b moves) c h (IsRun-take b moves c run) in
    let first_long = stations-after (take a moves) c ∙ e in
    let last_long = stations-after (take b moves) c ∙ e in
    let first_one = legitimate_run moves c a h run one in
    let last_one = legitimate_run moves c b h run one in
    let first_below = phase_of-below n first first_is first_long first_one in
    let last_below = phase_of-below n last last_is last_long last_one in
    let to_first = rounds moves c n a h e run one (omega arith) in
    let to_last = rounds moves c n b h e run one within in (
      λ same. whole_rounds (4 * n) (phase_of n c) a b (phase_of n first) (phase_of n last)
          to_first.count to_last.count first_below last_below order to_first.reached to_last.reached
          (ap (phase_of n) same),
      λ whole. same_configuration n first last first_is last_is first_long last_long first_one
          last_one
          (same_phases (4 * n) (phase_of n c) a b (phase_of n first) (phase_of n last)
          to_first.count to_last.count first_below last_below order to_first.reached
          to_last.reached whole),
    )

-- After a legitimate configuration all are, and the stations sweep.
pub sweeps : SweepsFromLegitimate
sweeps c moves i h run within one =
    let two = h.at_least_two in
    let n = stations c - 1 in
    let here = configuration_at c moves i in
    let rest = drop i moves in
    let here_is = IsConfiguration-after (take i moves) c h (IsRun-take i moves c run) in
    let e : stations c ≡ n + 1 = omega arith in
    let here_long = stations-after (take i moves) c ∙ e in
    let rest_run = IsRun-drop i moves c run in
    let long = length-drop i moves in
    record {
      legitimate = λ k above below.
          let at : i + (k - i) ≡ k = omega arith in
          let later = legitimate_run rest here (k - i) here_is rest_run one in
          subst IsLegitimate
          (sym (configuration_at-add c moves i (k - i)) ∙ ap (configuration_at c moves) at)
          later;
      stretch = record {
        start = phase_of n here + 1;
        stations_are = stretch_from rest here n here_is here_long rest_run one;
      };
      round = λ a b above order below.
          let at_a : i + (a - i) ≡ a = omega arith in
          let at_b : i + (b - i) ≡ b = omega arith in
          let apart : b - i - (a - i) ≡ b - a = omega arith in
          let to_a = sym (configuration_at-add c moves i (a - i))
          ∙ ap (configuration_at c moves) at_a in
          let to_b = sym (configuration_at-add c moves i (b - i))
          ∙ ap (configuration_at c moves) at_b in
          let both = comes_round rest here n (a - i) (b - i)
          (record { is = here_is; long = here_long; run = rest_run; one = one }) (omega arith)
          (omega arith) in
          rw (to_a, to_b, apart) at both;
    }
