-- Laws of what turns answer.
use Rattle.std.specs.Prelude.{◌≡◌, ℕ, zero, suc, ◌+◌, ◌==◌, List, [], ◌∷◌, length, map, count_by}
use Rattle.std.specs.Prelude.{is_ok, is_none, slice_get, Option, Some, None, Ok, Err}
use Rattle.std.specs.List.{All}
use Rattle.std.proofs.Common.{◌∙◌, ap, arith, cond}
use Rattle.std.proofs.lemmas.List.Sums.{sum_by-cons}
use Rattle.std.proofs.lemmas.List.{length-map}
use Rattle.std.proofs.lemmas.Bool.Decides.{nat_tests}
use Rattle.turn_ledger.specs.Entry.{Verdict}
use Rattle.turn_clerk.specs.declared.turns.Turn.{Turn}
use Rattle.station_desk.specs.Outcomes.{outcome_of, outcomes_of, IsDecided}

-- a number is there exactly where a verdict is a yes
abbrev pub IsNumbered : Option ℕ → List Verdict → Type 0
IsNumbered posted verdicts = is_none posted ≡ (count_by is_ok verdicts == 0)

pub counted : (verdict : Verdict) (verdicts : List Verdict)
    → count_by is_ok (verdict ∷ verdicts) ≡ cond (is_ok verdict) 1 0 + count_by is_ok verdicts
counted verdict verdicts = sum_by-cons (λ (v : Verdict). cond (is_ok v) 1 0) verdict verdicts

-- each verdict of a turn with a number is decided
pub decided-some : (number : ℕ) (verdicts : List Verdict)
    → All IsDecided (map (outcome_of (Some number)) verdicts)
decided-some number [] k d within = absurd (omega (arith, within))
decided-some number (Ok unit ∷ verdicts) zero d within = tt
decided-some number (Err refusal ∷ verdicts) zero d within = tt
decided-some number (verdict ∷ verdicts) (suc k) d within =
    decided-some number verdicts k d (omega (arith, within))

-- where no verdict is a yes, each is a refusal
pub decided-none : (verdicts : List Verdict) → count_by is_ok verdicts ≡ 0
    → All IsDecided (map (outcome_of None) verdicts)
decided-none [] none k d within = absurd (omega (arith, within))
decided-none (Ok unit ∷ verdicts) none k d within =
    absurd (omega (arith, none, counted (Ok unit) verdicts))
decided-none (Err refusal ∷ verdicts) none zero d within = tt
decided-none (Err refusal ∷ verdicts) none (suc k) d within =
    decided-none verdicts (omega (arith, none, counted (Err refusal) verdicts)) k d
    (omega (arith, within))

-- a verdict that is a yes is counted
pub accepts_some : (verdicts : List Verdict) (place : ℕ) {verdict : Verdict} {unit : Unit {0}}
    → slice_get verdicts place ≡ Some verdict → verdict ≡ Ok unit → count_by is_ok verdicts ≡ 0 → ⊥
accepts_some [] place here accepts none = cc
accepts_some (Ok u ∷ verdicts) place here accepts none =
    omega (arith, none, counted (Ok u) verdicts)
accepts_some (Err refusal ∷ verdicts) zero {verdict} {unit} here accepts none =
    let err : Some (Err refusal) ≡ Some (Ok unit) = here ∙ ap (λ (w : Verdict). Some w) accepts in
    cc
accepts_some (Err refusal ∷ verdicts) (suc place) here accepts none =
    accepts_some verdicts place here accepts (omega (arith, none, counted (Err refusal) verdicts))

-- a turn decides each of its entries
pub outcomes-decided : (posted : Option ℕ) (verdicts : List Verdict) → IsNumbered posted verdicts
    → All IsDecided (map (outcome_of posted) verdicts)
outcomes-decided (Some number) verdicts numbered = decided-some number verdicts
outcomes-decided None verdicts numbered = decided-none verdicts (grind (arith, nat_tests, numbered))

-- a turn says what became of each of its entries
pub length-outcomes_of : (turn : Turn) → length (outcomes_of turn) ≡ length turn.entries
length-outcomes_of turn = length-map turn.verdicts (outcome_of turn.posted) ∙ turn.judged_each

-- a turn that accepts an entry has a number
pub never_without : (posted : Option ℕ) (verdicts : List Verdict) (place : ℕ) {verdict : Verdict}
    {unit : Unit {0}}
    → posted ≡ None → slice_get verdicts place ≡ Some verdict → verdict ≡ Ok unit
    → IsNumbered posted verdicts → ⊥
never_without (Some number) verdicts place without here accepts numbered = absurd (cc)
never_without None verdicts place without here accepts numbered =
    accepts_some verdicts place here accepts (grind (arith, nat_tests, numbered))
