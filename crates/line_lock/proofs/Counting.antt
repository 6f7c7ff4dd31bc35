-- Seats that hold all turns of their stations, one seat for each station, hold as many turns as the
-- history has.
use Rattle.std.proofs.Common.{◌≡◌, ◌+◌, ◌<◌, ◌==◌, ◌∷◌, [], ℕ, suc, Bool, true, false, cond, List}
use Rattle.std.proofs.Common.{length, refl, sym, ◌∙◌, ap, subst, arith, inl, inr}
use Rattle.std.specs.List.{sum_by, All}
use Rattle.std.proofs.lemmas.Bool.{cases_eq}
use Rattle.std.proofs.lemmas.List.Sums.{sum_by-cons}
use Rattle.std.proofs.lemmas.List.Elements.{All-nil, All-cons}
use Rattle.std.proofs.lemmas.Bool.Decides.{nat_tests}
use Rattle.four_state.specs.Configuration.{Configuration, IsConfiguration, stations}
use Rattle.four_state.specs.MotionLaws.{privileged_stands, IsConfiguration-moved, stations-moved}
use Rattle.sweep_auditor.specs.Run.{next, IsRun}
use Rattle.turn_clerk.specs.declared.turns.Turn.{Turn}
use Rattle.turn_clerk.specs.History.{move_of, moves_of}
use Rattle.turn_clerk.specs.Clerk.{ClerkState}
use Rattle.line_lock.specs.Seat.{SeatState}
use Rattle.line_lock.specs.Account.{turns_of, seats_of, IsBorneOut}

-- each turn of a run is one of a station of the line
pub all_there : (history : List Turn) (c : Configuration) → IsConfiguration c
    → IsRun c (moves_of history)
    → All (λ turn. turn.station < stations c) history
all_there [] c line run = All-nil (λ (turn : Turn). turn.station < stations c)
all_there (turn ∷ turns) c line run =
    let privilege = run.0.privilege in
    let after = next c (move_of turn) in
    let same : stations after ≡ stations c = stations-moved c turn.station turn.rule in
    let rest : All (λ turn. turn.station < stations after) turns =
    all_there turns after (IsConfiguration-moved c turn.station turn.rule line privilege) run.1 in
    All-cons (λ turn. turn.station < stations c) turn turns
    (privileged_stands c turn.station turn.rule line privilege)
    (subst (λ (n : ℕ). All (λ turn. turn.station < n) turns) same rest)

-- two sums over the same seats
pub sum_by-both : (f h : SeatState → ℕ) (seats : List SeatState)
    → sum_by (λ s. f s + h s) seats ≡ sum_by f seats + sum_by h seats
sum_by-both f h [] = refl
sum_by-both f h (seat ∷ seats) =
    let both = sum_by-cons (λ (s : SeatState). f s + h s) seat seats in
    let one = sum_by-cons f seat seats in
    let other = sum_by-cons h seat seats in
    let rest = sum_by-both f h seats in
    omega arith

none : (seats : List SeatState) → sum_by (λ s. 0) seats ≡ 0
none [] = refl
none (seat ∷ seats) =
    let here = sum_by-cons (λ (s : SeatState). 0) seat seats in
    let rest = none seats in
    omega arith

-- one turn more, at a seat
longer : (b : Bool) (turn : Turn) (turns : List Turn)
    → length (cond b (turn ∷ turns) turns) ≡ cond b 1 0 + length turns
longer true turn turns = omega arith
longer false turn turns = omega arith

swapped : (a b : ℕ) → (a == b) ≡ (b == a)
swapped a b = elim (cases_eq a b) [
  | inl same ↦
      let yes : (a == b) ≡ true = grind (arith, nat_tests, same) in
      let back : (b == a) ≡ true = grind (arith, nat_tests, same) in
      yes ∙ sym back
  | inr differs ↦
      let no : (a == b) ≡ false = grind (arith, nat_tests, differs) in
      let back : (b == a) ≡ false = grind (arith, nat_tests, differs) in
      no ∙ sym back
]

one_more : (station : ℕ) (turn : Turn) (turns : List Turn)
    → length (turns_of station (turn ∷ turns))
    ≡ cond (station == turn.station) 1 0 + length (turns_of station turns)
one_more station turn turns =
    longer (turn.station == station) turn (turns_of station turns)
    ∙ ap (λ (b : Bool). cond b 1 0 + length (turns_of station turns)) (swapped turn.station station)

-- the turns of the stations below a number, one seat for each
all_turns : (n : ℕ) (history : List Turn) (seats : List SeatState)
    → All (λ turn. turn.station < n) history
    → ((k : ℕ) → k < n → seats_of k seats ≡ 1)
    → sum_by (λ seat. length (turns_of seat.station history)) seats ≡ length history
all_turns n [] seats there one = none seats
all_turns n (turn ∷ turns) seats there one =
    let held : List Turn → SeatState → ℕ = λ turns seat. length (turns_of seat.station turns) in
    let own : SeatState → ℕ = λ seat. cond (seat.station == turn.station) 1 0 in
    let rest : sum_by (held turns) seats ≡ length turns =
    all_turns n turns seats (λ k d lt. there (suc k) d (omega (arith, lt))) one in
    let split : sum_by (held (turn ∷ turns)) seats ≡ sum_by own seats + sum_by (held turns) seats =
    ap (λ (f : SeatState → ℕ). sum_by f seats) (λ i seat. one_more seat.station turn turns i)
    ∙ sum_by-both own (held turns) seats in
    let once : seats_of turn.station seats ≡ 1 = one turn.station (there 0 turn (omega arith)) in
    omega (arith, rest, split, once)

-- what stands in their lists
listed : {D : Type 0} (clerk : ClerkState D) (seats : List SeatState) → All (IsBorneOut clerk) seats
    → sum_by (λ seat. length seat.turns) seats
    ≡ sum_by (λ seat. length (turns_of seat.station clerk.history)) seats
listed clerk [] all = refl
listed clerk (seat ∷ seats) all =
    let here = ap length (all 0 seat (omega arith)).turns in
    let rest = listed clerk seats (λ k d lt. all (suc k) d (omega (arith, lt))) in
    let one = sum_by-cons (λ (s : SeatState). length s.turns) seat seats in
    let other = sum_by-cons (λ (s : SeatState). length (turns_of s.station clerk.history)) seat
    seats in
    omega arith

pub hold_all : {D : Type 0} (n : ℕ) (clerk : ClerkState D) (seats : List SeatState)
    → All (λ turn. turn.station < n) clerk.history
    → ((k : ℕ) → k < n → seats_of k seats ≡ 1) → All (IsBorneOut clerk) seats
    → length clerk.history ≡ sum_by (λ seat. length seat.turns) seats
hold_all n clerk seats there one borne =
    sym (listed clerk seats borne ∙ all_turns n clerk.history seats there one)
