-- A seat's list beside the turns of its station, one turn of the history after another.
use Rattle.std.proofs.Common.{◌≡◌, ◌≢◌, ◌+◌, ◌<◌, ◌≤◌, ◌==◌, ◌∷◌, ◌++◌, [], ℕ, Bool, true, false}
use Rattle.std.proofs.Common.{cond, List, length, take, drop, get_or, Some, refl, sym, ◌∙◌, ap}
use Rattle.std.proofs.Common.{arith, append_assoc}
use Rattle.std.specs.Prelude.{slice_get}
use Rattle.std.proofs.lemmas.List.{at_drop_more, take_more, take_all, drop_all, append-nil}
use Rattle.std.proofs.lemmas.List.{length-take-le}
use Rattle.std.proofs.lemmas.Bool.Decides.{nat_tests}
use Rattle.std.proofs.lemmas.Option.{slice_get_within, get_or_from_slice_get}
use Rattle.turn_clerk.specs.declared.turns.Turn.{Turn}
use Rattle.line_lock.specs.Account.{turns_of}

-- the station's turns of a history are those listed so far, and those of the rest
abbrev pub Listed : ℕ → List Turn → List Turn → ℕ → ℕ → Type 0
Listed station turns history listed index =
    turns_of station history ≡ take listed turns ++ turns_of station (drop index history)

-- the item at a seam of two lists
seam : (xs : List Turn) (y : Turn) (ys : List Turn) → slice_get (xs ++ y ∷ ys) (length xs) ≡ Some y
seam [] y ys = refl
seam (x ∷ xs) y ys = seam xs y ys

module _ (station : ℕ) (turns history : List Turn) (listed index : ℕ) (turn : Turn)
    (within : index < length history) (is : turn ≡ get_or history index turn)
    (far : Listed station turns history listed index) where
  -- the rest begins with this turn
  rest : drop index history ≡ turn ∷ drop (index + 1) history
  rest =
      at_drop_more (λ (ts : List Turn). ts) history index turn within
      ∙ ap (λ (t : Turn). t ∷ drop (index + 1) history) (sym is)

  -- whether it is the station's or not
  goes_on : (b : Bool) → (turn.station == station) ≡ b
      → turns_of station history
      ≡ take listed turns
      ++ cond b (turn ∷ turns_of station (drop (index + 1) history))
      (turns_of station (drop (index + 1) history))
  goes_on b which =
      far
      ∙ ap (λ (ts : List Turn). take listed turns ++ turns_of station ts) rest
      ∙ ap (λ (c : Bool). take listed turns
      ++ cond c (turn ∷ turns_of station (drop (index + 1) history))
      (turns_of station (drop (index + 1) history))) which

  pub skipped : turn.station ≢ station → Listed station turns history listed (index + 1)
  skipped other = goes_on false (grind (arith, nat_tests, other))

  pub counted : turn.station ≡ station → slice_get turns listed ≡ Some turn
      → Listed station turns history (listed + 1) (index + 1)
  counted own next =
      goes_on true (grind (arith, nat_tests, own))
      ∙ sym (append_assoc (take listed turns) (turn ∷ [])
      (turns_of station (drop (index + 1) history)))
      ∙ ap (λ (ts : List Turn). ts ++ turns_of station (drop (index + 1) history))
      (ap (λ (t : Turn). take listed turns ++ t ∷ [])
      (sym (get_or_from_slice_get turns listed turn turn next))
      ∙ sym (take_more turns listed turn (slice_get_within turns listed turn next)))

  -- where another turn, or none, is the next in the list
  pub differs : turn.station ≡ station → listed ≤ length turns → slice_get turns listed ≢ Some turn
      → turns ≢ turns_of station history
  differs own most other same =
      let whole : turns ≡ take listed turns ++ turn ∷ turns_of station (drop (index + 1) history) =
      same ∙ goes_on true (grind (arith, nat_tests, own)) in
      other (ap (λ (ts : List Turn). slice_get ts listed) whole
      ∙ ap (slice_get (take listed turns ++ turn ∷ turns_of station (drop (index + 1) history)))
      (sym (length-take-le listed turns most))
      ∙ seam (take listed turns) turn (turns_of station (drop (index + 1) history)))

-- at the end of the history
pub all : (station : ℕ) (turns history : List Turn) (listed index : ℕ) → length history ≤ index
    → Listed station turns history listed index → listed ≡ length turns
    → turns ≡ turns_of station history
all station turns history listed index past far whole =
    sym (far
    ∙ ap (λ (ts : List Turn). take listed turns ++ turns_of station ts)
    (drop_all index history past)
    ∙ append-nil (take listed turns)
    ∙ take_all listed turns (omega (arith, whole)))

pub fewer : (station : ℕ) (turns history : List Turn) (listed index : ℕ) → length history ≤ index
    → Listed station turns history listed index → listed ≤ length turns
    → turns ≡ turns_of station history → listed ≡ length turns
fewer station turns history listed index past far most same =
    let whole : turns ≡ take listed turns =
    same ∙ far ∙ ap (λ (ts : List Turn). take listed turns ++ turns_of station ts)
    (drop_all index history past) ∙ append-nil (take listed turns) in
    sym (ap length whole ∙ length-take-le listed turns most)
