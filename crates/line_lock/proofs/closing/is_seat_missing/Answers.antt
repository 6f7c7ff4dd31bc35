use Rattle.std.proofs.Common.{ℕ, inl, inr, sym, ◌∙◌, ap, arith}
use Rattle.std.proofs.lemmas.Bool.{cases_eq}
use Rattle.line_lock.specs.Account.{seats_of}
use Rattle.line_lock.proofs.closing.is_seat_missing.Goals as goal

pub loop-station-preserved : goal.loop-station-preserved
loop-station-preserved g c = λ k lt none. elim (cases_eq k c.loop-station.station) [
  | inl here ↦ c.if-seats_of-eq0.false
      (c.seats_of.ensures ∙ ap (λ (n : ℕ). seats_of n c.args.seats.now) (sym here) ∙ none)
  | inr before ↦ c.loop-station.invariant k (omega (arith, lt, before)) none
]

pub returns : goal.returns
returns g c = (
  λ yes. absurd (cc),
  λ missing. absurd
      (c.loop-station.invariant missing.station
      (omega (arith, missing.there, c.loop-station-test.false)) missing.none),
)
