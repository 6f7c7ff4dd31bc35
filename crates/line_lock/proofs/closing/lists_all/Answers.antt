use Rattle.std.proofs.Common.{ℕ, ◌≡◌, ◌+◌, ◌∙◌, Some, List, sym, ap, subst, length, arith}
use Rattle.std.specs.Prelude.{slice_get}
use Rattle.std.proofs.lemmas.Bool.Decides.{Decides-eqb, Decides-like}
use Rattle.std.proofs.lemmas.Option.{slice_get_within}
use Rattle.turn_clerk.specs.declared.turns.Turn.{Turn}
use Rattle.line_lock.proofs.Listing.{Listed, skipped, counted, differs, all, fewer}
use Rattle.line_lock.proofs.closing.lists_all.Goals.{then-turn-station+else-not-stands_at}
use Rattle.line_lock.proofs.closing.lists_all.Goals.{else-turn-station}
use Rattle.line_lock.proofs.closing.lists_all.Goals as goal

pub returns-then-not-stands_at : goal.returns-then-not-stands_at
returns-then-not-stands_at g c =
    let seat = c.args.seat.now in
    let at = c.loop-turn in
    let turn = c.turn-item.result in
    let own : turn.station ≡ seat.station = c.if-turn-station.true ∙ c.station.ensures.value in (
      λ yes. absurd (cc),
      λ same. absurd (differs seat.station seat.turns c.args.history.now at.listed at.turn-index
          turn c.loop-turn-test.true c.turn-item.is at.invariant.1 own at.invariant.0
          (λ stands.
          let there : c.stands_at.result ≡ _ =
          c.stands_at.ensures.1
          (ap (λ (ts : List Turn). slice_get ts at.listed) c.turns.ensures ∙ stands) in
          let not = c.if-not-stands_at.true in
          cc) same),
    )

pub loop-turn-preserved : goal.loop-turn-preserved
loop-turn-preserved g c =
    let seat = c.args.seat.now in
    let at = c.loop-turn in
    let turn = c.turn-item.result in
    elim c.if-turn-station.branch [
      | then-turn-station+else-not-stands_at w ↦
          let own : turn.station ≡ seat.station =
          w.if-turn-station.true ∙ c.station.ensures.value in
          let next : slice_get seat.turns at.listed ≡ Some turn =
          ap (λ (ts : List Turn). slice_get ts at.listed) (sym w.turns.ensures)
          ∙ w.stands_at.ensures.0 w.if-not-stands_at.false in (
            omega (arith, w.listed-is, slice_get_within seat.turns at.listed turn next),
            subst (λ (n : ℕ).
                Listed seat.station seat.turns c.args.history.now n (at.turn-index + 1))
                (sym w.listed-is)
                (counted seat.station seat.turns c.args.history.now at.listed at.turn-index turn
                c.loop-turn-test.true c.turn-item.is at.invariant.1 own next),
          )
      | else-turn-station w ↦ (
        omega (arith, w.listed-is, at.invariant.0),
        subst (λ (n : ℕ). Listed seat.station seat.turns c.args.history.now n (at.turn-index + 1))
            (sym w.listed-is)
            (skipped seat.station seat.turns c.args.history.now at.listed at.turn-index turn
            c.loop-turn-test.true c.turn-item.is at.invariant.1
            (λ own. w.if-turn-station.false (own ∙ sym c.station.ensures.value))),
      )
    ]

pub returns : goal.returns
returns g c =
    let seat = c.args.seat.now in
    let at = c.loop-turn in
    let size : length c.turns-2.result.now ≡ length seat.turns = ap length c.turns-2.ensures in
    Decides-like _
    (λ whole. all seat.station seat.turns c.args.history.now at.listed at.turn-index
    c.loop-turn-test.false at.invariant.1 (whole ∙ size))
    (λ same. fewer seat.station seat.turns c.args.history.now at.listed at.turn-index
    c.loop-turn-test.false at.invariant.1 at.invariant.0 same ∙ sym size)
    (Decides-eqb at.listed (length c.turns-2.result.now))
