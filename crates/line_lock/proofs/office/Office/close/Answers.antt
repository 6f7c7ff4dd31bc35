use Rattle.std.proofs.Common.{◌≡◌, ◌+◌, ◌∙◌, List, length, sym, ap, subst, arith}
use Rattle.std.specs.List.{sum_by}
use Rattle.four_state.specs.Configuration.{stations}
use Rattle.sweep_auditor.specs.RunLaws.{stations-after}
use Rattle.turn_clerk.specs.History.{moves_of}
use Rattle.line_lock.specs.Seat.{SeatState}
use Rattle.line_lock.specs.Account.{seats_of}
use Rattle.line_lock.proofs.Counting.{sum_by-both}
use Rattle.line_lock.proofs.office.Office.close.Goals as goal

pub returns-clause-stations : goal.returns-clause-stations
returns-clause-stations g c =
    let clerk = c.locked.inside.clerk in
    sym (ap stations c.legal_history.ensures.legal.line
    ∙ stations-after (moves_of clerk.history) clerk.opening.line) ∙ c.locked.invariant.for_each

pub returns-clause-one_seat : goal.returns-clause-one_seat
returns-clause-one_seat g c = λ station there.
    subst (λ (seats : List SeatState). seats_of station seats ≡ 1) c.as_slice.ensures.value
    (c.in_default.ensures.one_each station there)

pub returns-clause-failed : goal.returns-clause-failed
returns-clause-failed g c =
    let clerk = c.locked.inside.clerk in
    let seats = c.args.seats.items in
    let both : sum_by (λ (seat : SeatState). length seat.turns + seat.failed) seats
    ≡ sum_by (λ (seat : SeatState). length seat.turns) seats
    + sum_by (λ (seat : SeatState). seat.failed) seats =
    sum_by-both (λ seat. length seat.turns) (λ seat. seat.failed) seats in
    let listed : length clerk.history ≡ sum_by (λ (seat : SeatState). length seat.turns) seats =
    subst (λ (seats : List SeatState). length clerk.history
    ≡ sum_by (λ (seat : SeatState). length seat.turns) seats) c.as_slice.ensures.value
    c.in_default.ensures.counted in
    let many : length seats ≡ g.L.Ledger.parts =
    sym (ap length c.as_slice.ensures.value) ∙ c.in_default.ensures.as_many in
    omega (
      arith,
      both,
      listed,
      many,
      c.audit.ensures.whole,
      c.audit.ensures.amount,
      c.audit.ensures.total,
      c.gathered.ensures.parts,
      c.gathered.ensures.amount,
      c.locked.invariant.counted,
    )
