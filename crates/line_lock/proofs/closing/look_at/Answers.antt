use Rattle.std.proofs.Common.{rules, ◌≡◌, ◌<◌, ◌∙◌, ℕ, All, sym, ap, subst, arith}
use Rattle.std.proofs.lemmas.List.{take_all}
use Rattle.std.proofs.lemmas.List.Elements.{All-more}
use Rattle.four_state.specs.Configuration.{IsConfiguration, stations}
use Rattle.sweep_auditor.specs.RunLaws.{stations-after}
use Rattle.turn_clerk.specs.History.{moves_of}
use Rattle.line_lock.specs.Account.{IsBorneOut, IsSeatMissing}
use Rattle.line_lock.proofs.Counting.{all_there, hold_all}
use Rattle.line_lock.proofs.OneEach.{one_each}
use Rattle.line_lock.proofs.closing.look_at.Goals as goal

pub loop-seat-preserved : goal.loop-seat-preserved
loop-seat-preserved g c =
    let clerk = c.args.clerk.now in
    let out : IsBorneOut clerk c.seat-item.result =
    c.is_borne_out.ensures.0 c.if-not-is_borne_out.false in
    All-more (IsBorneOut clerk) c.args.seats.now c.loop-seat.seat-index c.seat-item.result
    c.loop-seat-test.true c.loop-seat.invariant
    (subst (IsBorneOut clerk) c.seat-item.is out)

pub returns-clause-one_each : goal.returns-clause-one_each
returns-clause-one_each g c =
    let stations = c.stations-stations.result in
    let parts : stations ≡ g.L.Ledger.parts = search rules in
    let none_missing = c.is_seat_missing.ensures.1 in
    let no = c.if-is_seat_missing.false in
    λ station lt.
    one_each stations c.args.seats.now c.if-seats-stations.false
    (λ k there none. let missing : IsSeatMissing stations c.args.seats.now =
    record { station = k; there = there; none = none } in let yes = none_missing missing in cc)
    station (omega (arith, lt, parts))

pub returns-clause-borne_out : goal.returns-clause-borne_out
returns-clause-borne_out g c =
    let seats = c.args.seats.now in
    subst (All (IsBorneOut c.args.clerk.now))
    (take_all c.loop-seat.seat-index seats c.loop-seat-test.false) c.loop-seat.invariant

pub returns-clause-there : goal.returns-clause-there
returns-clause-there g c =
    let clerk = c.args.clerk.now in
    let line : IsConfiguration clerk.opening.line =
    subst IsConfiguration c.opening.ensures c.stations.ensures.line.configuration in
    let parts : stations clerk.opening.line ≡ g.L.Ledger.parts =
    sym (ap stations c.legal_history.ensures.legal.line
    ∙ stations-after (moves_of clerk.history) clerk.opening.line) ∙ c.requires in
    subst (λ (n : ℕ). All (λ turn. turn.station < n) clerk.history) parts
    (all_there clerk.history clerk.opening.line line c.legal_history.ensures.run)

pub returns-clause-counted : goal.returns-clause-counted
returns-clause-counted g c =
    let clerk = c.args.clerk.now in
    hold_all g.L.Ledger.parts clerk c.args.seats.now (returns-clause-there g c)
    (returns-clause-one_each g c) (returns-clause-borne_out g c)
