use Rattle.std.proofs.Common.{◌∙◌, List, length, sym, ap, subst}
use Rattle.four_state.specs.Configuration.{stations}
use Rattle.sweep_auditor.specs.RunLaws.{stations-after}
use Rattle.turn_clerk.specs.History.{moves_of}
use Rattle.line_lock.specs.Seat.{SeatState}
use Rattle.office_day.specs.Day.{HaveServed}
use Rattle.office_day.proofs.Days.{length-new_seats}
use Rattle.office_day.proofs.office_run.run_in.Goals as goal

pub served-requires-clause-as_many : goal.served-requires-clause-as_many
served-requires-clause-as_many g c = λ κs within.
    c.requires.as_many ∙ sym (ap length c.requires.seats ∙ length-new_seats g.L.Ledger.parts)

pub returns-in-Ok-close-clause-ran : goal.returns-in-Ok-close-clause-ran
returns-in-Ok-close-clause-ran g c =
    let closing = c.in-Ok-close.ensures in
    let seats = c.in-Ok.both.0.items in
    let makes = λ (lent : List SeatState).
    HaveServed g.D.Device.state g.L.OpenedOn.device g.L.OpenedOn.line lent c.args.desks.items
    seats c.in-Ok.both.1.items c.args.moves
    (g.G.Gate.closes c.args.gate.now) in (
      seats,
      subst makes c.requires.seats c.in-Ok.ensures,
      record {
        one_seat = closing.one_seat;
        borne_out = closing.borne_out;
        counted = closing.counted;
        there = closing.there;
        failed = closing.failed;
      },
    )

pub returns-in-Ok-close-clause-closed : goal.returns-in-Ok-close-clause-closed
returns-in-Ok-close-clause-closed g c =
    let closing = c.in-Ok-close.ensures in
    let clerk = c.in-Ok-close.closing.clerk in
    record {
      stations = ap stations closing.legal.line
          ∙ stations-after (moves_of clerk.history) clerk.opening.line ∙ closing.stations
          ∙ c.requires.one_each;
      opened = closing.opened;
      legal = closing.legal;
      run = closing.run;
      acknowledged = closing.acknowledged;
      at_any_moment = closing.at_any_moment;
      in_sight = closing.in_sight;
      last = closing.last;
      audited = closing.audit;
    }
