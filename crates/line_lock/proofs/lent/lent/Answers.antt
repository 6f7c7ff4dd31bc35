use Rattle.std.proofs.Common.{◌∙◌, ℕ, List, sym, ap, subst}
use Rattle.four_state.specs.Configuration.{stations}
use Rattle.sweep_auditor.specs.RunLaws.{stations-after}
use Rattle.turn_clerk.specs.History.{moves_of}
use Rattle.line_lock.specs.Seat.{SeatState}
use Rattle.line_lock.specs.Lent.{AccountFor}
use Rattle.line_lock.proofs.lent.lent.Goals as goal

pub returns-in-Ok-close-clause-worked : goal.returns-in-Ok-close-clause-worked
returns-in-Ok-close-clause-worked g c =
    let closing = c.in-Ok-close.ensures in
    let clerk = c.in-Ok-close.closing.clerk in
    let seats = c.in-Ok-work.worked.0.items in
    let makes = λ (lent : List SeatState).
    g.W.OfficeWork.makes c.args.work g.L.OpenedOn.device g.L.OpenedOn.line lent seats
    c.in-Ok-work.worked.1 in (
      seats,
      subst makes c.in-Ok.ensures.seats c.in-Ok-work.ensures.made,
      subst (λ (count : ℕ). AccountFor count seats clerk) c.requires.named.one_each (record {
        one_seat = closing.one_seat;
        borne_out = closing.borne_out;
        counted = closing.counted;
        there = closing.there;
        failed = closing.failed;
      }),
    )

pub returns-in-Ok-close-clause-closed : goal.returns-in-Ok-close-clause-closed
returns-in-Ok-close-clause-closed g c =
    let closing = c.in-Ok-close.ensures in
    let clerk = c.in-Ok-close.closing.clerk in
    record {
      stations = ap stations closing.legal.line
          ∙ stations-after (moves_of clerk.history) clerk.opening.line ∙ closing.stations
          ∙ c.requires.named.one_each ∙ sym (ap stations c.requires.named.line);
      opened = closing.opened;
      legal = closing.legal;
      run = closing.run;
      acknowledged = closing.acknowledged;
      at_any_moment = closing.at_any_moment;
      in_sight = closing.in_sight;
      last = closing.last;
      audited = closing.audit;
    }
