-- How a station ended, from what was done at its seat.
use Rattle.std.specs.Prelude.{◌≡◌, ℕ, List, Option, Some, None, IsSomeAnd, IfSome}
use Rattle.std.proofs.Common.{◌∙◌, ap, subst, arith}
use Rattle.sector_device.specs.Device.{DeviceState}
use Rattle.turn_ledger.specs.declared.entry.Entry.{Entry}
use Rattle.turn_ledger.specs.Screen.{accepted}
use Rattle.four_state.specs.Configuration.{Configuration}
use Rattle.turn_clerk.specs.Clerk.{ClerkState}
use Rattle.line_lock.specs.Seat.{SeatState, new_seat}
use Rattle.line_lock.specs.Account.{IsBorneOut}
use Rattle.station_desk.specs.declared.messages.Ask.{Ask}
use Rattle.station_desk.specs.declared.end.End.{End}
use Rattle.station_desk.specs.Rings.{DeskState}
use Rattle.station_desk.specs.Run.{HasRun}
use Rattle.office_day.specs.Ended.{WasOnceDenied, HasEnded}

-- what holds of each number that there is, and one that there is
there_is : (P Q : ℕ → Type 0) (told : Option ℕ) → IsSomeAnd told P → IfSome told Q → (n : ℕ) × Q n
there_is P Q (Some n) _ holds = (n, holds)
there_is P Q None x holds = elim x [ ]

pub has_ended : {D : Type 0} (clerk : ClerkState D) {state : D → DeviceState} {device : DeviceState}
    {from : Configuration} {moves : ℕ} {closes : Type 0} (station : ℕ) (old new : SeatState)
    (before after : DeskState) (end : End)
    → old ≡ new_seat station
    → (ran : HasRun state device from old new before after end moves closes)
    → IsBorneOut clerk new
    → HasEnded clerk moves station closes end ran.worked.given_up
has_ended clerk station old new before after end sat ran out =
    let sits : new.station ≡ station = ran.worked.station ∙ ap (λ (s : SeatState). s.station) sat in
    record {
      reached = λ is. omega (arith, ran.reached is, out.reached);
      tries = λ is. subst (WasOnceDenied clerk.opening.line clerk.history) sits
          (there_is _ _ new.denied (ran.tries is) out.denied);
      undecided = λ is.
          subst (λ (asked : Option (List Entry)).
          IfSome asked (λ entries. clerk.in_flight ≡ Some (accepted clerk.ledger entries)))
          (ran.worked.asked is) out.undecided;
      none_else = ran.worked.undecided;
      not_denied = ran.not_denied;
      there = ran.there;
      started = ran.started;
      closed = ran.closed;
    }

-- that a station may be sent home may be left out
pub ended_anyhow : {D : Type 0} (clerk : ClerkState D) (moves station : ℕ) (closes : Type 0)
    (end : End) (given_up : List Ask) → HasEnded clerk moves station closes end given_up
    → HasEnded clerk moves station (Unit {0}) end given_up
ended_anyhow clerk moves station closes end given_up ended = record {
  reached = ended.reached;
  tries = ended.tries;
  undecided = ended.undecided;
  none_else = ended.none_else;
  not_denied = ended.not_denied;
  there = ended.there;
  started = ended.started;
  closed = λ _. tt;
}
