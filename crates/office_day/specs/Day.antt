-- What became of the entries that stations held, in a day of their office.
use Rattle.std.specs.Prelude.{◌≡◌, ◌<◌, ℕ, List, ◌++◌, length, sum_by, All}
use Rattle.std.specs.List.{slice_index_or}
use Rattle.sector_device.specs.Device.{DeviceState}
use Rattle.turn_ledger.specs.declared.entry.Entry.{Entry}
use Rattle.four_state.specs.Configuration.{Configuration}
use Rattle.turn_clerk.specs.declared.turns.Turn.{Turn}
use Rattle.turn_clerk.specs.declared.refusals.TurnRefusal.TheVariants.{Device}
use Rattle.turn_clerk.specs.Clerk.{ClerkState}
use Rattle.line_lock.specs.Account.{turns_of}
use Rattle.station_desk.specs.declared.messages.Ask.{Ask}
use Rattle.station_desk.specs.declared.end.End.{End}
use Rattle.station_desk.specs.declared.end.End.TheVariants.{Refused}
use Rattle.station_desk.specs.Messages.{entries_of, asks_of, outcomes_in, AreNumberedFrom}
use Rattle.station_desk.specs.Outcomes.{undecided}
use Rattle.station_desk.specs.Rings.{FeedState, DeskState}
use Rattle.line_lock.specs.Seat.{SeatState}
use Rattle.station_desk.specs.Run.{HasRun}
use Rattle.station_desk.specs.Served.{entries_of_turns, outcomes_of_turns}
use Rattle.office_day.specs.Ended.{HasEnded}
use Rattle.office_day.specs.declared.reconciled.StationDay.{StationDay}
use Rattle.office_day.specs.declared.seated.StationRemains.{StationRemains}

-- A station's entries are accounted for by these turns of its office's history: each of them
-- stands, in order and under its ticket, in an answer or is unanswered; the answers are, in order,
-- what became of the entries of the turns, and then Undecided for requests that were given up.
pub record IsAccountedFor (entries : List Entry) (turns : List Turn)
    (day : StationDay) : Type 0 where
  pub given_up : List Ask
  pub in_order : entries_of (asks_of day.answers.items ++ day.unanswered.items) ≡ entries
  pub tickets : AreNumberedFrom 0 (asks_of day.answers.items ++ day.unanswered.items)
  pub answered : entries_of (asks_of day.answers.items)
      ≡ entries_of_turns turns ++ entries_of given_up
  pub outcomes : outcomes_in day.answers.items ≡ outcomes_of_turns turns ++ undecided given_up

-- A station had its day: all that it held is accounted for by the turns that the clerk's history
-- has of it, each of which it took while the history had fewer than `moves`; and so it ended, and
-- nobody sent it home.
pub record HadDay {D : Type 0} (clerk : ClerkState D) (moves station : ℕ) (entries : List Entry)
    (day : StationDay) : Type 0 where
  pub account : IsAccountedFor entries (turns_of station clerk.history) day
  pub within : All (λ turn. turn.index < moves) (turns_of station clerk.history)
  pub ended : HasEnded clerk moves station ⊥ day.end account.given_up

-- Each station had its day, with what it held, in the office of that clerk.
pub record HadTheirDay {D : Type 0} (clerk : ClerkState D) (moves : ℕ) (held : List (List Entry))
    (days : List StationDay) : Type 0 where
  pub as_many : length days ≡ length held
  pub each : (i : ℕ) (entries : List Entry) (day : StationDay) → i < length held
      → HadDay clerk moves i (slice_index_or held i entries) (slice_index_or days i day)

-- in how many of its turns a station that ended so was told that the device failed
abbrev pub failures : End → ℕ
failures (Refused Device) = 1
failures _ = 0

-- in how many turns of a day a station was told so
abbrev pub failures_told : List StationDay → ℕ
failures_told days = sum_by (λ (day : StationDay). failures day.end) days

-- The requests of a feed, and what its desk gave, stand in the station's day.
pub record IsReconciled (feed : FeedState) (left : StationRemains) (day : StationDay) : Type 0 where
  pub end : day.end ≡ left.end
  pub asked : feed.asked
      ≡ asks_of feed.collected ++ asks_of day.answers.items ++ day.unanswered.items
  pub given : left.desk.given ≡ feed.collected ++ day.answers.items
  pub tickets : AreNumberedFrom 0 feed.asked

-- Each feed's do, in order.
pub record AreReconciled (feeds : List FeedState) (left : List StationRemains)
    (days : List StationDay) : Type 0 where
  pub as_many : length days ≡ length feeds
  pub each : (i : ℕ) (feed : FeedState) (part : StationRemains) (day : StationDay)
      → i < length feeds
      → IsReconciled (slice_index_or feeds i feed) (slice_index_or left i part)
      (slice_index_or days i day)

-- The stations at these seats and desks have run, and left what they then had.
pub record HaveServed {D : Type 0} (state : D → DeviceState) (device : DeviceState)
    (from : Configuration)
    (seats : List SeatState) (desks : List DeskState) (after : List SeatState)
    (left : List StationRemains)
    (moves : ℕ)
    (closes : Type 0) : Type 0 where
  pub seats_as_many : length after ≡ length seats
  pub left_as_many : length left ≡ length seats
  pub each : (i : ℕ) (seat : SeatState) (desk : DeskState) (part : StationRemains)
      → i < length seats
      → HasRun state device from (slice_index_or seats i seat) (slice_index_or after i seat)
      (slice_index_or desks i desk)
      (slice_index_or left i part).desk (slice_index_or left i part).end moves closes
