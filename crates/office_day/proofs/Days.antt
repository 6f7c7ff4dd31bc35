-- A day of every station, from what was done one after another.
use Rattle.std.specs.Prelude.{◌≡◌, ◌<◌, ℕ, List, [], ◌++◌, length, All}
use Rattle.std.specs.List.{AllZip, slice_index_or, range_with_len}
use Rattle.std.proofs.Common.{sym, ◌∙◌, ap, subst, arith}
use Rattle.std.proofs.lemmas.List.{length-map}
use Rattle.std.proofs.lemmas.List.FromFn.{get_or-map-range_with_len, length-range_with_len}
use Rattle.std.proofs.lemmas.Slice.Zip.{AllZip-long}
use Rattle.sector_device.specs.Device.{DeviceState}
use Rattle.turn_ledger.specs.declared.entry.Entry.{Entry}
use Rattle.four_state.specs.Configuration.{Configuration}
use Rattle.turn_clerk.specs.declared.turns.Turn.{Turn}
use Rattle.line_lock.specs.Seat.{SeatState, new_seat}
use Rattle.line_lock.specs.Account.{turns_of, IsBorneOut}
use Rattle.line_lock.specs.Lent.{new_seats}
use Rattle.station_desk.specs.declared.messages.Answer.{Answer}
use Rattle.station_desk.specs.declared.end.End.TheVariants.{NotStarted}
use Rattle.station_desk.specs.Messages.{entries_of, asks_of, outcomes_in, AreNumberedFrom}
use Rattle.station_desk.specs.Outcomes.{undecided}
use Rattle.station_desk.specs.Rings.{FeedState, DeskState, AreTogether}
use Rattle.station_desk.specs.Served.{entries_of_turns, outcomes_of_turns}
use Rattle.station_desk.specs.Run.{HasRun}
use Rattle.office_day.specs.declared.reconciled.StationDay.{StationDay}
use Rattle.office_day.specs.declared.seated.StationRemains.{StationRemains}
use Rattle.turn_clerk.specs.Clerk.{ClerkState}
use Rattle.station_desk.specs.declared.end.End.{End}
use Rattle.office_day.specs.Ended.{HasEnded}
use Rattle.office_day.proofs.Ended.{has_ended}
use Rattle.office_day.specs.HandedIn.{HasHandedIn, IsFresh}
use Rattle.office_day.specs.Day.{HadDay, HadTheirDay, IsReconciled, AreReconciled, HaveServed}
use Rattle.office_day.proofs.Lists.{AllZip-at, first}

-- What a day has of its stations, each list in their order.
pub record Parts : Type 0 where
  pub held : List (List Entry)
  pub feeds : List FeedState
  pub desks : List DeskState
  pub after : List SeatState
  pub left : List StationRemains
  pub days : List StationDay

-- How a day went in an office that was opened on that device with that line, and has this clerk:
-- what each station holds is handed in, it runs from a new seat and a fresh desk, nobody sends it
-- home, the clerk bears out what its seat then holds, and its requests are reconciled.
pub record Went {D : Type 0} (state : D → DeviceState) (device : DeviceState) (from : Configuration)
    (clerk : ClerkState D) (moves : ℕ) (parts : Parts) : Type 0 where
  pub handed : AllZip HasHandedIn parts.held parts.feeds
  pub together : AllZip AreTogether parts.feeds parts.desks
  pub fresh : All IsFresh parts.desks
  pub served : HaveServed state device from (new_seats (length parts.held)) parts.desks parts.after
      parts.left moves ⊥
  pub borne_out : All (IsBorneOut clerk) parts.after
  pub reconciled : AreReconciled parts.feeds parts.left parts.days

-- how many seats an opening hands out
pub length-new_seats : (n : ℕ) → length (new_seats n) ≡ n
length-new_seats n = length-map (range_with_len 0 n) new_seat ∙ length-range_with_len 0 n

-- the seat at one place of them
pub new_seat_at : (n i : ℕ) (seat : SeatState) → i < n
    → slice_index_or (new_seats n) i seat ≡ new_seat i
new_seat_at n i seat low = get_or-map-range_with_len new_seat 0 n i i seat low (omega arith)

-- the day of one station
record One {D : Type 0} (state : D → DeviceState) (device : DeviceState) (from : Configuration)
    (clerk : ClerkState D) (moves i : ℕ) : Type 0 where
  entries : List Entry
  feed : FeedState
  before : DeskState
  seat : SeatState
  after : SeatState
  left : StationRemains
  day : StationDay
  sat : seat ≡ new_seat i
  handed : HasHandedIn entries feed
  fresh : IsFresh before
  ran : HasRun state device from seat after before left.desk left.end moves ⊥
  out : IsBorneOut clerk after
  done : IsReconciled feed left day

had_day : {D : Type 0} {state : D → DeviceState} {device : DeviceState} {from : Configuration}
    {clerk : ClerkState D} {moves i : ℕ} (one : One state device from clerk moves i)
    → HadDay clerk moves i one.entries one.day
had_day {clerk = clerk} {moves = moves} {i = i} one =
    let history = clerk.history in
    let worked = one.ran.worked in
    let served = worked.served in
    let station : one.after.station ≡ i =
    worked.station ∙ ap (λ (s : SeatState). s.station) one.sat in
    let none : one.seat.turns ≡ [] = ap (λ (s : SeatState). s.turns) one.sat in
    let turns : worked.turns ≡ turns_of i history =
    sym (worked.listed ∙ ap (λ (l : List Turn). l ++ worked.turns) none) ∙ one.out.turns
    ∙ ap (λ s. turns_of s history) station in
    let more : one.day.answers.items ≡ served.more =
    sym (one.done.given ∙ ap (λ (l : List Answer). l ++ one.day.answers.items) one.handed.collected)
    ∙ served.given ∙ ap (λ (l : List Answer). l ++ served.more) one.fresh in
    let asked : one.feed.asked ≡ asks_of one.day.answers.items ++ one.day.unanswered.items =
    one.done.asked ∙ ap
    (λ (l : List Answer). asks_of l ++ asks_of one.day.answers.items
    ++ one.day.unanswered.items) one.handed.collected in
    record {
      account = record {
        given_up = worked.given_up;
        in_order = ap entries_of (sym asked) ∙ one.handed.asked;
        tickets = subst (AreNumberedFrom 0) asked one.done.tickets;
        answered = ap (λ (l : List Answer). entries_of (asks_of l)) more ∙ served.entries
            ∙ ap (λ (l : List Turn). entries_of_turns l ++ entries_of worked.given_up) turns;
        outcomes = ap outcomes_in more ∙ served.outcomes
            ∙ ap (λ (l : List Turn). outcomes_of_turns l ++ undecided worked.given_up) turns;
      };
      within = subst (All (λ turn. turn.index < moves)) turns worked.within;
      ended = subst (λ (end : End). HasEnded clerk moves i ⊥ end worked.given_up) (sym one.done.end)
          (has_ended clerk i one.seat one.after one.before one.left.desk one.left.end one.sat
          one.ran one.out);
    }

pub had_their_day : {D : Type 0} {state : D → DeviceState} {device : DeviceState}
    {from : Configuration} {clerk : ClerkState D} {moves : ℕ} {parts : Parts}
    → Went state device from clerk moves parts → HadTheirDay clerk moves parts.held parts.days
had_their_day {parts = parts} went =
    let count = length parts.held in
    let as_many = AllZip-long HasHandedIn parts.held parts.feeds went.handed in
    let at_desks = AllZip-long AreTogether parts.feeds parts.desks went.together in
    let seats = length-new_seats count in
    record {
      as_many = went.reconciled.as_many ∙ as_many;
      each = λ i entries day low.
          let in_feeds : i < length parts.feeds = omega (arith, low, as_many) in
          let in_desks : i < length parts.desks = omega (arith, in_feeds, at_desks) in
          let in_seats : i < length (new_seats count) = omega (arith, low, seats) in
          let in_after : i < length parts.after =
          omega (arith, in_seats, went.served.seats_as_many) in
          let feed = first parts.feeds (omega (arith, in_feeds)) in
          let desk = first parts.desks (omega (arith, in_desks)) in
          let seat = new_seat 0 in
          let part : StationRemains = record { desk = desk; end = NotStarted } in
          had_day (record {
            entries = slice_index_or parts.held i entries;
            feed = slice_index_or parts.feeds i feed;
            before = slice_index_or parts.desks i desk;
            seat = slice_index_or (new_seats count) i seat;
            after = slice_index_or parts.after i seat;
            left = slice_index_or parts.left i part;
            day = slice_index_or parts.days i day;
            sat = new_seat_at count i seat low;
            handed = AllZip-at HasHandedIn parts.held parts.feeds i entries feed went.handed low;
            fresh = went.fresh i desk in_desks;
            ran = went.served.each i seat desk part in_seats;
            out = went.borne_out i seat in_after;
            done = went.reconciled.each i feed part day in_feeds;
          });
    }
