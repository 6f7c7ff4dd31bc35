-- How many turns a day has, and in how many of them the device failed.
use Rattle.std.specs.Prelude.{◌≡◌, ◌≢◌, ◌==◌, ◌<◌, ◌≤◌, ℕ, Bool, true, false, cond, suc, List, []}
use Rattle.std.specs.Prelude.{◌∷◌, length, sum_by, All, refl}
use Rattle.std.specs.List.{slice_index_or}
use Rattle.std.proofs.Common.{sym, ◌∙◌, ap, subst, arith}
use Rattle.std.proofs.lemmas.Bool.Decides.{nat_tests}
use Rattle.std.proofs.lemmas.List.Elements.{All-nil, All-cons}
use Rattle.std.proofs.lemmas.Option.{slice_get-get_or}
use Rattle.std.proofs.lemmas.Slice.Zip.{AllZip-long}
use Rattle.sector_device.specs.Device.{DeviceState}
use Rattle.turn_ledger.specs.declared.entry.Entry.{Entry}
use Rattle.four_state.specs.Configuration.{Configuration}
use Rattle.journal_recovery.specs.State.{State}
use Rattle.turn_clerk.specs.declared.turns.Turn.{Turn}
use Rattle.turn_clerk.specs.declared.refusals.TurnRefusal.TheVariants.{Faulted, NoStation}
use Rattle.turn_clerk.specs.declared.refusals.TurnRefusal.TheVariants.{NotPrivileged, TooMany}
use Rattle.turn_clerk.specs.declared.refusals.TurnRefusal.TheVariants.{Memory, Exhausted, Device}
use Rattle.turn_clerk.specs.History.{IsLegal}
use Rattle.turn_clerk.specs.Clerk.{ClerkState, KeepsHistory, opening_state}
use Rattle.line_lock.specs.Seat.{SeatState}
use Rattle.line_lock.specs.Lent.{new_seats}
use Rattle.line_lock.specs.Account.{turns_of}
use Rattle.station_desk.specs.declared.end.End.{End}
use Rattle.station_desk.specs.declared.end.End.TheVariants.{NotStarted, Reached, Stopped, Tries}
use Rattle.station_desk.specs.declared.end.End.TheVariants.{Closed, Refused}
use Rattle.station_desk.specs.Rings.{AreTogether}
use Rattle.office_day.specs.declared.reconciled.StationDay.{StationDay}
use Rattle.office_day.specs.declared.seated.StationRemains.{StationRemains}
use Rattle.office_day.specs.HandedIn.{HasHandedIn}
use Rattle.office_day.specs.Day.{HadTheirDay, failures, failures_told}
use Rattle.office_day.proofs.Days.{Parts, Went, length-new_seats, new_seat_at}
use Rattle.office_day.proofs.Lists.{sum_by-alike, first}

abbrev pub IsBelow : ℕ → Turn → Type 0
IsBelow moves turn = turn.index < moves

-- a turn that is one of its station's
head_below : (moves : ℕ) (turn : Turn) (turns : List Turn)
    → All (IsBelow moves) (turns_of turn.station (turn ∷ turns)) → IsBelow moves turn
head_below moves turn turns all =
    let own = turns_of turn.station turns in
    let yes : (turn.station == turn.station) ≡ true = grind (arith, nat_tests) in
    subst (All (IsBelow moves)) (ap (λ (b : Bool). cond b (turn ∷ own) own) yes) all 0 turn
    (omega arith)

-- the turns behind it
rest_below : (b : Bool) (moves : ℕ) (turn : Turn) (turns : List Turn)
    → All (IsBelow moves) (cond b (turn ∷ turns) turns) → All (IsBelow moves) turns
rest_below true moves turn turns all = λ k d lt. all (suc k) d (omega (arith, lt))
rest_below false moves turn turns all = all

-- where those of each station are below the limit
pub all_below : (moves n : ℕ) (history : List Turn) → All (λ turn. turn.station < n) history
    → ((s : ℕ) → s < n → All (IsBelow moves) (turns_of s history)) → All (IsBelow moves) history
all_below moves n [] there each = All-nil (IsBelow moves)
all_below moves n (turn ∷ turns) there each =
    All-cons (IsBelow moves) turn turns
    (head_below moves turn turns (each turn.station (there 0 turn (omega arith))))
    (all_below moves n turns (λ k d lt. there (suc k) d (omega (arith, lt)))
    (λ s low. rest_below (turn.station == s) moves turn (turns_of s turns) (each s low)))

-- a legal history with no index beyond the limit
pub short : (line : Configuration) (state : State) (history : List Turn) (moves : ℕ)
    → IsLegal line state history → All (IsBelow moves) history → length history ≤ moves
short line state [] moves legal all = omega arith
short line state (turn ∷ turns) moves legal all =
    let last = length turns in
    let inside : last < length (turn ∷ turns) = omega arith in
    let there = legal.each last (slice_index_or (turn ∷ turns) last turn)
    (slice_get-get_or (turn ∷ turns) last turn inside) in
    let below = all last turn inside in
    omega (arith, there.index, below)

pub no_more : {D : Type 0} (clerk : ClerkState D) (moves : ℕ) (held : List (List Entry))
    (days : List StationDay)
    → HadTheirDay clerk moves held days → All (λ turn. turn.station < length held) clerk.history
    → KeepsHistory clerk → length clerk.history ≤ moves
no_more clerk moves held days had there keeps =
    short clerk.opening.line (opening_state clerk) clerk.history moves keeps.legal
    (all_below moves (length held) clerk.history there
    (λ s low. (had.each s [] (first days (omega (arith, low, had.as_many))) low).within))

-- a number that is 1 exactly where a station ended by a failed device
failures_are : (end : End) (n : ℕ) → (end ≡ Refused Device → n ≡ 1) → (end ≢ Refused Device → n ≡ 0)
    → n ≡ failures end
failures_are NotStarted n one none = none (λ is. absurd (cc))
failures_are Reached n one none = none (λ is. absurd (cc))
failures_are Stopped n one none = none (λ is. absurd (cc))
failures_are Tries n one none = none (λ is. absurd (cc))
failures_are Closed n one none = none (λ is. absurd (cc))
failures_are (Refused Faulted) n one none = none (λ is. absurd (cc))
failures_are (Refused NoStation) n one none = none (λ is. absurd (cc))
failures_are (Refused NotPrivileged) n one none = none (λ is. absurd (cc))
failures_are (Refused TooMany) n one none = none (λ is. absurd (cc))
failures_are (Refused Memory) n one none = none (λ is. absurd (cc))
failures_are (Refused Exhausted) n one none = none (λ is. absurd (cc))
failures_are (Refused Device) n one none = one refl

pub failures_counted : {D : Type 0} {state : D → DeviceState} {device : DeviceState}
    {from : Configuration} {clerk : ClerkState D} {moves : ℕ} {parts : Parts}
    → Went state device from clerk moves parts
    → sum_by (λ seat. seat.failed) parts.after ≡ failures_told parts.days
failures_counted {parts = parts} went =
    let count = length parts.held in
    let fed = AllZip-long HasHandedIn parts.held parts.feeds went.handed in
    let stood = AllZip-long AreTogether parts.feeds parts.desks went.together in
    let many = length-new_seats count in
    sum_by-alike (λ (seat : SeatState). seat.failed) (λ (day : StationDay). failures day.end)
    parts.after parts.days
    (omega (arith, went.reconciled.as_many, went.served.seats_as_many, fed, many))
    (λ i seat day low.
    let in_seats : i < length (new_seats count) = omega (arith, low, went.served.seats_as_many) in
    let in_feeds : i < length parts.feeds = omega (arith, in_seats, many, fed) in
    let feed = first parts.feeds (omega (arith, in_feeds)) in
    let desk = first parts.desks (omega (arith, in_feeds, stood)) in
    let part : StationRemains = record { desk = desk; end = NotStarted } in
    let worked = (went.served.each i seat desk part in_seats).worked in
    let reconciled = went.reconciled.each i feed part day in_feeds in
    let none : (slice_index_or (new_seats count) i seat).failed ≡ 0 =
    ap (λ (s : SeatState). s.failed)
    (new_seat_at count i seat (omega (arith, in_seats, many))) in
    failures_are (slice_index_or parts.days i day).end (slice_index_or parts.after i seat).failed
    (λ is. omega (arith, worked.counted (sym reconciled.end ∙ is), none))
    (λ not. worked.none_failed (λ is. not (reconciled.end ∙ is)) ∙ none))
