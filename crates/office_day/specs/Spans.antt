-- A live office: it is opened, its stations take turns, and it is closed, again and again on one
-- device.
use Rattle.std.specs.Prelude.{◌≡◌, ◌⊎◌, ◌+◌, ◌<◌, ◌≤◌, ℕ, true, false, List, [], ◌∷◌, ◌++◌, length}
use Rattle.std.specs.Prelude.{All}
use Rattle.std.specs.List.{flat_map, slice_index_or}
use Rattle.sector_device.specs.Device.{DeviceState}
use Rattle.sector_device.specs.Image.{Image}
use Rattle.sector_device.specs.Crash.{LeavesOnly, WasLookedAt}
use Rattle.four_state.specs.Configuration.{Configuration, stations}
use Rattle.sweep_auditor.specs.declared.moves.Audit.{Audit}
use Rattle.turn_clerk.specs.declared.turns.Turn.{Turn}
use Rattle.turn_clerk.specs.Clerk.{ClerkState, Extends, accepted_batches, opening_state}
use Rattle.turn_clerk.specs.Clerk.{present_state}
use Rattle.turn_clerk.specs.FarBack.{HasInSight, end_of}
use Rattle.turn_clerk.specs.History.{batches_of}
use Rattle.turn_ledger.specs.declared.entry.Entry.{Entry}
use Rattle.journal_recovery.specs.Places.{Spells}
use Rattle.journal_recovery.specs.Recovery.{batch_at}
use Rattle.journal_recovery.specs.Sight.{Sight, numbered}
use Rattle.journal_recovery.specs.State.{State}
use Rattle.office_day.specs.Archive.{Archive, EndsWith}
use Rattle.line_lock.specs.Account.{turns_of}
use Rattle.line_lock.specs.declared.lent.OfficeRefusal.{OfficeRefusal}
use Rattle.line_lock.specs.Lent.{IsClosed, IfOpening, UnlessOpening}
use Rattle.line_lock.specs.OpenedOn.{WasLeftByClerk}
use Rattle.station_desk.specs.declared.end.End.{End}
use Rattle.station_desk.specs.declared.end.End.TheVariants.{Reached, Closed}
use Rattle.station_desk.specs.declared.messages.Ask.{Ask}
use Rattle.station_desk.specs.declared.messages.Answer.{Answer}
use Rattle.station_desk.specs.declared.errand.Question.{Question}
use Rattle.station_desk.specs.declared.errand.Report.{Report}
use Rattle.station_desk.specs.Asked.{HearsReports}
use Rattle.station_desk.specs.Messages.{entries_of, asks_of, outcomes_in, AreNumberedFrom}
use Rattle.station_desk.specs.Outcomes.{undecided}
use Rattle.station_desk.specs.Rings.{DeskState}
use Rattle.station_desk.specs.Served.{HasServed, entries_of_turns, outcomes_of_turns}
use Rattle.office_day.specs.Ended.{HasEnded}
use Rattle.office_day.specs.declared.reconciled.StationDay.{StationDay}
use Rattle.office_day.specs.declared.seated.StationRemains.{StationRemains}

-- a span: the clerk of a closed office, and the audit
pub record Span (D : Type 0) : Type 0 where
  pub clerk : ClerkState D
  pub audit : Audit

-- the span of that clerk and that audit
abbrev pub span_of : {D : Type 0} → ClerkState D → Audit → Span D
span_of clerk audit = record { clerk = clerk; audit = audit }

-- What an office stands on while it is closed: its device and its line, and the ledger with the
-- number of its next batch.
pub record Rest (D : Type 0) : Type 0 where
  pub device : D
  pub line : Configuration
  pub held : State

-- what a clerk leaves for the next span
abbrev pub rest_of : {D : Type 0} → ClerkState D → Rest D
rest_of clerk =
    record { device = clerk.journal.device; line = clerk.line; held = present_state clerk }

-- the turns of a station in these spans, in order
abbrev pub turns_in : {D : Type 0} → ℕ → List (Span D) → List Turn
turns_in station spans = flat_map (λ span. turns_of station span.clerk.history) spans

-- Every record from that number on is in sight of the image, and spells the batch of its number, of
-- these.
pub record SeesFrom (number : ℕ) (batches : List (List Entry)) (image : Image) : Type 0 where
  pub from : (sight : Sight) → HasInSight image sight → sight.base ≤ number
  pub spelled : (sight : Sight) → HasInSight image sight → (k : ℕ) → number + k < end_of sight
      → Spells (numbered sight (number + k)) (batch_at batches k)

-- the clerk accepted no more batches than a bank has slots
abbrev pub FitsBank : {D : Type 0} → ClerkState D → Type 0
FitsBank clerk = length (accepted_batches clerk) ≤ clerk.opening.journal.slots

-- The span was opened on what an office rested on, and closed: what is promised of a closed office
-- holds of it, it began with the ledger that was held, on any device, and it has at most so many
-- turns. If it accepted no more batches than a bank has slots, each image that a crash left has all
-- of them in sight, as they were accepted, so that none of them is lost to an archive that had all
-- before.
pub record IsSpan {D : Type 0} (state : D → DeviceState) (moves : ℕ) (at : Rest D)
    (span : Span D) : Type 0 where
  pub closed : IsClosed state (state at.device) at.line span.clerk span.audit
  pub begins : opening_state span.clerk ≡ at.held
  pub within : length span.clerk.history ≤ moves
  pub in_sight : FitsBank span.clerk → (state span.clerk.journal.device).honest
      → LeavesOnly (state span.clerk.opening.journal.device) (state span.clerk.journal.device)
      (SeesFrom span.clerk.opening.journal.next (accepted_batches span.clerk))

-- What the next span is opened on is what this one left, but that its device was looked at.
pub record IsLeftBy {D : Type 0} (state : D → DeviceState) (span : Span D)
    (next : Rest D) : Type 0 where
  pub looked : WasLookedAt (state span.clerk.journal.device) (state next.device)
  pub line : next.line ≡ span.clerk.line
  pub held : next.held ≡ present_state span.clerk

-- Spans in a row, from there on: each was opened on what the one before it left, and so is `after`,
-- behind the last.
module _ {D : Type 0} (state : D → DeviceState) (moves : ℕ) where
  abbrev pub AreSpans : Rest D → List (Span D) → Rest D → Type 0
  AreSpans at [] after = after ≡ at
  AreSpans at (span ∷ spans) after =
      IsSpan state moves at span
      × ((next : Rest D) × IsLeftBy state span next × AreSpans next spans after)

-- In each span from there on, each report that is right on a question that is asked is one that is
-- heard: it is the answer of an office that was opened on what the spans before it, in a row, came
-- to, and began with the ledger that they left.
abbrev pub HearsOverSpans : {D : Type 0} → (D → DeviceState) → ℕ → Rest D
    → (Question → Type 0) → (Question → Report → Type 0) → Type 0
HearsOverSpans state moves from asks hears =
    (spans : List (Span _)) (between : Rest _) → AreSpans state moves from spans between
    → HearsReports state (state between.device) between.line (λ found. found ≡ between.held) asks
    hears

-- These batches are the clerk's: all that it acknowledged, with the one in flight or without it.
abbrev pub AreOf : {D : Type 0} → ClerkState D → List (List Entry) → Type 0
AreOf clerk batches = (batches ≡ batches_of clerk.history) ⊎ (batches ≡ accepted_batches clerk)

-- These batches are those of the spans, in order, each once.
abbrev pub AreOfSpans : {D : Type 0} → List (Span D) → List (List Entry) → Type 0
AreOfSpans [] batches = batches ≡ []
AreOfSpans (span ∷ spans) batches =
    (own : List (List Entry)) × (later : List (List Entry)) × AreOf span.clerk own
    × AreOfSpans spans later × (batches ≡ own ++ later)

-- An archive went on with all batches of the spans, and nothing else.
pub record WentOn {D : Type 0} (spans : List (Span D)) (old new : Archive) : Type 0 where
  pub more : List (List Entry)
  pub longer : new.batches ≡ old.batches ++ more
  pub are : AreOfSpans spans more

-- An archive was kept from the opening on that device, behind each of the spans, the last of which
-- left `to`: it begins where it did, and has what it had. Unless it failed, an honest one that
-- ended where the ledger did went on with all batches of the spans, and ends where the ledger does,
-- if the device is honest and each span fits in a bank.
pub record WereArchived {D : Type 0} (state : D → DeviceState) (device : D) (spans : List (Span D))
    (to : D) (old new : Archive) : Type 0 where
  pub first : new.first ≡ old.first
  pub honest : new.honest ≡ old.honest
  pub keeps : Extends old.batches new.batches
  pub failed : old.failed ≡ true → new.failed ≡ true
  pub all : old.honest ≡ true → new.failed ≡ false → (state device).honest
      → EndsWith old (state device).reads
      → All (λ span. FitsBank span.clerk) spans
      → (state to).honest × WentOn spans old new × EndsWith new (state to).reads

-- Each desk gave, behind its earlier answers and in order, what became of the entries of its
-- station's turns in these spans.
pub record HaveGiven {D : Type 0} (spans : List (Span D))
    (before after : List DeskState) : Type 0 where
  pub as_many : length after ≡ length before
  pub each : (i : ℕ) (desk : DeskState) → i < length before
      → HasServed (slice_index_or before i desk) (slice_index_or after i desk) (turns_in i spans) []

-- What a station left of an office that was open for these spans and a last one: its desk gave, in
-- order, what became of the entries of its turns in all of them, and then that those given up are
-- undecided; and so it ended.
pub record LeftAfter {D : Type 0} (moves : ℕ) (closes : Type 0) (station : ℕ)
    (earlier : List (Span D)) (last : Span D) (before : DeskState)
    (left : StationRemains) : Type 0 where
  pub given_up : List Ask
  pub served : HasServed before left.desk (turns_in station (earlier ++ last ∷ [])) given_up
  pub ended : HasEnded last.clerk moves station closes left.end given_up

-- Each station left that.
pub record HaveLeft {D : Type 0} (moves : ℕ) (closes : Type 0) (earlier : List (Span D))
    (last : Span D) (before : List DeskState) (left : List StationRemains) : Type 0 where
  pub as_many : length left ≡ length before
  pub each : (i : ℕ) (desk : DeskState) (part : StationRemains) → i < length before
      → LeftAfter moves closes i earlier last (slice_index_or before i desk)
      (slice_index_or left i part)

-- all turns were taken, or the station was sent home
abbrev pub IsGoodEnd : End → Type 0
IsGoodEnd end = (end ≡ Reached) ⊎ (end ≡ Closed)

-- an office that is to be opened: what it rests on, and the desks of its stations
pub record Adjournment (D : Type 0) : Type 0 where
  pub rest : Rest D
  pub desks : List DeskState

abbrev pub adjourned_to : {D : Type 0} → ClerkState D → List DeskState → Adjournment D
adjourned_to clerk desks = record { rest = rest_of clerk; desks = desks }

-- From there on an office was open for these spans, each of which left the next one its device,
-- line, ledger and desks, and came to this.
pub record HasComeTo {D : Type 0} (state : D → DeviceState) (moves : ℕ)
    (from to : Adjournment D) : Type 0 where
  pub spans : List (Span D)
  pub joined : AreSpans state moves from.rest spans to.rest
  pub given : HaveGiven spans from.desks to.desks

-- From there on an office was open for some spans and this last one, and each station left what it
-- gave in them all. The archive was kept behind each of the earlier spans.
pub record HasLived {D : Type 0} (state : D → DeviceState) (moves : ℕ) (closes : Type 0)
    (from : Adjournment D) (last : Span D) (parts : List StationRemains)
    (old new : Archive) : Type 0 where
  pub before : Adjournment D
  pub earlier : HasComeTo state moves from before
  pub closed : IsSpan state moves before.rest last
  pub left : HaveLeft moves closes earlier.spans last from.desks parts
  pub archived : WereArchived state from.rest.device earlier.spans before.rest.device old new

-- From there on an office was open for some spans, and the next one wasn't opened, or wasn't
-- closed: the device is what the last one left, or comes from a clerk that took turns on it.
pub record WasBrokenOff {D F : Type 0} (state : D → DeviceState) (moves : ℕ) (from : Adjournment D)
    (after : D) (refusal : OfficeRefusal F) : Type 0 where
  pub before : Adjournment D
  pub earlier : HasComeTo state moves from before
  pub opening : IfOpening refusal (λ _. after ≡ before.rest.device)
  pub left : UnlessOpening refusal
      (WasLeftByClerk state (state before.rest.device) before.rest.line after)

-- What became of all that a station's client asked of an office that was open for these spans and a
-- last one: each request stands, in order and under its ticket, in one of the answers that it
-- collected, in one that it didn't, or is unanswered; the answers are, in order, what became of the
-- entries of the station's turns, and then Undecided for requests that were given up; and so the
-- station ended, which a client may send home.
pub record WasServed {D : Type 0} (moves station : ℕ) (earlier : List (Span D)) (last : Span D)
    (collected : List Answer) (day : StationDay) : Type 0 where
  pub given_up : List Ask
  pub tickets : AreNumberedFrom 0
      (asks_of collected ++ asks_of day.answers.items ++ day.unanswered.items)
  pub answered : entries_of (asks_of (collected ++ day.answers.items))
      ≡ entries_of_turns (turns_in station (earlier ++ last ∷ [])) ++ entries_of given_up
  pub outcomes : outcomes_in (collected ++ day.answers.items)
      ≡ outcomes_of_turns (turns_in station (earlier ++ last ∷ [])) ++ undecided given_up
  pub ended : HasEnded last.clerk moves station (Unit {0}) day.end given_up

-- The client of each of so many stations was served so.
pub record HaveBeenServed {D : Type 0} (count moves : ℕ) (earlier : List (Span D)) (last : Span D)
    (collected : List (List Answer)) (days : List StationDay) : Type 0 where
  pub as_many : length days ≡ count
  pub collected_as_many : length collected ≡ count
  pub each : (i : ℕ) (answers : List Answer) (day : StationDay) → i < count
      → WasServed moves i earlier last (slice_index_or collected i answers)
      (slice_index_or days i day)

-- An office was kept open from there on for some spans in a row, of which this is the last one, and
-- its clients, who collected these answers, were served so. Its archive was kept behind each of the
-- earlier spans.
pub record WasKeptOpen {D : Type 0} (state : D → DeviceState) (moves : ℕ) (from : Rest D)
    (last : Span D) (collected : List (List Answer)) (days : List StationDay)
    (old new : Archive) : Type 0 where
  pub earlier : List (Span D)
  pub between : Rest D
  pub joined : AreSpans state moves from earlier between
  pub closed : IsSpan state moves between last
  pub served : HaveBeenServed (stations from.line) moves earlier last collected days
  pub archived : WereArchived state from.device earlier between.device old new

-- The device comes from an office that was kept open from there on, and isn't told of: behind some
-- spans the next wasn't opened, and the device is what the last one left, or a clerk took turns on
-- it.
pub record WasAbandoned {D F : Type 0} (state : D → DeviceState) (moves : ℕ) (from : Rest D)
    (after : D) (refusal : OfficeRefusal F) : Type 0 where
  pub earlier : List (Span D)
  pub between : Rest D
  pub joined : AreSpans state moves from earlier between
  pub opening : IfOpening refusal (λ _. after ≡ between.device)
  pub left : UnlessOpening refusal (WasLeftByClerk state (state between.device) between.line after)
