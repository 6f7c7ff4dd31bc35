-- What a look covers: the records of which its steps told.
use Rattle.std.specs.Prelude.{◌≡◌, ◌⊎◌, ◌^◌, ◌-◌, ◌<◌, ◌≤◌, ℕ, min, List, All, Contains, Option, Ok}
use Rattle.sector_device.specs.Device.{DeviceState}
use Rattle.gate_journal.specs.Record.{RecordData}
use Rattle.turn_ledger.specs.declared.entry.Entry.{Entry}
use Rattle.turn_ledger.specs.Entry.{reference_of}
use Rattle.journal_recovery.specs.Places.{IsEntryAt}
use Rattle.turn_clerk.specs.FarBack.{HasRecord}
use Rattle.turn_clerk.specs.declared.searching.SearchStep.{SearchStep}
use Rattle.station_desk.specs.declared.errand.Report.TheVariants as report
use Rattle.office_day.specs.Spans.{Rest}
use Rattle.office_sessions.specs.declared.look.LookAnswer.{LookAnswer}
use Rattle.office_sessions.specs.declared.look.OwnPostings.{OwnPostings}
use Rattle.office_sessions.specs.declared.replies.Reply.{Reply}
use Rattle.office_sessions.specs.declared.replies.Reply.TheVariants as reply
use Rattle.office_sessions.specs.declared.responses.Response.{Response}
use Rattle.office_sessions.specs.Conversation.{own_question}
use Rattle.office_sessions.specs.Looked.{seen_farther}
use Rattle.office_sessions.specs.Over.{FollowsReplies}
use Rattle.office_sessions.specs.Replies.{AreWithoutReference, CameLast, HasSeenLast}
use Rattle.office_sessions.specs.Replies.{HeldAtSomeMoment, IsEnough, greatest_of, nothing_since}
use Rattle.office_sessions.specs.Right.{IsRight, WasReported}

-- No entry of the record has a reference above that one, of those that are above 0 and up to the
-- limit.
abbrev pub HasNoneAbove : RecordData → ℕ → ℕ → Type 0
HasNoneAbove r limit most =
    (place : ℕ) (entry : Entry) → place < r.count → IsEntryAt r place entry
    → 0 < reference_of entry → reference_of entry ≤ limit → reference_of entry ≤ most

-- A step that was asked for from that record on, as a clerk of the office answers it.
pub record IsStepOf {D : Type 0} (state : D → DeviceState) (moves : ℕ) (from : Rest D)
    (own : OwnPostings) (limit : ℕ) : Type 0 where
  pub first : ℕ
  pub step : SearchStep
  pub was : WasReported state moves from (own_question own.station limit first)
      (report.Searched (Ok step))

-- the reply that reports it
abbrev pub reported_by : {D : Type 0} {state : D → DeviceState} {moves : ℕ} {from : Rest D}
    {own : OwnPostings} {limit : ℕ} → IsStepOf state moves from own limit → Reply
reported_by {own} {limit} one =
    reply.Report (own_question own.station limit one.first) (report.Searched (Ok one.step))

-- A step that was heard was answered by a clerk which had a record of that number. If that is the
-- station's, it has no entry with a greater reference.
pub record WasLookedThrough {D : Type 0} (state : D → DeviceState) (moves : ℕ) (from : Rest D)
    (own : OwnPostings) (limit : ℕ) (heard : List Reply) (most number : ℕ) : Type 0 where
  pub one : IsStepOf state moves from own limit
  pub among : Contains heard (reported_by one)
  pub r : RecordData
  pub end : ℕ
  pub there : HasRecord (state one.was.is.clerk.journal.device).reads end number r
  pub none : r.station ≡ own.station → HasNoneAbove r limit most

-- Each record from that number on was looked through, up to the last one of the clerk that answered
-- the step which was heard last.
pub record IsCovered {D : Type 0} (state : D → DeviceState) (moves : ℕ) (from : Rest D)
    (own : OwnPostings) (limit : ℕ) (heard : List Reply) (most since : ℕ) : Type 0 where
  pub last : IsStepOf state moves from own limit
  pub came : CameLast (reported_by last) heard
  pub each : (number : ℕ) → since ≤ number
      → number < min (2 ^ 64 - 1) last.was.is.clerk.journal.next
      → WasLookedThrough state moves from own limit heard most number

-- What a look tells covers the records from `since` on: in none of them the station has a greater
-- reference than the one that is told, of those up to the look's limit.
abbrev pub LooksCover : {D : Type 0} → (D → DeviceState) → Type 0
LooksCover state =
    (moves : ℕ) (from : Rest _) (own : OwnPostings) (limit : ℕ) (seen : LookAnswer)
    (heard : List Reply) → (state from.device).honest
    → All (IsRight (WasReported state moves from)) heard → HasSeenLast own limit seen heard
    → ∥ IsCovered state moves from own limit heard (greatest_of seen) seen.since ∥₁

-- What is known by a look: what it told; or, if it saw no posting, what an archive was told to have
-- before.
abbrev pub IsKnownBy : LookAnswer → LookAnswer → Type 0
IsKnownBy in_sight seen =
    (seen ≡ in_sight)
    ⊎ ((kept : Option LookAnswer) × (in_sight ≡ nothing_since in_sight.since)
    × (seen ≡ seen_farther in_sight.since kept))

-- At some moment a look had ended that covers the records from `since` on. What is known by it is
-- enough to go by, and each reference of these entries is above each one that the station has in
-- these records.
pub record AreAboveRecords {D : Type 0} (state : D → DeviceState) (moves : ℕ) (from : Rest D)
    (own : OwnPostings) (heard : List Reply) (told : List Response)
    (asked : List Entry) : Type 0 where
  pub in_sight : LookAnswer
  pub looked : HeldAtSomeMoment
      (λ before. HasSeenLast own (2 ^ 64 - 1) in_sight before
      × IsCovered state moves from own (2 ^ 64 - 1) before (greatest_of in_sight) in_sight.since)
      heard
  pub seen : LookAnswer
  pub known : IsKnownBy in_sight seen
  pub enough : IsEnough seen told asked
  pub above : All (λ entry. 0 < reference_of entry
      → (greatest_of in_sight < reference_of entry) × (greatest_of seen < reference_of entry)) asked

-- The references above 0 that a counter used are above those that its station has in the records
-- that a look covers, whoever posted them: in this life of an office or in an earlier one.
abbrev pub ReferencesRise : {D : Type 0} → (D → DeviceState) → Type 0
ReferencesRise state =
    (moves : ℕ) (from : Rest _) (own : OwnPostings) (told : List Response) (heard : List Reply)
    (asked : List Entry) → (state from.device).honest
    → All (IsRight (WasReported state moves from)) heard → FollowsReplies own told heard asked
    → ∥ AreWithoutReference asked ⊎ AreAboveRecords state moves from own heard told asked ∥₁
