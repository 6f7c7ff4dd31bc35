-- Which replies to a counter's session are right.
use Rattle.std.specs.Prelude.{◌≡◌, ◌<◌, ◌≤◌, ℕ, List, Option, IfSome, IfOk}
use Rattle.sector_device.specs.Device.{DeviceState}
use Rattle.turn_clerk.specs.declared.searching.Reached.{Reached}
use Rattle.turn_clerk.specs.declared.searching.Reached.TheVariants as reached
use Rattle.turn_clerk.specs.declared.search_target.Posting.{Posting}
use Rattle.turn_clerk.specs.declared.search_target.SearchTarget.TheVariants as sought
use Rattle.line_lock.specs.Seat.{SeatState}
use Rattle.station_desk.specs.Asked.{IsReportOn}
use Rattle.station_desk.specs.declared.errand.Question.{Question}
use Rattle.station_desk.specs.declared.errand.Question.TheVariants as question
use Rattle.station_desk.specs.declared.errand.Report.{Report}
use Rattle.station_desk.specs.declared.errand.Report.TheVariants as report
use Rattle.office_day.specs.Spans.{AreSpans, Rest, Span}
use Rattle.office_sessions.specs.declared.search.Search.{Search}
use Rattle.office_sessions.specs.declared.search.Step.{Step}
use Rattle.office_sessions.specs.declared.search.Step.TheVariants as stepped
use Rattle.office_sessions.specs.declared.replies.Reply.{Reply}
use Rattle.office_sessions.specs.declared.replies.Reply.TheVariants as reply

-- A step behind which a search goes on ends no earlier than where it was asked to begin, and behind
-- the record that it found, which is no earlier one either.
abbrev pub GoesAhead : ℕ → Option Posting → Reached → Type 0
GoesAhead asked posting (reached.Further began number end) =
    (asked ≤ number) × IfSome posting (λ found. (asked ≤ found.number) × (found.number < number))
GoesAhead asked posting (reached.All began since) = Unit {0}
GoesAhead asked posting reached.LookingBack = Unit {0}

-- A search doesn't fall back, and a record that it reports stands from where it was to where it is.
abbrev pub SearchGoesAhead : Search → Step → Search → Type 0
SearchGoesAhead before stepped.UnderWay after = before.from ≤ after.from
SearchGoesAhead before (stepped.Found number) after = (before.from ≤ number) × (number < after.from)
SearchGoesAhead before (stepped.Last last) after = Unit {0}

-- What is reported on a search for a reference goes ahead. Of other reports nothing is said.
abbrev pub ReportGoesAhead : Question → Report → Type 0
ReportGoesAhead (question.Search (sought.Reference reference) from end) (report.Searched answer) =
    IfOk answer (λ step. GoesAhead from step.posting step.reached)
ReportGoesAhead _ _ = Unit {0}

-- A reply that reports is one of these reports on questions. Of what comes of a recess nothing is
-- said.
abbrev pub IsRight : (Question → Report → Type 0) → Reply → Type 0
IsRight reports (reply.Report question report) = reports question report
IsRight reports (reply.Outcome came) = Unit {0}

-- The report answers that question as a clerk with a legal history could, of an office that was
-- opened on what some spans in a row, from there on, came to, and began with the ledger that they
-- left.
pub record WasReported {D : Type 0} (state : D → DeviceState) (moves : ℕ) (from : Rest D)
    (question : Question) (report : Report) : Type 0 where
  pub spans : List (Span D)
  pub between : Rest D
  pub behind : AreSpans state moves from spans between
  pub old : SeatState
  pub new : SeatState
  pub is : IsReportOn state (state between.device) between.line (λ found. found ≡ between.held)
      old new question report
