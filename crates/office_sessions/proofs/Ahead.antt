-- A search of an office goes on behind what it finds.
use Rattle.std.specs.Prelude.{◌≢◌, ℕ, Option, Some, None, Result, Ok, Err, IfOk}
use Rattle.std.proofs.Common.{arith}
use Rattle.sector_device.specs.Device.{DeviceState}
use Rattle.gate_journal.specs.Journal.{JournalState}
use Rattle.turn_clerk.specs.Search.{IsStepFromSome}
use Rattle.turn_clerk.specs.declared.searching.Reached.{Reached}
use Rattle.turn_clerk.specs.declared.searching.Reached.TheVariants as reached
use Rattle.turn_clerk.specs.declared.searching.SearchStep.{SearchStep}
use Rattle.turn_clerk.specs.declared.search_target.Posting.{Posting}
use Rattle.turn_clerk.specs.declared.search_target.SearchTarget.TheVariants as sought
use Rattle.turn_clerk.specs.declared.refusals.FindRefusal.{FindRefusal}
use Rattle.station_desk.specs.declared.errand.Question.{Question}
use Rattle.station_desk.specs.declared.errand.Question.TheVariants as question
use Rattle.station_desk.specs.declared.errand.Report.{Report}
use Rattle.station_desk.specs.declared.errand.Report.TheVariants as report
use Rattle.office_day.specs.Spans.{Rest}
use Rattle.office_sessions.specs.Right.{GoesAhead, ReportGoesAhead, WasReported}

-- one step
module _ {D : Type 0} (journal : JournalState D) (reference first end : ℕ) where
  step-ahead : (posting : Option Posting) (come : Reached)
      → (come ≢ reached.LookingBack
      → IsStepFromSome journal (sought.Reference reference) first end
      (record { posting = posting; reached = come })) → GoesAhead first posting come
  step-ahead None (reached.Further began number told) step =
      let is = step (λ same. let never = same in cc) in
      (omega (arith, is.reached.0, is.reached.1), tt)
  step-ahead (Some found) (reached.Further began number told) step =
      let is = step (λ same. let never = same in cc) in (
        omega (arith, is.posting.from, is.reached.1.0),
        (omega (arith, is.posting.from), omega (arith, is.reached.1.0)),
      )
  step-ahead posting (reached.All began since) step = tt
  step-ahead posting reached.LookingBack step = tt

  answer-ahead : (answer : Result SearchStep FindRefusal)
      → IfOk answer (λ step. step.reached ≢ reached.LookingBack
      → IsStepFromSome journal (sought.Reference reference) first end step)
      → IfOk answer (λ step. GoesAhead first step.posting step.reached)
  answer-ahead (Ok step) is = step-ahead step.posting step.reached is
  answer-ahead (Err refusal) is = tt

-- what is reported
pub reported-ahead : {D : Type 0} (state : D → DeviceState) (moves : ℕ) (from : Rest D)
    (asked : Question) (told : Report) → WasReported state moves from asked told
    → ReportGoesAhead asked told
reported-ahead state moves from (question.Search (sought.Reference reference) first end)
    (report.Searched answer) was =
    answer-ahead was.is.clerk.journal reference first end answer was.is.numbered
reported-ahead state moves from (question.Search (sought.Reference reference) first end)
    (report.Balance answer) was = tt
reported-ahead state moves from (question.Search (sought.Reference reference) first end)
    (report.Room room) was = tt
reported-ahead state moves from (question.Search (sought.OfStation station limit) first end) told
    was = tt
reported-ahead state moves from (question.Balance account) told was = tt
reported-ahead state moves from question.Room told was = tt
