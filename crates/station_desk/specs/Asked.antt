-- What an office answers to a question of a station's client.
use Rattle.std.specs.Prelude.{◌≡◌}
use Rattle.sector_device.specs.Device.{DeviceState}
use Rattle.four_state.specs.Configuration.{Configuration}
use Rattle.journal_recovery.specs.State.{State}
use Rattle.line_lock.specs.Seat.{SeatState}
use Rattle.line_lock.specs.Asked.{WasToldBalance, WasToldRoom, WasSearched}
use Rattle.station_desk.specs.declared.errand.Question.{Question}
use Rattle.station_desk.specs.declared.errand.Question.TheVariants as question
use Rattle.station_desk.specs.declared.errand.Report.{Report}
use Rattle.station_desk.specs.declared.errand.Report.TheVariants as report

-- An office that was opened on that device with that line, from a state in which it may begin, was
-- asked this by a seat, and what is reported is its answer, as the seat notes it.
module _ {D : Type 0} (state : D → DeviceState) (device : DeviceState) (from : Configuration)
    (begins : State → Type 0) where
  abbrev pub IsReportOn : SeatState → SeatState → Question → Report → Type 0
  IsReportOn old new (question.Balance account) (report.Balance answer) =
      WasToldBalance state device from begins old new account answer
  IsReportOn old new (question.Search sought first end) (report.Searched answer) =
      WasSearched state device from begins old new sought first end answer
  IsReportOn old new question.Room (report.Room room) =
      WasToldRoom state device from begins room × (new ≡ old)
  IsReportOn old new _ _ = ⊥

  -- Each report that is right on a question that is asked is one that is heard: it is the answer of
  -- such an office to whatever seat.
  abbrev pub HearsReports : (Question → Type 0) → (Question → Report → Type 0) → Type 0
  HearsReports asks hears =
      (old new : SeatState) (question : Question) (report : Report)
      → asks question → IsReportOn old new question report → hears question report
