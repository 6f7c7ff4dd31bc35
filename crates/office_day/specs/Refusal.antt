-- Refusals of a day.
use Rattle.journal_recovery.specs.declared.refusals.OpenRefusal.{OpenRefusal}
use Rattle.journal_recovery.specs.declared.refusals.OpenRefusal.TheVariants as opening
use Rattle.line_lock.specs.declared.lent.OfficeRefusal.{OfficeRefusal}
use Rattle.line_lock.specs.declared.lent.OfficeRefusal.TheVariants as office
use Rattle.office_day.specs.declared.refusals.DayRefusal.{DayRefusal}
use Rattle.office_day.specs.declared.refusals.DayRefusal.TheVariants as day

-- where the office couldn't be opened, a fact of the reason
abbrev pub IfOpening : DayRefusal → (OpenRefusal → Type 0) → Type 0
IfOpening (day.Opening refusal) P = P refusal
IfOpening _ P = Unit {0}

-- a fact, but for where the office couldn't be opened
abbrev pub UnlessOpening : DayRefusal → Type 0 → Type 0
UnlessOpening (day.Opening refusal) P = Unit {0}
UnlessOpening _ P = P

-- why there was no day, where its office wasn't opened, worked in and closed: out of memory is
-- reported as such wherever it was met
abbrev pub day_refusal : {F : Type 0} → OfficeRefusal F → DayRefusal
day_refusal (office.Opening opening.Memory) = day.Memory
day_refusal (office.Opening refusal) = day.Opening refusal
day_refusal (office.Work failure) = day.Memory
day_refusal (office.Closing refusal) = day.Closing refusal
