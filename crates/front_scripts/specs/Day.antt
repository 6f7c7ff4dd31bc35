-- What a script's day leaves.
use Rattle.std.specs.Prelude.{List, Result, Ok, Err, map}
use Rattle.turn_ledger.specs.declared.entry.Entry.{Entry}
use Rattle.station_desk.specs.Messages.{entries_of}
use Rattle.office_day.specs.declared.reconciled.StationDay.{StationDay}
use Rattle.office_day.specs.declared.refusals.DayRefusal.{DayRefusal}
use Rattle.office_day.specs.declared.refusals.DayRefusal.TheVariants as day
use Rattle.front_scripts.specs.declared.faults.ScriptFault.{ScriptFault}
use Rattle.front_scripts.specs.declared.faults.ScriptFault.TheVariants.{Memory}
use Rattle.front_scripts.specs.declared.refusals.Refusal.{Refusal}
use Rattle.front_scripts.specs.declared.refusals.Refusal.TheVariants.{Open, Close}

-- for each station the entries of its requests that have no answer, in order
abbrev pub unanswered_of : List StationDay → List (List Entry)
unanswered_of days = map (λ (day : StationDay). entries_of day.unanswered.items) days

-- how it is told that an office had no day: out of memory ends the script
abbrev pub told_as : DayRefusal → Result Refusal ScriptFault
told_as day.Memory = Err Memory
told_as (day.Opening refusal) = Ok (Open refusal)
told_as (day.Closing refusal) = Ok (Close refusal)
