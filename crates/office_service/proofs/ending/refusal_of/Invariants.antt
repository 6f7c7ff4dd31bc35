-- no station so far was refused
use Rattle.std.specs.Prelude.{take}
use Rattle.office_service.specs.Ends.{NoneWasRefused}
use Rattle.office_service.proofs.ending.refusal_of.Given as goal

abbrev pub invariant-loop-day : goal.invariant-loop-day
invariant-loop-day l = NoneWasRefused (take l.day-index l.stations)
