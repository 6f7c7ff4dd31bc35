-- What is wrong with the counters of a ledger.
use Rattle.std.specs.Prelude.{Bool, true, false}
use Rattle.ledger_counters.specs.declared.refusal.RosterFault.{RosterFault}
use Rattle.ledger_counters.specs.declared.refusal.RosterFault.TheVariants.{Memory, Unread}
use Rattle.ledger_counters.specs.declared.refusal.RosterFault.TheVariants.{Unwritten, NoName, Full}

-- a rule refuses it, unless memory, a read or a write failed
abbrev pub is_refusal : RosterFault → Bool
is_refusal Memory = false
is_refusal Unread = false
is_refusal Unwritten = false
is_refusal _ = true

-- a counter has no station, and nothing is wrong with the file of counters
abbrev pub IsOfSeat : RosterFault → Type 0
IsOfSeat Memory = Unit {0}
IsOfSeat NoName = Unit {0}
IsOfSeat Full = Unit {0}
IsOfSeat _ = ⊥
