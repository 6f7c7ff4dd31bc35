-- What a turn answers to the requests whose entries it took.
use Rattle.std.specs.Prelude.{ℕ, List, map, Option, Some, None, Ok, Err}
use Rattle.turn_ledger.specs.Entry.{Verdict}
use Rattle.turn_clerk.specs.declared.turns.Turn.{Turn}
use Rattle.station_desk.specs.declared.messages.Ask.{Ask}
use Rattle.station_desk.specs.declared.messages.Outcome.{Outcome}
use Rattle.station_desk.specs.declared.messages.Outcome.TheVariants.{Posted, Refused, Undecided}

-- What became of an entry with this verdict in a turn that posted under this number: a refused one
-- is told its refusal, an accepted one the number. A turn that accepts an entry has a number, by
-- its type; so the last case never comes.
abbrev pub outcome_of : Option ℕ → Verdict → Outcome
outcome_of posted (Err refusal) = Refused refusal
outcome_of (Some number) (Ok unit) = Posted number
outcome_of None (Ok unit) = Undecided

-- what became of a turn's entries, in order
abbrev pub outcomes_of : Turn → List Outcome
outcomes_of turn = map (outcome_of turn.posted) turn.verdicts

-- It is posted or refused.
abbrev pub IsDecided : Outcome → Type 0
IsDecided (Posted number) = Unit {0}
IsDecided (Refused refusal) = Unit {0}
IsDecided Undecided = ⊥

-- nothing is known of any of these requests
abbrev pub undecided : List Ask → List Outcome
undecided asks = map (λ (ask : Ask). Undecided) asks
