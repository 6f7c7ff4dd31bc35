-- What a station makes of its desk in a row of turns.
use Rattle.std.specs.Prelude.{◌≡◌, List, ◌++◌}
use Rattle.std.specs.List.{flat_map}
use Rattle.turn_ledger.specs.declared.entry.Entry.{Entry}
use Rattle.turn_clerk.specs.declared.turns.Turn.{Turn}
use Rattle.station_desk.specs.declared.messages.Ask.{Ask}
use Rattle.station_desk.specs.declared.messages.Answer.{Answer}
use Rattle.station_desk.specs.declared.messages.Outcome.{Outcome}
use Rattle.station_desk.specs.Messages.{entries_of, asks_of, outcomes_in}
use Rattle.station_desk.specs.Rings.{DeskState}
use Rattle.station_desk.specs.Outcomes.{outcomes_of, undecided}

-- the entries that turns took, in order, and what became of them
abbrev pub entries_of_turns : List Turn → List Entry
entries_of_turns turns = flat_map (λ (turn : Turn). turn.entries) turns

abbrev pub outcomes_of_turns : List Turn → List Outcome
outcomes_of_turns turns = flat_map outcomes_of turns

-- Behind its earlier answers the desk gave, in order, what became of the entries of these turns,
-- and then of each of the requests that were given up that it is undecided. It stands at the same
-- rings.
pub record HasServed (old new : DeskState) (turns : List Turn) (given_up : List Ask) : Type 0 where
  -- the answers that it gave
  pub more : List Answer
  pub given : new.given ≡ old.given ++ more
  pub entries : entries_of (asks_of more) ≡ entries_of_turns turns ++ entries_of given_up
  pub outcomes : outcomes_in more ≡ outcomes_of_turns turns ++ undecided given_up
  pub asks : new.asks ≡ old.asks
  pub answers : new.answers ≡ old.answers
