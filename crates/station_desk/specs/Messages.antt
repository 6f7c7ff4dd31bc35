-- Requests, and the answers to them.
use Rattle.std.specs.Prelude.{◌≡◌, ℕ, suc, List, [], ◌∷◌, map}
use Rattle.turn_ledger.specs.declared.entry.Entry.{Entry}
use Rattle.station_desk.specs.declared.messages.Ask.{Ask}
use Rattle.station_desk.specs.declared.messages.Answer.{Answer}
use Rattle.station_desk.specs.declared.messages.Outcome.{Outcome}

-- the entries of requests
abbrev pub entries_of : List Ask → List Entry
entries_of asks = map (λ (ask : Ask). ask.entry) asks

-- the request that an answer answers
abbrev pub ask_of : Answer → Ask
ask_of answer = record { ticket = answer.ticket; entry = answer.entry }

-- the requests that these answers answer, in order
abbrev pub asks_of : List Answer → List Ask
asks_of answers = map ask_of answers

-- what became of them
abbrev pub outcomes_in : List Answer → List Outcome
outcomes_in answers = map (λ (answer : Answer). answer.outcome) answers

-- the answer with this outcome to a request
abbrev pub answer_to : Ask → Outcome → Answer
answer_to ask outcome = record { ticket = ask.ticket; entry = ask.entry; outcome = outcome }

-- the answers with these outcomes to these requests, one each, in order
abbrev pub answers_to : List Ask → List Outcome → List Answer
answers_to [] outcomes = []
answers_to (ask ∷ asks) [] = []
answers_to (ask ∷ asks) (outcome ∷ outcomes) = answer_to ask outcome ∷ answers_to asks outcomes

-- the tickets of these requests are this number and the ones after it, in order
abbrev pub AreNumberedFrom : ℕ → List Ask → Type 0
AreNumberedFrom first [] = Unit {0}
AreNumberedFrom first (ask ∷ asks) = (ask.ticket ≡ first) × AreNumberedFrom (suc first) asks
