-- Answering what is held, one request after another, and all of it.
use Rattle.std.specs.Prelude.{◌≡◌, ◌+◌, ℕ, List, [], ◌∷◌, ◌++◌, length, slice_get, Some}
use Rattle.std.proofs.Common.{sym, ◌∙◌, ap, take, add-one, append_assoc}
use Rattle.std.proofs.lemmas.List.{append-nil}
use Rattle.station_desk.specs.declared.messages.Ask.{Ask}
use Rattle.station_desk.specs.declared.messages.Answer.{Answer}
use Rattle.station_desk.specs.declared.messages.Outcome.{Outcome}
use Rattle.station_desk.specs.Messages.{asks_of, answer_to, answers_to}
use Rattle.station_desk.specs.MessageLaws.{asks_of-given, answers_to-next}

-- what was taken then has its answers
pub all_answered : (taken : List Ask) (given : List Answer) (held : List Ask)
    (outcomes : List Outcome) → length held ≡ length outcomes
    → taken ≡ asks_of given ++ held → taken ≡ asks_of (given ++ answers_to held outcomes) ++ []
all_answered taken given held outcomes same before =
    before ∙ sym (asks_of-given given held outcomes same)
    ∙ sym (append-nil (asks_of (given ++ answers_to held outcomes)))

-- A request and its outcome, both at one place.
pub record Next (asks : List Ask) (outcomes : List Outcome) (place : ℕ) : Type 0 where
  pub ask : Ask
  pub outcome : Outcome
  pub here : slice_get asks place ≡ Some ask
  pub there : slice_get outcomes place ≡ Some outcome

-- one request more has its answer
pub given-next : (first now after : List Answer) (asks : List Ask) (outcomes : List Outcome)
    (place : ℕ) (next : Next asks outcomes place)
    → now ≡ first ++ answers_to (take place asks) outcomes
    → after ≡ now ++ answer_to next.ask next.outcome ∷ []
    → after ≡ first ++ answers_to (take (place + 1) asks) outcomes
given-next first now after asks outcomes place next before added =
    let more = answer_to next.ask next.outcome ∷ [] in
    rw add-one (
    added ∙ ap (λ (answers : List Answer). answers ++ more) before
    ∙ append_assoc first (answers_to (take place asks) outcomes) more
    ∙ ap (λ (answers : List Answer). first ++ answers)
    (sym (answers_to-next asks outcomes place next.ask next.outcome next.here next.there))
    )
