-- A row of turns at a desk, one call after another.
use Rattle.std.specs.Prelude.{◌≡◌, ◌-◌, List, [], ◌∷◌, ◌++◌, length, refl}
use Rattle.std.proofs.Common.{sym, ◌∙◌, ap, append_assoc}
use Rattle.std.proofs.lemmas.List.{append-nil, map-append, length-map, flat_map_more}
use Rattle.turn_ledger.specs.declared.entry.Entry.{Entry}
use Rattle.turn_clerk.specs.declared.turns.Turn.{Turn}
use Rattle.station_desk.specs.declared.messages.Ask.{Ask}
use Rattle.station_desk.specs.declared.messages.Answer.{Answer}
use Rattle.station_desk.specs.declared.messages.Outcome.{Outcome}
use Rattle.station_desk.specs.declared.messages.Outcome.TheVariants.{Undecided}
use Rattle.station_desk.specs.Messages.{entries_of, asks_of, outcomes_in, answers_to}
use Rattle.station_desk.specs.MessageLaws.{asks_of-answers_to, asks_of-append}
use Rattle.station_desk.specs.MessageLaws.{outcomes_in-answers_to, length-entries_of}
use Rattle.station_desk.specs.Rings.{DeskState, HasGathered}
use Rattle.station_desk.specs.Outcomes.{outcomes_of, undecided}
use Rattle.station_desk.specs.OutcomeLaws.{length-outcomes_of}
use Rattle.station_desk.specs.Served.{HasServed, entries_of_turns, outcomes_of_turns}

-- what stands in answers, appended
pub entries_in-append : (answers more : List Answer)
    → entries_of (asks_of (answers ++ more))
    ≡ entries_of (asks_of answers) ++ entries_of (asks_of more)
entries_in-append answers more =
    ap entries_of (asks_of-append answers more)
    ∙ map-append (λ (ask : Ask). ask.entry) (asks_of answers) (asks_of more)

pub outcomes_in-append : (answers more : List Answer)
    → outcomes_in (answers ++ more) ≡ outcomes_in answers ++ outcomes_in more
outcomes_in-append answers more = map-append (λ (answer : Answer). answer.outcome) answers more

-- the desk after all that it held was answered with these outcomes
abbrev pub answered_all : DeskState → List Outcome → DeskState
answered_all desk outcomes =
    record desk {
      given = desk.given ++ answers_to desk.held outcomes;
      held = [];
      free = desk.free - length desk.held;
    }

pub served-nothing : (desk : DeskState) → HasServed desk desk [] []
served-nothing desk = record {
  more = [];
  given = sym (append-nil desk.given);
  entries = refl;
  outcomes = refl;
  asks = refl;
  answers = refl;
}

-- a gathering gives no answer
pub served-gathered : (old mid new : DeskState) (turns : List Turn) (given_up : List Ask)
    → HasServed old mid turns given_up → HasGathered mid new → HasServed old new turns given_up
served-gathered old mid new turns given_up far gathered = record {
  more = far.more;
  given = ap (λ (desk : DeskState). desk.given) gathered.same ∙ far.given;
  entries = far.entries;
  outcomes = far.outcomes;
  asks = ap (λ (desk : DeskState). desk.asks) gathered.same ∙ far.asks;
  answers = ap (λ (desk : DeskState). desk.answers) gathered.same ∙ far.answers;
}

-- a turn with the entries of all that was held is settled
pub served-settled : (old mid new : DeskState) (turns : List Turn) (turn : Turn)
    → HasServed old mid turns [] → turn.entries ≡ entries_of mid.held
    → new ≡ answered_all mid (outcomes_of turn) → HasServed old new (turns ++ turn ∷ []) []
served-settled old mid new turns turn far took settled =
    let each : length mid.held ≡ length (outcomes_of turn) =
    sym (length-outcomes_of turn ∙ ap length took ∙ length-entries_of mid.held) in
    let added = answers_to mid.held (outcomes_of turn) in
    record {
      more = far.more ++ added;
      given = ap (λ (desk : DeskState). desk.given) settled
          ∙ ap (λ (answers : List Answer). answers ++ added) far.given
          ∙ append_assoc old.given far.more added;
      entries = entries_in-append far.more added
          ∙ ap (λ (entries : List Entry). entries ++ entries_of (asks_of added))
          (far.entries ∙ append-nil (entries_of_turns turns))
          ∙ ap (λ (entries : List Entry). entries_of_turns turns ++ entries)
          (ap entries_of (asks_of-answers_to mid.held (outcomes_of turn) each) ∙ sym took)
          ∙ flat_map_more (λ (turn : Turn). turn.entries) [] turns turn
          ∙ sym (append-nil (entries_of_turns (turns ++ turn ∷ [])));
      outcomes = outcomes_in-append far.more added
          ∙ ap (λ (outcomes : List Outcome). outcomes ++ outcomes_in added)
          (far.outcomes ∙ append-nil (outcomes_of_turns turns))
          ∙ ap (λ (outcomes : List Outcome). outcomes_of_turns turns ++ outcomes)
          (outcomes_in-answers_to mid.held (outcomes_of turn) each)
          ∙ flat_map_more outcomes_of [] turns turn
          ∙ sym (append-nil (outcomes_of_turns (turns ++ turn ∷ [])));
      asks = ap (λ (desk : DeskState). desk.asks) settled ∙ far.asks;
      answers = ap (λ (desk : DeskState). desk.answers) settled ∙ far.answers;
    }

-- all that was held is given up
pub served-given_up : (old mid new : DeskState) (turns : List Turn) → HasServed old mid turns []
    → new ≡ answered_all mid (undecided mid.held) → HasServed old new turns mid.held
served-given_up old mid new turns far gave_up =
    let each : length mid.held ≡ length (undecided mid.held) =
    sym (length-map mid.held (λ (ask : Ask). Undecided)) in
    let added = answers_to mid.held (undecided mid.held) in
    record {
      more = far.more ++ added;
      given = ap (λ (desk : DeskState). desk.given) gave_up
          ∙ ap (λ (answers : List Answer). answers ++ added) far.given
          ∙ append_assoc old.given far.more added;
      entries = entries_in-append far.more added
          ∙ ap (λ (entries : List Entry). entries ++ entries_of (asks_of added))
          (far.entries ∙ append-nil (entries_of_turns turns))
          ∙ ap (λ (asks : List Ask). entries_of_turns turns ++ entries_of asks)
          (asks_of-answers_to mid.held (undecided mid.held) each);
      outcomes = outcomes_in-append far.more added
          ∙ ap (λ (outcomes : List Outcome). outcomes ++ outcomes_in added)
          (far.outcomes ∙ append-nil (outcomes_of_turns turns))
          ∙ ap (λ (outcomes : List Outcome). outcomes_of_turns turns ++ outcomes)
          (outcomes_in-answers_to mid.held (undecided mid.held) each);
      asks = ap (λ (desk : DeskState). desk.asks) gave_up ∙ far.asks;
      answers = ap (λ (desk : DeskState). desk.answers) gave_up ∙ far.answers;
    }
