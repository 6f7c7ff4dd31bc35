-- Work at a desk, one piece after another.
use Rattle.std.specs.Prelude.{◌≡◌, ◌<◌, ℕ, List, [], ◌++◌, refl}
use Rattle.std.proofs.Common.{sym, ◌∙◌, ap, subst, append_assoc, arith}
use Rattle.std.proofs.lemmas.List.{append-nil}
use Rattle.std.proofs.lemmas.List.Elements.{All-nil, All-append}
use Rattle.std.proofs.lemmas.Grind.{flat_map-append}
use Rattle.turn_ledger.specs.declared.entry.Entry.{Entry}
use Rattle.turn_clerk.specs.declared.turns.Turn.{Turn}
use Rattle.line_lock.specs.Seat.{SeatState}
use Rattle.line_lock.specs.Asked.{NotesAlone}
use Rattle.station_desk.specs.declared.messages.Ask.{Ask}
use Rattle.station_desk.specs.declared.messages.Answer.{Answer}
use Rattle.station_desk.specs.declared.messages.Outcome.{Outcome}
use Rattle.station_desk.specs.Messages.{entries_of}
use Rattle.station_desk.specs.Rings.{DeskState}
use Rattle.station_desk.specs.Outcomes.{outcomes_of, undecided}
use Rattle.station_desk.specs.Served.{HasServed, entries_of_turns, outcomes_of_turns}
use Rattle.station_desk.specs.ServedLaws.{entries_in-append, outcomes_in-append, served-nothing}
use Rattle.station_desk.specs.Worked.{HasWorked}

pub served-joined : (old mid new : DeskState) (turns more : List Turn) (given_up : List Ask)
    → HasServed old mid turns [] → HasServed mid new more given_up
    → HasServed old new (turns ++ more) given_up
served-joined old mid new turns more given_up far next = record {
  more = far.more ++ next.more;
  given = next.given ∙ ap (λ (answers : List Answer). answers ++ next.more) far.given
      ∙ append_assoc old.given far.more next.more;
  entries = entries_in-append far.more next.more
      ∙ (λ i. (far.entries ∙ append-nil (entries_of_turns turns)) i ++ next.entries i)
      ∙ sym (append_assoc (entries_of_turns turns) (entries_of_turns more) (entries_of given_up))
      ∙ ap (λ (entries : List Entry). entries ++ entries_of given_up)
      (sym (flat_map-append (λ (turn : Turn). turn.entries) turns more));
  outcomes = outcomes_in-append far.more next.more
      ∙ (λ i. (far.outcomes ∙ append-nil (outcomes_of_turns turns)) i ++ next.outcomes i)
      ∙ sym (append_assoc (outcomes_of_turns turns) (outcomes_of_turns more) (undecided given_up))
      ∙ ap (λ (outcomes : List Outcome). outcomes ++ undecided given_up)
      (sym (flat_map-append outcomes_of turns more));
  asks = next.asks ∙ far.asks;
  answers = next.answers ∙ far.answers;
}

pub worked-nothing : {was_acknowledged : Turn → Type 0} (seat : SeatState) (desk : DeskState)
    (moves : ℕ) (failed : Type 0) → ¬ failed
    → HasWorked was_acknowledged seat seat desk desk moves failed
worked-nothing {was_acknowledged = was_acknowledged} seat desk moves failed not = record {
  turns = [];
  given_up = [];
  station = refl;
  listed = sym (append-nil seat.turns);
  within = All-nil (λ (turn : Turn). turn.index < moves);
  acknowledged = All-nil was_acknowledged;
  served = served-nothing desk;
  undecided = λ _. refl;
  nothing_held = λ is. absurd (not is);
  counted = λ is. absurd (not is);
  none_failed = λ _. refl;
  asked = λ is. absurd (not is);
  not_asked = λ _. refl;
}

-- work in which nothing failed, and more of it
pub worked-joined : {was_acknowledged : Turn → Type 0} (old mid new : SeatState)
    (before between after : DeskState) (moves : ℕ) (failed : Type 0)
    → HasWorked was_acknowledged old mid before between moves ⊥
    → HasWorked was_acknowledged mid new between after moves failed
    → HasWorked was_acknowledged old new before after moves failed
worked-joined {was_acknowledged = was_acknowledged} old mid new before between after moves failed
    far next =
    let none : far.given_up ≡ [] = far.undecided (λ never. never) in
    record {
      turns = far.turns ++ next.turns;
      given_up = next.given_up;
      station = next.station ∙ far.station;
      listed = next.listed ∙ ap (λ (turns : List Turn). turns ++ next.turns) far.listed
          ∙ append_assoc old.turns far.turns next.turns;
      within = All-append (λ (turn : Turn). turn.index < moves) far.turns next.turns far.within
          next.within;
      acknowledged = All-append was_acknowledged far.turns next.turns far.acknowledged
          next.acknowledged;
      served = served-joined before between after far.turns next.turns next.given_up
          (subst (λ (asks : List Ask). HasServed before between far.turns asks) none far.served)
          next.served;
      undecided = next.undecided;
      nothing_held = next.nothing_held;
      counted = λ is. omega (arith, next.counted is, far.none_failed (λ never. never));
      none_failed = λ not. next.none_failed not ∙ far.none_failed (λ never. never);
      asked = next.asked;
      not_asked = λ not. next.not_asked not ∙ far.not_asked (λ never. never);
    }

-- that something else failed, or that it is said in other words
pub worked-where : {was_acknowledged : Turn → Type 0} (old new : SeatState)
    (before after : DeskState) (moves : ℕ) (failed other : Type 0) → (failed → other)
    → (other → failed)
    → HasWorked was_acknowledged old new before after moves failed
    → HasWorked was_acknowledged old new before after moves other
worked-where old new before after moves failed other there back worked = record {
  turns = worked.turns;
  given_up = worked.given_up;
  station = worked.station;
  listed = worked.listed;
  within = worked.within;
  acknowledged = worked.acknowledged;
  served = worked.served;
  undecided = λ not. worked.undecided (λ is. not (there is));
  nothing_held = λ is. worked.nothing_held (back is);
  counted = λ is. worked.counted (back is);
  none_failed = λ not. worked.none_failed (λ is. not (there is));
  asked = λ is. worked.asked (back is);
  not_asked = λ not. worked.not_asked (λ is. not (there is));
}

-- a question behind the work
pub worked-noted : {was_acknowledged : Turn → Type 0} (old mid new : SeatState)
    (before after : DeskState) (moves : ℕ) (failed : Type 0) → NotesAlone mid new
    → HasWorked was_acknowledged old mid before after moves failed
    → HasWorked was_acknowledged old new before after moves failed
worked-noted old mid new before after moves failed alone worked = record {
  turns = worked.turns;
  given_up = worked.given_up;
  station = ap (λ (seat : SeatState). seat.station) alone ∙ worked.station;
  listed = ap (λ (seat : SeatState). seat.turns) alone ∙ worked.listed;
  within = worked.within;
  acknowledged = worked.acknowledged;
  served = worked.served;
  undecided = worked.undecided;
  nothing_held = worked.nothing_held;
  counted = λ is. ap (λ (seat : SeatState). seat.failed) alone ∙ worked.counted is;
  none_failed = λ not. ap (λ (seat : SeatState). seat.failed) alone ∙ worked.none_failed not;
  asked = λ is. ap (λ (seat : SeatState). seat.undecided) alone ∙ worked.asked is;
  not_asked = λ not. ap (λ (seat : SeatState). seat.undecided) alone ∙ worked.not_asked not;
}
