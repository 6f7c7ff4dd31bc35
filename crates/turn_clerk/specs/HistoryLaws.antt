-- Laws of histories that the crates above may cite: what one turn more adds.
use Rattle.std.specs.Prelude.{◌≡◌, ◌+◌, ◌-◌, ℕ, List, [], ◌∷◌, ◌++◌, length, Some, slice_get}
use Rattle.std.proofs.Common.{refl, sym, ◌∙◌, ap, subst, arith}
use Rattle.std.proofs.lemmas.List.{append-nil, length-append, length-map, map-append}
use Rattle.std.proofs.lemmas.List.{take-append-le, take_all}
use Rattle.std.proofs.lemmas.Grind.{flat_map-append}
use Rattle.std.proofs.lemmas.Option.{slice_get_within}
use Rattle.gate_journal.specs.OneMore.{each_there}
use Rattle.four_state.specs.Configuration.{Configuration}
use Rattle.sweep_auditor.specs.Run.{next, after}
use Rattle.sweep_auditor.specs.RunLaws.{after-push}
use Rattle.turn_ledger.specs.declared.entry.Entry.{Entry}
use Rattle.turn_ledger.specs.State.{IsLedger}
use Rattle.turn_ledger.specs.Screen.{AreAccepted, posted_in_order, accepted, with_yes}
use Rattle.turn_ledger.specs.ScreenLaws.{AreAccepted-accepted}
use Rattle.turn_ledger.specs.Ledger.{entries_of}
use Rattle.turn_ledger.specs.LedgerLaws.{entries_of-one, ledger_after-none}
use Rattle.turn_ledger.specs.LedgerLaws.{posted_in_order-is-ledger_after_one, AreAccepted-batches}
use Rattle.journal_recovery.specs.State.{State, state_after}
use Rattle.journal_recovery.specs.RecoveryLaws.{state_after-append}
use Rattle.turn_clerk.specs.declared.turns.Turn.{Turn}
use Rattle.turn_clerk.specs.Turn.{accepted_of, as_batch, IsTurn}
use Rattle.turn_clerk.specs.History.{move_of, moves_of, batches_of, by_station, stations_of}
use Rattle.turn_clerk.specs.History.{line_after, state_after_turns, IsTurnAt, IsLegal}

-- one batch has its entries
pub entries_of-as_batch : (batch : List Entry) → entries_of (as_batch batch) ≡ batch
entries_of-as_batch [] = refl
entries_of-as_batch (entry ∷ entries) = entries_of-one (entry ∷ entries)

-- accepted entries, posted one after another, lead to the state after them as one batch
pub state_after-as_batch : (state : State) (batch : List Entry) → IsLedger state.ledger
    → AreAccepted state.ledger batch
    → record {
      ledger = posted_in_order state.ledger batch;
      next = state.next + length (as_batch batch);
    } ≡ state_after state (as_batch batch)
state_after-as_batch state [] sound accepted i =
    record { ledger = sym (ledger_after-none state.ledger sound) i; next = state.next + 0 }
state_after-as_batch state (entry ∷ entries) sound accepted i = record {
  ledger = posted_in_order-is-ledger_after_one state.ledger (entry ∷ entries) sound accepted i;
  next = state.next + 1;
}

pub moves_of-push : (turns : List Turn) (turn : Turn)
    → moves_of (turns ++ turn ∷ []) ≡ moves_of turns ++ move_of turn ∷ []
moves_of-push turns turn = map-append move_of turns (turn ∷ [])

pub batches_of-push : (turns : List Turn) (turn : Turn)
    → batches_of (turns ++ turn ∷ []) ≡ batches_of turns ++ as_batch (accepted_of turn)
batches_of-push turns turn =
    flat_map-append (λ (t : Turn). as_batch (accepted_of t)) turns (turn ∷ [])
    ∙ ap (λ (more : List (List Entry)). batches_of turns ++ more)
    (append-nil (as_batch (accepted_of turn)))

pub stations_of-push : (turns : List Turn) (turn : Turn)
    → stations_of (turns ++ turn ∷ [])
    ≡ stations_of turns ++ by_station turn.station (as_batch (accepted_of turn))
stations_of-push turns turn =
    flat_map-append (λ (t : Turn). by_station t.station (as_batch (accepted_of t))) turns
    (turn ∷ [])
    ∙ ap (λ (more : List ℕ). stations_of turns ++ more)
    (append-nil (by_station turn.station (as_batch (accepted_of turn))))

-- each batch has a station
pub stations_paired : (turns : List Turn) → length (stations_of turns) ≡ length (batches_of turns)
stations_paired [] = refl
stations_paired (turn ∷ turns) =
    let batch = as_batch (accepted_of turn) in
    let here : length (by_station turn.station batch) ≡ length batch =
    length-map batch (λ (b : List Entry). turn.station) in
    omega (
      arith,
      here,
      stations_paired turns,
      length-append (by_station turn.station batch) (stations_of turns),
      length-append batch (batches_of turns),
    )

pub line_after-push : (line : Configuration) (turns : List Turn) (turn : Turn)
    → line_after line (turns ++ turn ∷ []) ≡ next (line_after line turns) (move_of turn)
line_after-push line turns turn =
    ap (after line) (moves_of-push turns turn) ∙ after-push (moves_of turns) (move_of turn) line

-- the turn that stands behind some
pub there-push : (before : List Turn) (turn : Turn) (after : List Turn)
    → slice_get (before ++ turn ∷ after) (length before) ≡ Some turn
there-push [] turn after = refl
there-push (first ∷ before) turn after = there-push before turn after

-- the last one
pub last-push : (before : List Turn) (turn : Turn)
    → slice_get (before ++ turn ∷ []) (length (before ++ turn ∷ []) - 1) ≡ Some turn
last-push before turn =
    ap (λ (place : ℕ). slice_get (before ++ turn ∷ []) (place - 1))
    (length-append before (turn ∷ []))
    ∙ ap (slice_get (before ++ turn ∷ [])) (omega arith)
    ∙ there-push before turn []

-- what a turn accepts is accepted again, in order
pub AreAccepted-turn : (line : Configuration) (state : State) (turn : Turn) → IsTurn line state turn
    → AreAccepted state.ledger (accepted_of turn)
AreAccepted-turn line state turn taken =
    subst (λ (verdicts : _). AreAccepted state.ledger (with_yes turn.entries verdicts))
    (sym taken.judged) (AreAccepted-accepted state.ledger turn.entries)

-- accepted entries as one batch more
module _ (state : State) (batches : List (List Entry)) (batch : List Entry)
    (sound : IsLedger state.ledger) (before : AreAccepted state.ledger (entries_of batches))
    (here : AreAccepted (state_after state batches).ledger batch) where
  pub AreAccepted-with_batch : AreAccepted state.ledger (entries_of (batches ++ as_batch batch))
  AreAccepted-with_batch =
      AreAccepted-batches state.ledger batches (as_batch batch) sound before
      (subst (AreAccepted (state_after state batches).ledger) (sym (entries_of-as_batch batch))
      here)

  pub state_after-with_batch : state_after state (batches ++ as_batch batch)
      ≡ state_after (state_after state batches) (as_batch batch)
  state_after-with_batch =
      state_after-append state batches (as_batch batch) sound AreAccepted-with_batch

-- an empty history is legal
pub IsLegal-none : (line : Configuration) (state : State) → IsLegal line state []
IsLegal-none line state =
    record {
      each =
          λ place turn there. absurd (omega (arith, slice_get_within [] place turn there));
    }

-- one turn more
pub IsLegal-push : (line : Configuration) (state : State) (turns : List Turn) (turn : Turn)
    → IsLegal line state turns → turn.index ≡ length turns
    → IsTurn (line_after line turns) (state_after_turns state turns) turn
    → IsLegal line state (turns ++ turn ∷ [])
IsLegal-push line state turns turn legal index taken = record {
  each =
      each_there (IsTurnAt line state (turns ++ turn ∷ [])) turns turn
      (λ place t there.
      let was = legal.each place t there in
      let front = take-append-le place turns (turn ∷ [])
      (omega (arith, slice_get_within turns place t there)) in
      record {
        index = was.index;
        taken = subst (λ (ts : List Turn).
            IsTurn (line_after line ts) (state_after_turns state ts) t) (sym front) was.taken;
      })
      (record {
        index = index;
        taken =
            subst (λ (ts : List Turn).
            IsTurn (line_after line ts) (state_after_turns state ts) turn)
            (sym (take-append-le (length turns) turns (turn ∷ []) (omega arith)
            ∙ take_all (length turns) turns (omega arith))) taken;
      });
}
