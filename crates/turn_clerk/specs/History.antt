-- Lists of turns, and where they lead.
use Rattle.std.specs.Prelude.{◌≡◌, ℕ, List, map, take, Some, slice_get}
use Rattle.std.specs.List.{flat_map}
use Rattle.four_state.specs.Configuration.{Configuration}
use Rattle.sweep_auditor.specs.declared.moves.Move.{Move}
use Rattle.sweep_auditor.specs.Run.{after}
use Rattle.turn_ledger.specs.declared.entry.Entry.{Entry}
use Rattle.journal_recovery.specs.State.{State, state_after}
use Rattle.turn_clerk.specs.declared.turns.Turn.{Turn}
use Rattle.turn_clerk.specs.Turn.{accepted_of, as_batch, IsTurn}

-- the move that a turn made
abbrev pub move_of : Turn → Move
move_of turn = record { station = turn.station; rule = turn.rule }

abbrev pub moves_of : List Turn → List Move
moves_of turns = map move_of turns

-- the batches that the turns journaled, in order
abbrev pub batches_of : List Turn → List (List Entry)
batches_of turns = flat_map (λ turn. as_batch (accepted_of turn)) turns

-- a station for each of these batches
abbrev pub by_station : ℕ → List (List Entry) → List ℕ
by_station station batches = map (λ (batch : List Entry). station) batches

-- the stations whose turns journaled them, in the same order
abbrev pub stations_of : List Turn → List ℕ
stations_of turns = flat_map (λ turn. by_station turn.station (as_batch (accepted_of turn))) turns

-- the line after the turns: that after their moves
abbrev pub line_after : Configuration → List Turn → Configuration
line_after line turns = after line (moves_of turns)

-- the state after the turns: that after their batches
abbrev pub state_after_turns : State → List Turn → State
state_after_turns state turns = state_after state (batches_of turns)

-- The turn that stands at a place has that index, and is a turn on the line and the state after
-- those before it.
pub record IsTurnAt (line : Configuration) (state : State) (turns : List Turn) (place : ℕ)
    (turn : Turn) : Type 0 where
  pub index : turn.index ≡ place
  pub taken : IsTurn (line_after line (take place turns))
      (state_after_turns state (take place turns)) turn

-- A legal history from a line and a state: each turn in it is one at its place.
pub record IsLegal (line : Configuration) (state : State) (turns : List Turn) : Type 0 where
  pub each : (place : ℕ) (turn : Turn) → slice_get turns place ≡ Some turn
      → IsTurnAt line state turns place turn
