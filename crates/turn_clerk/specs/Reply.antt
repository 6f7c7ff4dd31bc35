-- The replies to a list of events.
use Rattle.std.specs.Prelude.{◌≡◌, ℕ, Bool, true, false, ◌||◌, List, [], ◌∷◌, ◌++◌, length, take}
use Rattle.std.specs.Prelude.{Result, Ok, Err, Some, slice_get}
use Rattle.std.specs.List.{flat_map, list_any}
use Rattle.turn_ledger.specs.Screen.{accepted}
use Rattle.turn_clerk.specs.declared.turns.Turn.{Turn}
use Rattle.turn_clerk.specs.declared.turns.Taken.{Taken}
use Rattle.turn_clerk.specs.declared.refusals.TurnRefusal.{TurnRefusal}
use Rattle.turn_clerk.specs.declared.refusals.TurnRefusal.TheVariants.{Faulted, NoStation}
use Rattle.turn_clerk.specs.declared.refusals.TurnRefusal.TheVariants.{NotPrivileged, TooMany}
use Rattle.turn_clerk.specs.declared.refusals.TurnRefusal.TheVariants.{Memory, Exhausted, Device}
use Rattle.turn_clerk.specs.declared.events.Event.{Event}
use Rattle.turn_clerk.specs.Room.{live_after}
use Rattle.turn_clerk.specs.Turn.{IsTurn}
use Rattle.turn_clerk.specs.History.{batches_of, line_after, state_after_turns}
use Rattle.turn_clerk.specs.Clerk.{ClerkState}
use Rattle.turn_clerk.specs.Refused.{Standing, StandsAs, standing_of, ClerkRefuses}

-- the turn, or why it was not taken
abbrev pub Reply : Type 0
Reply = Result Turn TurnRefusal

-- what is answered of a turn that stands where it is kept
abbrev pub turn_of : {E : Type 0} → Result Taken E → Result Turn E
turn_of (Ok taken) = Ok taken.turn.value
turn_of (Err refusal) = Err refusal

-- the turns among the replies, in order
abbrev pub turn_in : Reply → List Turn
turn_in (Ok turn) = turn ∷ []
turn_in (Err refusal) = []

abbrev pub turns_in : List Reply → List Turn
turns_in replies = flat_map turn_in replies

-- the reply tells that the device failed in this turn
abbrev pub is_device : Reply → Bool
is_device (Ok turn) = false
is_device (Err Faulted) = false
is_device (Err NoStation) = false
is_device (Err NotPrivileged) = false
is_device (Err TooMany) = false
is_device (Err Memory) = false
is_device (Err Exhausted) = false
is_device (Err Device) = true

-- A reply to an event: the turn of its station with its entries, or a refusal that holds.
abbrev pub IsReply : Standing → Event → Reply → Type 0
IsReply standing event (Ok turn) =
    (standing.faulted ≡ false) × IsTurn standing.line standing.state turn
    × (turn.station ≡ event.station) × (turn.entries ≡ event.entries.items)
IsReply standing event (Err refusal) =
    ClerkRefuses standing event.station event.entries.items refusal

-- How a clerk stands after replies: on the line, the state and the live bank after their turns, and
-- faulted where the device failed.
abbrev pub standing_after : Standing → List Reply → Standing
standing_after standing replies = record {
  faulted = standing.faulted || list_any is_device replies;
  line = line_after standing.line (turns_in replies);
  state = state_after_turns standing.state (turns_in replies);
  slots = standing.slots;
  live = live_after standing.slots standing.live standing.state.next
      (length (batches_of (turns_in replies)));
}

-- A reply for each event, in order, each from where the clerk then stood.
pub record AreReplies (standing : Standing) (events : List Event)
    (replies : List Reply) : Type 0 where
  pub count : length replies ≡ length events
  pub each : (place : ℕ) (event : Event) (reply : Reply) → slice_get events place ≡ Some event
      → slice_get replies place ≡ Some reply
      → IsReply (standing_after standing (take place replies)) event reply

-- What a run of events makes of a clerk.
pub record HasRun {D : Type 0} (old : ClerkState D) (events : List Event) (replies : List Reply)
    (new : ClerkState D) : Type 0 where
  pub replied : AreReplies (standing_of old) events replies
  -- the turns among the replies are those added to the history
  pub history : new.history ≡ old.history ++ turns_in replies
  pub stands : StandsAs (standing_of new) (standing_after (standing_of old) replies)
  pub opening : new.opening ≡ old.opening
  -- where the device failed, the accepted entries of that event are in flight
  pub in_flight : (place : ℕ) (event : Event) → slice_get events place ≡ Some event
      → slice_get replies place ≡ Some (Err Device)
      → new.in_flight
      ≡ Some (accepted (standing_after (standing_of old) (take place replies)).state.ledger
      event.entries.items)
