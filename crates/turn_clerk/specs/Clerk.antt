-- A clerk at one moment.
use Rattle.std.specs.Prelude.{◌≡◌, ◌⊎◌, ◌≤◌, ℕ, false, List, [], ◌∷◌, ◌++◌, length, take, slice_get}
use Rattle.std.specs.Prelude.{Option, Some, None}
use Rattle.four_state.specs.Configuration.{Configuration}
use Rattle.sector_device.specs.Image.{Image}
use Rattle.sector_device.specs.Device.{DeviceState}
use Rattle.sector_device.specs.Crash.{LeavesOnly}
use Rattle.four_state.specs.Motion.{moved}
use Rattle.gate_journal.specs.Journal.{JournalState}
use Rattle.gate_journal.specs.declared.layout.LiveBank.{LiveBank}
use Rattle.turn_ledger.specs.declared.entry.Entry.{Entry}
use Rattle.turn_ledger.specs.State.{LedgerState, IsLedger}
use Rattle.turn_ledger.specs.Screen.{AreAccepted, posted_in_order}
use Rattle.turn_ledger.specs.Ledger.{entries_of}
use Rattle.journal_recovery.specs.State.{State, state_after}
use Rattle.journal_recovery.specs.Recovery.{RecoversTo, RecoversWithOrWithout, HoldsState}
use Rattle.sweep_auditor.specs.Run.{IsRun}
use Rattle.turn_clerk.specs.declared.turns.Turn.{Turn}
use Rattle.turn_clerk.specs.Room.{bank_for, after_batches, after_failed_batch}
use Rattle.turn_clerk.specs.Turn.{accepted_of, as_batch}
use Rattle.turn_clerk.specs.History.{moves_of, batches_of, by_station, stations_of, line_after}
use Rattle.turn_clerk.specs.History.{state_after_turns, IsLegal}

-- what a clerk found when it was opened
pub record Opening (D : Type 0) : Type 0 where
  -- the journal, and in it the device, at that moment
  pub journal : JournalState D
  -- what its records stood for
  pub ledger : LedgerState
  -- the line handed in
  pub line : Configuration

pub record ClerkState (D : Type 0) : Type 0 where
  pub journal : JournalState D
  pub ledger : LedgerState
  pub line : Configuration
  -- the turns since the opening
  pub history : List Turn
  -- the journal, and in it the device, as it was when each of them was acknowledged, in order
  pub acknowledged : List (JournalState D)
  -- the accepted entries of the turn that ended by a fault of the device
  pub in_flight : Option (List Entry)
  -- and the station that took it
  pub in_flight_by : ℕ
  pub opening : Opening D

-- the state at the opening
abbrev pub opening_state : {D : Type 0} → ClerkState D → State
opening_state clerk = record { ledger = clerk.opening.ledger; next = clerk.opening.journal.next }

-- the present state
abbrev pub present_state : {D : Type 0} → ClerkState D → State
present_state clerk = record { ledger = clerk.ledger; next = clerk.journal.next }

-- Its history is legal and ends in its present line and state.
pub record KeepsHistory {D : Type 0} (clerk : ClerkState D) : Type 0 where
  pub legal : IsLegal clerk.opening.line (opening_state clerk) clerk.history
  pub line : clerk.line ≡ line_after clerk.opening.line clerk.history
  pub state : present_state clerk ≡ state_after_turns (opening_state clerk) clerk.history

-- The clerk after a turn: its batch is journaled and posted, its move is made, it is the last of
-- the history, and is acknowledged now.
abbrev pub after_turn : {D : Type 0} → ClerkState D → D → Turn → ClerkState D
after_turn old device turn = record old {
  journal = after_batches old.journal device (length (as_batch (accepted_of turn)));
  ledger = posted_in_order old.ledger (accepted_of turn);
  line = moved old.line turn.station turn.rule;
  history = old.history ++ turn ∷ [];
  acknowledged = old.acknowledged
      ++ after_batches old.journal device (length (as_batch (accepted_of turn))) ∷ [];
}

-- the clerk after a turn of a station in which the device failed, where that bank was live: these
-- entries are in flight
abbrev pub after_failed_turn : {D : Type 0} → ClerkState D → LiveBank → D → ℕ → List Entry
    → ClerkState D
after_failed_turn old live device station entries =
    record old {
      journal = after_failed_batch old.journal live device;
      in_flight = Some entries;
      in_flight_by = station;
    }

-- The device failed in a turn of the station: these entries are in flight, the journal is faulted,
-- on the bank that was live or on the one for them, and all else is as it was.
pub record HasFailedTurn {D : Type 0} (old : ClerkState D) (station : ℕ) (entries : List Entry)
    (new : ClerkState D) : Type 0 where
  pub live : (new.journal.live ≡ old.journal.live)
      ⊎ (new.journal.live ≡ bank_for old.journal.slots old.journal.live old.journal.next)
  pub is : new ≡ after_failed_turn old new.journal.live new.journal.device station entries

-- The batches accepted since the opening, in order: those of the turns taken, and last that of the
-- turn in flight.
abbrev pub in_flight_batch : Option (List Entry) → List (List Entry)
in_flight_batch None = []
in_flight_batch (Some entries) = entries ∷ []

abbrev pub accepted_batches : {D : Type 0} → ClerkState D → List (List Entry)
accepted_batches clerk = batches_of clerk.history ++ in_flight_batch clerk.in_flight

-- the station that each of them is of
abbrev pub accepted_stations : {D : Type 0} → ClerkState D → List ℕ
accepted_stations clerk =
    stations_of clerk.history ++ by_station clerk.in_flight_by (in_flight_batch clerk.in_flight)

-- the second list begins with the first
pub record Extends (first second : List (List Entry)) : Type 0 where
  pub more : List (List Entry)
  pub is : second ≡ first ++ more

-- The image recovers to the state after a prefix of the batches, which has at least so many of
-- them.
pub record RecoversToPrefix (from : State) (batches : List (List Entry)) (least : ℕ)
    (image : Image) : Type 0 where
  pub count : ℕ
  pub at_least : least ≤ count
  pub at_most : count ≤ length batches
  pub recovers : RecoversTo (state_after from (take count batches)) image

-- each image that a crash now leaves recovers to the present state
abbrev pub LeavesState : {D : Type 0} → (D → DeviceState) → ClerkState D → Type 0
LeavesState state clerk =
    (image : Image) → (state clerk.journal.device).may_leave image
    → RecoversTo (present_state clerk) image

-- each image that a crash now leaves recovers to the present state, or to that and the batch in
-- flight
abbrev pub LeavesWithOrWithoutFlight : {D : Type 0} → (D → DeviceState) → ClerkState D → Type 0
LeavesWithOrWithoutFlight state clerk =
    (image : Image) → (state clerk.journal.device).may_leave image
    → RecoversWithOrWithout (present_state clerk) (in_flight_batch clerk.in_flight) image

-- Each image that a crash leaves from one moment of the clerk's life to a later one recovers to the
-- ledger of a prefix of the accepted batches, with all those of the turns that were taken before.
abbrev pub LeavesPrefix : {D : Type 0} → (D → DeviceState) → ClerkState D → ClerkState D → Type 0
LeavesPrefix state old new =
    LeavesOnly (state old.journal.device) (state new.journal.device)
    (RecoversToPrefix (opening_state old) (accepted_batches new) (length (batches_of old.history)))

-- each image that a crash now leaves recovers to the ledger of a prefix of the accepted batches,
-- with every acknowledged one
abbrev pub LeavesAcknowledged : {D : Type 0} → (D → DeviceState) → ClerkState D → Type 0
LeavesAcknowledged state clerk = (image : Image) → (state clerk.journal.device).may_leave image
    → RecoversToPrefix (opening_state clerk) (accepted_batches clerk)
    (length (batches_of clerk.history)) image

-- the journal at the opening, and as it was when each turn was acknowledged, in order
abbrev pub moments_of : {D : Type 0} → ClerkState D → List (JournalState D)
moments_of clerk = clerk.opening.journal ∷ clerk.acknowledged

-- none of these moments is before an earlier one
abbrev pub NeverFall : {D : Type 0} → (D → DeviceState) → List (JournalState D) → Type 0
NeverFall {D} state moments =
    (m n : ℕ) (earlier later : JournalState D) → m ≤ n → slice_get moments m ≡ Some earlier
    → slice_get moments n ≡ Some later
    → (state earlier.device).moment ≤ (state later.device).moment

-- Each image that a crash left at any moment since the opening recovers to the ledger of a prefix
-- of the accepted batches that holds every batch that had been acknowledged by that moment.
pub record LeftPrefixEver {D : Type 0} (state : D → DeviceState)
    (clerk : ClerkState D) : Type 0 where
  -- each turn was acknowledged at a moment
  pub one_each : length clerk.acknowledged ≡ length clerk.history
  pub in_order : NeverFall state (moments_of clerk)
  -- what a crash left since so many turns had been acknowledged holds every batch of theirs
  pub holds : (turns : ℕ) (then : JournalState D) → slice_get (moments_of clerk) turns ≡ Some then
      → LeavesOnly (state then.device) (state clerk.journal.device)
      (RecoversToPrefix (opening_state clerk) (accepted_batches clerk)
      (length (batches_of (take turns clerk.history))))

-- At rest, on an honest device.
pub record IsAtRest {D : Type 0} (state : D → DeviceState) (clerk : ClerkState D) : Type 0 where
  -- a journal that works holds the present state
  pub holds : clerk.journal.faulted ≡ false → HoldsState state clerk.journal (present_state clerk)
  -- a crash now leaves a prefix of the accepted batches with all those of the turns taken
  pub now : LeavesAcknowledged state clerk
  -- a crash at any moment since the opening left a prefix of the accepted batches with all that
  -- were acknowledged then
  pub ever : LeftPrefixEver state clerk

-- What holds of every clerk.
pub record IsClerk {D : Type 0} (state : D → DeviceState) (clerk : ClerkState D) : Type 0 where
  pub keeps : KeepsHistory clerk
  pub run : IsRun clerk.opening.line (moves_of clerk.history)
  pub opened : IsLedger clerk.opening.ledger
  pub batches : AreAccepted clerk.opening.ledger (entries_of (batches_of clerk.history))
  pub in_flight : clerk.journal.faulted ≡ false → clerk.in_flight ≡ None
  pub with_flight : AreAccepted clerk.opening.ledger (entries_of (accepted_batches clerk))
  pub at_rest : (state clerk.journal.device).honest → IsAtRest state clerk
