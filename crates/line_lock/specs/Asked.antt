-- What an office is asked of its ledger while it is open.
use Rattle.std.specs.Prelude.{◌≢◌, ◌≡◌, ◌+◌, ◌≤◌, ◌↔◌, ℕ, min, true, false, length, IsTrue, Result}
use Rattle.std.specs.Prelude.{Ok, Err, IfOk, Some, None}
use Rattle.sector_device.specs.Device.{DeviceState}
use Rattle.sector_device.specs.Crash.{AreLooks}
use Rattle.four_state.specs.Configuration.{Configuration}
use Rattle.turn_ledger.specs.State.{IsAccount, balance_of}
use Rattle.journal_recovery.specs.State.{State}
use Rattle.turn_clerk.specs.Clerk.{ClerkState, KeepsHistory, opening_state}
use Rattle.turn_clerk.specs.FarBack.{KeepsSinceOpening}
use Rattle.turn_clerk.specs.Found.{HasPicked, TellsOfPostings}
use Rattle.turn_clerk.specs.Search.{IsStepFromSome, end_of_step}
use Rattle.turn_clerk.specs.declared.searching.Reached.TheVariants.{LookingBack}
use Rattle.turn_clerk.specs.declared.searching.SearchStep.{SearchStep}
use Rattle.turn_clerk.specs.declared.search_target.SearchTarget.{SearchTarget}
use Rattle.turn_clerk.specs.declared.refusals.FindRefusal.{FindRefusal}
use Rattle.turn_clerk.specs.declared.refusals.FindRefusal.TheVariants as find
use Rattle.line_lock.specs.OpenedOn.{WasOpenedOn}
use Rattle.line_lock.specs.Seat.{SeatState}
use Rattle.line_lock.specs.declared.told.Room.{Room}
use Rattle.line_lock.specs.declared.refusals.BalanceRefusal.{BalanceRefusal}
use Rattle.line_lock.specs.declared.refusals.BalanceRefusal.TheVariants.{Faulted, NoAccount}

-- What a clerk answers of an account: what it holds, if the clerk works and there is such an
-- account, and else which of both isn't so, first that the clerk doesn't work.
abbrev pub IsBalance : {D : Type 0} → ClerkState D → ℕ → Result ℕ BalanceRefusal → Type 0
IsBalance clerk account (Ok amount) =
    (clerk.journal.faulted ≡ false) × IsAccount account × (amount ≡ balance_of clerk.ledger account)
IsBalance clerk account (Err Faulted) = clerk.journal.faulted ≡ true
IsBalance clerk account (Err NoAccount) = (clerk.journal.faulted ≡ false) × (IsAccount account → ⊥)

-- A seat that notes what it was told, and is else as it was.
abbrev pub NotesAlone : SeatState → SeatState → Type 0
NotesAlone old new = new ≡ record old { told = new.told; faulted = new.faulted }

-- a seat that was told this of an account, where the history held so many turns
abbrev pub noted : SeatState → ℕ → ℕ → Result ℕ BalanceRefusal → SeatState
noted seat account turns (Ok amount) =
    record seat { told = Some (record { account = account; amount = amount; turns = turns }) }
noted seat account turns (Err Faulted) = record seat { faulted = true }
noted seat account turns (Err NoAccount) = seat

-- A clerk of an office that was opened on that device with that line, from a state in which the
-- office may begin: its turns are a legal history, which ends in its ledger.
pub record IsClerkOf {D : Type 0} (state : D → DeviceState) (device : DeviceState)
    (from : Configuration) (begins : State → Type 0) (clerk : ClerkState D) : Type 0 where
  pub opened : WasOpenedOn state device from clerk
  pub began : begins (opening_state clerk)
  pub legal : KeepsHistory clerk

-- An office was asked for an account's balance by a seat, and a clerk of it answered, which has as
-- many turns as the seat lists, or more, while it works. The seat notes the answer, with how many
-- they are.
pub record WasToldBalance {D : Type 0} (state : D → DeviceState) (device : DeviceState)
    (from : Configuration) (begins : State → Type 0) (old new : SeatState) (account : ℕ)
    (answer : Result ℕ BalanceRefusal) : Type 0 where
  pub clerk : ClerkState D
  pub of : IsClerkOf state device from begins clerk
  pub turns : clerk.journal.faulted ≡ false → length old.turns ≤ length clerk.history
  pub is : IsBalance clerk account answer
  pub note : new ≡ noted old account (length clerk.history) answer

-- What a clerk answers of its room: the number of its next batch, and how many slots of its live
-- bank are free.
pub record IsRoom {D : Type 0} (clerk : ClerkState D) (room : Room) : Type 0 where
  pub next : room.next ≡ clerk.journal.next
  pub free : room.next + room.free ≡ clerk.journal.live.base + clerk.journal.slots

-- An office was asked how much room there is, and a clerk of it answered.
pub record WasToldRoom {D : Type 0} (state : D → DeviceState) (device : DeviceState)
    (from : Configuration) (begins : State → Type 0) (room : Room) : Type 0 where
  pub clerk : ClerkState D
  pub of : IsClerkOf state device from begins clerk
  pub is : IsRoom clerk room

-- a seat that was told this of a search: of a fault of the device alone something is noted
abbrev pub searched : {Told : Type 0} → SeatState → Result Told FindRefusal → SeatState
searched seat (Ok told) = seat
searched seat (Err find.Faulted) = record seat { faulted = true }
searched seat (Err find.Changed) = seat
searched seat (Err find.Device) = seat

-- An office was asked by a seat for what is sought, from the record of a number on and before that
-- of another, and a clerk of it answered. Its device was only looked at. On an honest device its
-- last records are those that were there at the opening, or were posted since.
pub record WasSearched {D : Type 0} (state : D → DeviceState) (device : DeviceState)
    (from : Configuration) (begins : State → Type 0) (old new : SeatState) (sought : SearchTarget)
    (first end : ℕ) (answer : Result SearchStep FindRefusal) : Type 0 where
  pub clerk : ClerkState D
  pub of : IsClerkOf state device from begins clerk
  pub after : D
  pub looks : AreLooks (state clerk.journal.device) (state after) (answer ≡ Err find.Device)
  pub faulted : (answer ≡ Err find.Faulted) ↔ IsTrue clerk.journal.faulted
  pub looking_back : IfOk answer (λ step. step.reached ≡ LookingBack → step.posting ≡ None)
  pub numbered : IfOk answer
      (λ step. step.reached ≢ LookingBack → IsStepFromSome clerk.journal sought first end step)
  pub note : new ≡ searched old answer
  -- on an honest device
  pub kept : device.honest → KeepsSinceOpening state clerk (state clerk.journal.device).reads
  pub picked : device.honest
      → IfOk answer (λ step. step.reached ≢ LookingBack
      → HasPicked state clerk sought first end step)
  pub batches : device.honest → IfOk answer (λ step. step.reached ≢ LookingBack
      → TellsOfPostings clerk sought first (end_of_step (min end clerk.journal.next) step.reached)
      step.posting)
