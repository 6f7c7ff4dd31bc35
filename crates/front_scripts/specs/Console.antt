-- What the console of a script is after a command.
use Rattle.std.specs.Prelude.{◌≡◌, ◌⊎◌, ◌<◌, ◌≤◌, ◌∷◌, ◌++◌, ℕ, true, false, List, [], length}
use Rattle.std.specs.Prelude.{replicate, OnOk, OnErr}
use Rattle.sector_device.specs.Device.{DeviceState, AreCalls}
use Rattle.sector_device.specs.Crash.{WasLookedAt}
use Rattle.four_state.specs.Configuration.{Configuration, stations}
use Rattle.turn_ledger.specs.declared.entry.Entry.{Entry}
use Rattle.journal_recovery.specs.Recovery.{RecoversTo}
use Rattle.turn_clerk.specs.Answered.{HasAnswered}
use Rattle.turn_clerk.specs.Clerk.{KeepsHistory, present_state}
use Rattle.turn_clerk.specs.Opened.{IsOpened}
use Rattle.turn_clerk.specs.Reply.{Reply}
use Rattle.line_lock.specs.OpenedOn.{WasOpenedOn, WasLeftByClerk}
use Rattle.office_day.specs.Day.{HadTheirDay}
use Rattle.office_day.specs.declared.reconciled.StationDay.{StationDay}
use Rattle.text_grammar.specs.Bits.{bits_of}
use Rattle.text_grammar.specs.declared.commands.Command.{Command}
use Rattle.text_grammar.specs.declared.commands.Command.TheVariants as command
use Rattle.front_scripts.specs.Clerk.{ScriptedState, held_for, holding, line_of}
use Rattle.front_scripts.specs.Day.{unanswered_of}
use Rattle.front_scripts.specs.declared.console.Console.{Console}
use Rattle.front_scripts.specs.declared.console.Console.TheVariants.{Closed, Open}

-- a fact of the device, if no office is open, and else one of the clerk
abbrev pub ByOffice : {D : Type 0} → Console D → (D → Type 0) → (ScriptedState D → Type 0) → Type 0
ByOffice (Closed device) P Q = P device
ByOffice (Open clerk) P Q = Q clerk

-- no office is open, and this holds of the device
abbrev pub IsClosedAnd : {D : Type 0} → Console D → (D → Type 0) → Type 0
IsClosedAnd console P = ByOffice console P (λ _. ⊥)

-- an office is open, and this holds of its clerk
abbrev pub IsOpenAnd : {D : Type 0} → Console D → (ScriptedState D → Type 0) → Type 0
IsOpenAnd console P = ByOffice console (λ _. ⊥) P

-- the device of a console
abbrev pub device_of : {D : Type 0} → Console D → D
device_of (Closed device) = device
device_of (Open clerk) = clerk.clerk.journal.device

-- An entry came for a station: it is held behind what was, if the line has the station and fewer
-- than 16 were held for it. Else nothing has changed.
pub record HasPosted {D : Type 0} (old : ScriptedState D) (station : ℕ) (entry : Entry)
    (new : ScriptedState D) : Type 0 where
  pub clerk : new.clerk ≡ old.clerk
  pub held : station < stations old.clerk.line → length (held_for old.held station) < 16
      → new.held ≡ holding old.held station (held_for old.held station ++ entry ∷ [])
  pub no_station : stations old.clerk.line ≤ station → new.held ≡ old.held
  pub full : 16 ≤ length (held_for old.held station) → new.held ≡ old.held

-- The clerk was asked for the turn of a station with what is held for it, which is nothing after a
-- turn that it took, and else as it was.
pub record HasAskedForTurn {D : Type 0} (state : D → DeviceState) (old : ScriptedState D)
    (station : ℕ) (new : ScriptedState D) : Type 0 where
  pub reply : Reply
  pub answered : HasAnswered state old.clerk station (held_for old.held station) reply new.clerk
  pub spent : OnOk reply (new.held ≡ holding old.held station [])
  pub kept : OnErr reply (new.held ≡ old.held)

-- A clerk was opened on the device with a line of so many stations, and holds nothing for them.
pub record HasOpened {D : Type 0} (state : D → DeviceState) (device : D) (line : Configuration)
    (count : ℕ) (opened : ScriptedState D) : Type 0 where
  pub looked : WasLookedAt (state device) (state opened.clerk.journal.device)
  pub clerk : IsOpened line opened.clerk
  pub held : opened.held ≡ replicate count []
  pub recovers : (state device).honest
      → RecoversTo (present_state opened.clerk) (state device).reads

-- The device lost its power: no call of it failed, and one that is honest reads as an image that
-- the loss may leave.
pub record HasLostPower (old new : DeviceState) : Type 0 where
  pub call : AreCalls old new ⊥
  pub left : old.honest → old.may_leave new.reads

-- The stations of a clerk had a day, of so many turns at most, with what was held for them: what
-- has no answer is held, and nothing else. The clerk is that of the day, which was opened on the
-- device and the line.
pub record HasHadDay {D : Type 0} (state : D → DeviceState) (old : ScriptedState D) (moves : ℕ)
    (new : ScriptedState D) : Type 0 where
  pub days : List StationDay
  pub had : HadTheirDay new.clerk moves old.held days
  pub held : new.held ≡ unanswered_of days
  pub within : length new.clerk.history ≤ moves
  pub opened : WasOpenedOn state (state old.clerk.journal.device) old.clerk.line new.clerk
  pub legal : KeepsHistory new.clerk

-- The device of an office that had no day: it was looked at, or is as a clerk left it that took
-- turns on it.
abbrev pub WasKept : {D : Type 0} → (D → DeviceState) → ScriptedState D → D → Type 0
WasKept state old after =
    WasLookedAt (state old.clerk.journal.device) (state after)
    ⊎ (after ≡ old.clerk.journal.device)
    ⊎ WasLeftByClerk state (state old.clerk.journal.device) old.clerk.line after

-- What a command makes of a console, where `loses` says what a power loss makes of a device. With
-- no office open `post`, `turn` and `day` leave it as it is; with one open so do `format` and
-- `open`, and a clerk that is faulted has no day.
abbrev pub HasRun : {D : Type 0} → (D → DeviceState) → (D → D → Type 0) → Command → Console D
    → Console D → Type 0
HasRun state loses (command.Format slots) old new =
    ByOffice old (λ _. IsClosedAnd new (λ _. Unit {0})) (λ clerk. new ≡ Open clerk)
HasRun state loses (command.Open n x up) old new =
    ByOffice old (λ device. ByOffice new (λ after. WasLookedAt (state device) (state after))
    (HasOpened state device (line_of (bits_of x) (bits_of up) n) n)) (λ clerk. new ≡ Open clerk)
HasRun state loses (command.Post station entry) old new =
    ByOffice old (λ device. new ≡ Closed device)
    (λ clerk. IsOpenAnd new (HasPosted clerk station entry))
HasRun state loses (command.Turn station) old new =
    ByOffice old (λ device. new ≡ Closed device)
    (λ clerk. IsOpenAnd new (HasAskedForTurn state clerk station))
HasRun state loses command.Bits old new = new ≡ old
HasRun state loses command.Balances old new = new ≡ old
HasRun state loses command.Crash old new =
    IsClosedAnd new (λ after. HasLostPower (state (device_of old)) (state after)
    × loses (device_of old) after)
HasRun state loses (command.Day moves) old new =
    ByOffice old (λ device. new ≡ Closed device) (λ clerk.
    (clerk.clerk.journal.faulted ≡ true → new ≡ Open clerk)
    × (clerk.clerk.journal.faulted ≡ false
    → ByOffice new (WasKept state clerk) (HasHadDay state clerk moves)))
