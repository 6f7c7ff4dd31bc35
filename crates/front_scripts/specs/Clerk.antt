-- What contracts see of a clerk that a script drives.
use Rattle.std.specs.Prelude.{◌≡◌, ◌-◌, ℕ, Bool, true, false, List, [], slice_set, Result, Err}
use Rattle.std.specs.Prelude.{IsOk, IfErr, OnOk}
use Rattle.std.specs.List.{slice_index_or}
use Rattle.sector_device.specs.Device.{DeviceState}
use Rattle.four_state.specs.Configuration.{Configuration}
use Rattle.turn_ledger.specs.declared.entry.Entry.{Entry}
use Rattle.journal_recovery.specs.declared.refusals.OpenRefusal.{OpenRefusal}
use Rattle.turn_clerk.specs.declared.refusals.TurnRefusal.{TurnRefusal}
use Rattle.turn_clerk.specs.Answered.{HasAnswered}
use Rattle.turn_clerk.specs.Clerk.{ClerkState}
use Rattle.turn_clerk.specs.Reply.{Reply}
use Rattle.front_scripts.specs.declared.refusals.Refusal.{Refusal}
use Rattle.front_scripts.specs.declared.refusals.Refusal.TheVariants.{Line, Open}

pub record ScriptedState (D : Type 0) : Type 0 where
  pub clerk : ClerkState D
  -- what is held for each station, the lowest first
  pub held : List (List Entry)

-- what is held for a station: nothing for one that the line lacks
abbrev pub held_for : List (List Entry) → ℕ → List Entry
held_for held station = slice_index_or held station []

-- these entries are held for the station now, and for each other one what was
abbrev pub holding : List (List Entry) → ℕ → List Entry → List (List Entry)
holding held station entries = slice_set held station entries

-- the line of these bits; up is true at the bottom and false at the top, whatever is given
abbrev pub line_of : List Bool → List Bool → ℕ → Configuration
line_of x up stations = record { x = x; up = slice_set (slice_set up 0 true) (stations - 1) false }

-- The clerk was asked for the turn of a station with these entries, and answered, as the result
-- tells: the turn, which is the last of its history then, or why none was taken.
pub record HasTurned {D A : Type 0} (state : D → DeviceState) (old : ClerkState D) (station : ℕ)
    (entries : List Entry) (result : Result A TurnRefusal) (new : ClerkState D) : Type 0 where
  pub reply : Reply
  pub answered : HasAnswered state old station entries reply new
  pub taken : OnOk result (IsOk reply)
  pub refused : IfErr result (λ refusal. reply ≡ Err refusal)

-- A clerk isn't opened for one of these reasons alone: the bits are no line's, or the device can't
-- be opened.
abbrev pub IsOpeningRefusal : Refusal → Type 0
IsOpeningRefusal (Line refusal) = Unit {0}
IsOpeningRefusal (Open refusal) = Unit {0}
IsOpeningRefusal _ = ⊥

-- where the device can't be opened, a fact of the reason
abbrev pub IfOpening : Refusal → (OpenRefusal → Type 0) → Type 0
IfOpening (Open refusal) P = P refusal
IfOpening _ P = Unit {0}
