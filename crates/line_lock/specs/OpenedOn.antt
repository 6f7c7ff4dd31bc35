-- What an office was opened on, and what its clerk keeps of it.
use Rattle.std.specs.Prelude.{◌≡◌, ◌↔◌, ℕ, List, [], length}
use Rattle.std.specs.declared.sync.ledger.Blank.{Blank}
use Rattle.sector_device.specs.Image.{Image}
use Rattle.sector_device.specs.Device.{DeviceState}
use Rattle.sector_device.specs.Crash.{OnlyLooks, IsDurable}
use Rattle.four_state.specs.Configuration.{Configuration, stations}
use Rattle.journal_recovery.specs.State.{State}
use Rattle.journal_recovery.specs.Recovery.{RecoversTo}
use Rattle.turn_clerk.specs.declared.turns.Turn.{Turn}
use Rattle.turn_clerk.specs.History.{IsLegal}
use Rattle.turn_clerk.specs.Clerk.{ClerkState, KeepsHistory, LeavesAcknowledged, LeftPrefixEver}
use Rattle.turn_clerk.specs.Clerk.{opening_state}

-- Two descriptions of a device say the same of it.
pub record SayTheSame (one other : DeviceState) : Type 0 where
  pub reads : one.reads ≡ other.reads
  pub may_leave : (image : Image) → one.may_leave image ↔ other.may_leave image
  pub moment : one.moment ≡ other.moment
  pub left_since : (since : ℕ) (image : Image)
      → one.left_since since image ↔ other.left_since since image
  pub honest : one.honest ↔ other.honest
  pub faults : one.faults ≡ other.faults
  pub number : one.number ≡ other.number

-- What the type says that names an office is its ledger's name and number of parts, a device and a
-- line. This blank and this name are of an office that is opened on the device `opened` with the
-- line `start`: the blank is of the name's ledger, which has a part for each station, and the name
-- says what the device and the line are.
pub record Names (ledger count : ℕ) (said : DeviceState) (from : Configuration) (blank : Blank)
    (opened : DeviceState) (start : Configuration) : Type 0 where
  pub name : blank.name ≡ ledger
  pub parts : blank.parts ≡ count
  pub one_each : count ≡ stations start
  pub device : SayTheSame said opened
  pub line : from ≡ start

-- The clerk is one that was opened on that device, as it was then, with that line: up to its first
-- turn it only looked at the device, no call of which failed; then nothing on it was pending, and
-- what it found is what the device's image recovers to.
pub record WasOpenedOn {D : Type 0} (state : D → DeviceState) (device : DeviceState)
    (from : Configuration) (clerk : ClerkState D) : Type 0 where
  pub line : clerk.opening.line ≡ from
  -- the device has its number and as many sectors as then, and is honest where it was, and only
  -- there
  pub number : (state clerk.journal.device).number ≡ device.number
  pub sectors : length (state clerk.journal.device).reads ≡ length device.reads
  pub stays_honest : device.honest → (state clerk.journal.device).honest
  pub was_honest : (state clerk.journal.device).honest → device.honest
  -- no call of the opening met a fault of the device
  pub no_fault : (state clerk.opening.journal.device).faults ≡ device.faults
  -- on an honest device
  pub looks : device.honest → OnlyLooks device (state clerk.opening.journal.device)
  pub settled : device.honest → IsDurable (state clerk.opening.journal.device)
  pub recovers : device.honest → RecoversTo (opening_state clerk) device.reads

-- The device comes from a clerk that was opened on that one with that line: its turns are a legal
-- history, and a crash now leaves the ledger of a prefix of the accepted batches with every
-- acknowledged one. So did a crash at any moment since the opening, with every one that had been
-- acknowledged then.
pub record WasLeftByClerk {D : Type 0} (state : D → DeviceState) (device : DeviceState)
    (from : Configuration) (after : D) : Type 0 where
  pub clerk : ClerkState D
  pub has : clerk.journal.device ≡ after
  pub opened : WasOpenedOn state device from clerk
  pub legal : KeepsHistory clerk
  pub acknowledged : device.honest → LeavesAcknowledged state clerk
  pub at_any_moment : device.honest → LeftPrefixEver state clerk

-- The turns are a legal history from the opening on that device with that line: from that line on,
-- and from a state that on an honest device is what its image recovers to.
pub record IsHistoryOf (device : DeviceState) (from : Configuration)
    (turns : List Turn) : Type 0 where
  pub found : State
  pub recovers : device.honest → RecoversTo found device.reads
  pub legal : IsLegal from found turns

-- What stands for a device and a line where nothing was opened: who opens an office says what is
-- there instead.
abbrev pub no_device : DeviceState
no_device = record {
  reads = [];
  may_leave = λ _. ⊥;
  moment = 0;
  left_since = λ _ _. ⊥;
  honest = ⊥;
  faults = 0;
  number = 0;
}

abbrev pub no_line : Configuration
no_line = record { x = []; up = [] }
