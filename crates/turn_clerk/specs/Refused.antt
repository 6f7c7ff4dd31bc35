-- Why a turn was not taken.
use Rattle.std.specs.Prelude.{◌≡◌, ◌≢◌, ◌<◌, ◌≤◌, ℕ, Bool, true, false, List, [], length}
use Rattle.four_state.specs.Configuration.{Configuration, stations}
use Rattle.gate_journal.specs.declared.layout.LiveBank.{LiveBank}
use Rattle.turn_ledger.specs.declared.entry.Entry.{Entry}
use Rattle.turn_ledger.specs.declared.limits.TheConstants.{BATCH_LIMIT}
use Rattle.turn_ledger.specs.Screen.{accepted}
use Rattle.journal_recovery.specs.State.{State}
use Rattle.turn_clerk.specs.Room.{IsExhausted}
use Rattle.turn_clerk.specs.Turn.{HasPrivilege, MayTurn}
use Rattle.turn_clerk.specs.Clerk.{ClerkState, present_state}
use Rattle.turn_clerk.specs.declared.refusals.TurnRefusal.{TurnRefusal}
use Rattle.turn_clerk.specs.declared.refusals.TurnRefusal.TheVariants.{Faulted, NoStation}
use Rattle.turn_clerk.specs.declared.refusals.TurnRefusal.TheVariants.{NotPrivileged, TooMany}
use Rattle.turn_clerk.specs.declared.refusals.TurnRefusal.TheVariants.{Memory, Exhausted, Device}

-- All that an answer depends on.
pub record Standing : Type 0 where
  pub faulted : Bool
  pub line : Configuration
  pub state : State
  -- how many slots each bank has
  pub slots : ℕ
  pub live : LiveBank

abbrev pub standing_of : {D : Type 0} → ClerkState D → Standing
standing_of clerk =
    record {
      faulted = clerk.journal.faulted;
      line = clerk.line;
      state = present_state clerk;
      slots = clerk.journal.slots;
      live = clerk.journal.live;
    }

-- They stand alike, but that where they are faulted their live banks may differ, on which no answer
-- then depends.
pub record StandsAs (one other : Standing) : Type 0 where
  pub faulted : one.faulted ≡ other.faulted
  pub line : one.line ≡ other.line
  pub state : one.state ≡ other.state
  pub slots : one.slots ≡ other.slots
  pub live : one.faulted ≡ false → one.live ≡ other.live

-- The clerk works, and the station may take a turn with these entries, of which some are accepted.
pub record WantsRecord (standing : Standing) (station : ℕ) (entries : List Entry) : Type 0 where
  pub works : standing.faulted ≡ false
  pub may : MayTurn standing.line station entries
  pub some : accepted standing.state.ledger entries ≢ []

-- no batch can be journaled any more
abbrev pub CanJournalNoMore : Standing → Type 0
CanJournalNoMore standing = IsExhausted standing.slots standing.live standing.state.next

-- What holds where a turn is refused: of the first four exactly, and where none of them holds, of
-- the others at least.
abbrev pub ClerkRefuses : Standing → ℕ → List Entry → TurnRefusal → Type 0
ClerkRefuses standing station entries Faulted = standing.faulted ≡ true
ClerkRefuses standing station entries NoStation =
    (standing.faulted ≡ false) × (stations standing.line ≤ station)
ClerkRefuses standing station entries NotPrivileged =
    (standing.faulted ≡ false) × (station < stations standing.line)
    × ¬ HasPrivilege standing.line station
ClerkRefuses standing station entries TooMany =
    (standing.faulted ≡ false) × HasPrivilege standing.line station × (BATCH_LIMIT < length entries)
ClerkRefuses standing station entries Memory =
    (standing.faulted ≡ false) × MayTurn standing.line station entries
ClerkRefuses standing station entries Exhausted =
    WantsRecord standing station entries × CanJournalNoMore standing
ClerkRefuses standing station entries Device =
    WantsRecord standing station entries × ¬ CanJournalNoMore standing
