-- What a turn is.
use Rattle.std.specs.Prelude.{◌≡◌, ◌≤◌, ℕ, List, [], ◌∷◌, length, Option, Some, None}
use Rattle.four_state.specs.Configuration.{Configuration}
use Rattle.four_state.specs.Privilege.{IsPrivilege, choice}
use Rattle.four_state.specs.declared.rules.Rule.{Rule}
use Rattle.turn_ledger.specs.declared.entry.Entry.{Entry}
use Rattle.turn_ledger.specs.declared.limits.TheConstants.{BATCH_LIMIT}
use Rattle.turn_ledger.specs.Screen.{screened, with_yes}
use Rattle.journal_recovery.specs.State.{State}
use Rattle.turn_clerk.specs.declared.turns.Turn.{Turn}

-- the accepted entries of a turn, in order
abbrev pub accepted_of : Turn → List Entry
accepted_of turn = with_yes turn.entries turn.verdicts

-- Accepted entries are journaled as one batch, and where there are none nothing is journaled.
abbrev pub as_batch : List Entry → List (List Entry)
as_batch [] = []
as_batch (entry ∷ entries) = (entry ∷ entries) ∷ []

-- the sequence number of that batch: the next one; `None` where there are none
abbrev pub number_of : ℕ → List Entry → Option ℕ
number_of next [] = None
number_of next (entry ∷ entries) = Some next

-- The station stands in the line and some rule lets it move.
abbrev pub HasPrivilege : Configuration → ℕ → Type 0
HasPrivilege line station = (rule : Rule) × IsPrivilege line station rule

-- The station may take a turn with these entries.
pub record MayTurn (line : Configuration) (station : ℕ) (entries : List Entry) : Type 0 where
  pub privileged : HasPrivilege line station
  pub few : length entries ≤ BATCH_LIMIT

-- A turn taken on a line and a state: by the station's rule, which is Raise where it has two; its
-- entries are few enough, and each is judged after the accepted ones before it; what is accepted
-- has the next sequence number.
pub record IsTurn (line : Configuration) (state : State) (turn : Turn) : Type 0 where
  pub privileged : choice line turn.station ≡ Some turn.rule
  pub few : length turn.entries ≤ BATCH_LIMIT
  pub judged : turn.verdicts ≡ screened state.ledger turn.entries
  pub numbered : turn.posted ≡ number_of state.next (accepted_of turn)
