-- A scratch as a state of a ledger.
use Rattle.std.specs.Prelude.{ℕ, ◌+◌, ◌-◌}
use Rattle.arrayvec.specs.ArrayVec.{array_vec_len}
use Rattle.turn_ledger.specs.declared.scratch.Scratch.{Scratch}
use Rattle.turn_ledger.specs.declared.scratch.TheConstants.{CHANGES}
use Rattle.turn_ledger.specs.State.{LedgerState}
use Rattle.turn_ledger.specs.Scratch.{changed_state}

-- the ledger's state with the changes written over its balances, and the seals over its marks
abbrev pub scratch_state : Scratch → LedgerState
scratch_state scratch = changed_state scratch.ledger.now scratch.changes.items scratch.seals.items

-- how many changes and seals together it has room for
abbrev pub room_of : Scratch → ℕ
room_of scratch = CHANGES - (array_vec_len scratch.changes + array_vec_len scratch.seals)
