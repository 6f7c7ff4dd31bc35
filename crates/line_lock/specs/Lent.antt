-- An office that was lent to whoever worked in it.
use Rattle.std.specs.Prelude.{◌≡◌, ◌≢◌, ℕ, ◌<◌, List, length, map, All, sum_by}
use Rattle.std.specs.List.{range_with_len}
use Rattle.sector_device.specs.Device.{DeviceState, AreCalls}
use Rattle.sector_device.specs.Crash.{OnlyLooks, IsDurable}
use Rattle.four_state.specs.Configuration.{Configuration, stations}
use Rattle.sweep_auditor.specs.Run.{IsRun}
use Rattle.sweep_auditor.specs.Audited.{IsAuditOf}
use Rattle.sweep_auditor.specs.declared.moves.Audit.{Audit}
use Rattle.journal_recovery.specs.Refused.{RecoveryRefuses}
use Rattle.journal_recovery.specs.declared.refusals.OpenRefusal.{OpenRefusal}
use Rattle.journal_recovery.specs.declared.refusals.OpenRefusal.TheVariants.{Memory, Device}
use Rattle.turn_clerk.specs.Clerk.{ClerkState, KeepsHistory, LeavesAcknowledged, LeftPrefixEver}
use Rattle.turn_clerk.specs.FarBack.{LeftRecordsEver}
use Rattle.turn_clerk.specs.History.{moves_of}
use Rattle.line_lock.specs.Account.{IsBorneOut, failed_turns, seats_of}
use Rattle.line_lock.specs.OpenedOn.{WasOpenedOn}
use Rattle.line_lock.specs.Seat.{SeatState, new_seat}
use Rattle.line_lock.specs.declared.lent.OfficeRefusal.{OfficeRefusal}
use Rattle.line_lock.specs.declared.lent.OfficeRefusal.TheVariants.{Opening}

-- The seats of a line with so many stations as an opening hands them out, station 0 first.
abbrev pub new_seats : ℕ → List SeatState
new_seats count = map new_seat (range_with_len 0 count)

-- The seats account for the clerk's whole history: each of so many stations has one, the clerk
-- bears out what it holds, each turn is in the list of one, and a turn in which the device failed
-- is counted at one.
pub record AccountFor {D : Type 0} (count : ℕ) (seats : List SeatState)
    (clerk : ClerkState D) : Type 0 where
  pub one_seat : (station : ℕ) → station < count → seats_of station seats ≡ 1
  pub borne_out : All (IsBorneOut clerk) seats
  pub counted : length clerk.history ≡ sum_by (λ seat. length seat.turns) seats
  pub there : All (λ turn. turn.station < count) clerk.history
  pub failed : sum_by (λ seat. seat.failed) seats ≡ failed_turns clerk

-- The clerk of an office that was opened on that device with that line, over its whole life, and
-- the audit of its opening line and all its moves.
pub record IsClosed {D : Type 0} (state : D → DeviceState) (device : DeviceState)
    (from : Configuration) (clerk : ClerkState D) (audit : Audit) : Type 0 where
  pub stations : stations clerk.line ≡ stations from
  pub opened : WasOpenedOn state device from clerk
  pub legal : KeepsHistory clerk
  pub run : IsRun clerk.opening.line (moves_of clerk.history)
  pub acknowledged : (state clerk.journal.device).honest → LeavesAcknowledged state clerk
  pub at_any_moment : (state clerk.journal.device).honest → LeftPrefixEver state clerk
  pub in_sight : (state clerk.journal.device).honest → LeftRecordsEver state clerk
  pub last : audit.last ≡ clerk.line
  pub audited : IsAuditOf clerk.opening.line (moves_of clerk.history) audit

-- The opening of an office on a device was refused for that reason, which hands the device back.
pub record IsRefused {D : Type 0} (state : D → DeviceState) (before after : D)
    (refusal : OpenRefusal) : Type 0 where
  pub call : AreCalls (state before) (state after) (refusal ≡ Device)
  pub untouched : refusal ≡ Memory → after ≡ before
  -- on an honest device
  pub looks : (state before).honest → OnlyLooks (state before) (state after)
  pub settled : (state before).honest → refusal ≢ Memory → refusal ≢ Device
      → IsDurable (state after)
  pub refused : (state before).honest → refusal ≢ Memory → refusal ≢ Device
      → RecoveryRefuses (state before).reads refusal

-- where the office couldn't be opened, a fact of the reason
abbrev pub IfOpening : {F : Type 0} → OfficeRefusal F → (OpenRefusal → Type 0) → Type 0
IfOpening (Opening refusal) P = P refusal
IfOpening _ P = Unit {0}

-- a fact, but for where the office couldn't be opened
abbrev pub UnlessOpening : {F : Type 0} → OfficeRefusal F → Type 0 → Type 0
UnlessOpening (Opening refusal) P = Unit {0}
UnlessOpening _ P = P
