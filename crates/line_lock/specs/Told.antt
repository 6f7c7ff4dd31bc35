-- What a seat is told of a turn.
use Rattle.std.specs.Prelude.{◌≡◌, ◌≢◌, ◌+◌, ◌<◌, ◌≤◌, true, List, [], ◌∷◌, ◌++◌, length, Some}
use Rattle.std.specs.Prelude.{Result, Err, IfOk, OnOk, OnErr, IsSomeAnd}
use Rattle.sector_device.specs.Device.{DeviceState}
use Rattle.four_state.specs.Configuration.{Configuration}
use Rattle.turn_ledger.specs.declared.entry.Entry.{Entry}
use Rattle.turn_ledger.specs.declared.limits.TheConstants.{BATCH_LIMIT}
use Rattle.turn_clerk.specs.declared.turns.Turn.{Turn}
use Rattle.turn_clerk.specs.declared.refusals.TurnRefusal.{TurnRefusal}
use Rattle.turn_clerk.specs.declared.refusals.TurnRefusal.TheVariants.{Faulted, NoStation}
use Rattle.turn_clerk.specs.declared.refusals.TurnRefusal.TheVariants.{NotPrivileged, TooMany}
use Rattle.turn_clerk.specs.declared.refusals.TurnRefusal.TheVariants.{Memory, Device}
use Rattle.line_lock.specs.Seat.{SeatState, WasAcknowledged, IsDeniedAfter, WasRefused}

-- A seat asked for a turn with these entries, in an office that was opened on that device with that
-- line, and was answered; a refusal of the turn is reported as `told` says. A turn is in its list,
-- behind the others; it is its station's, has these entries, 15 at most, and was acknowledged
-- before it was answered. A refusal lists nothing, and is one of the clerk's, in the clerk's order,
-- but for out of memory if the seat's list has no place. That it isn't the station's turn is noted,
-- with how many turns the history held, and is so; that a fault was met before is noted; that the
-- device failed is counted, and with which entries is noted. What the seat was told of an account
-- stays.
pub record WasTold {D E : Type 0} (state : D → DeviceState) (device : DeviceState)
    (from : Configuration) (old new : SeatState)
    (entries : List Entry) (reply : Result Turn E) (told : TurnRefusal → E) : Type 0 where
  pub station : new.station ≡ old.station
  -- a turn
  pub listed : IfOk reply (λ turn. new.turns ≡ old.turns ++ turn ∷ [])
  pub by : IfOk reply (λ turn. turn.station ≡ old.station)
  pub asked : IfOk reply (λ turn. turn.entries ≡ entries)
  pub index : IfOk reply (λ turn. length old.turns ≤ turn.index)
  pub acknowledged : IfOk reply (WasAcknowledged state device from)
  -- a refusal
  pub not_listed : OnErr reply (new.turns ≡ old.turns)
  pub refused : (refusal : TurnRefusal) → reply ≡ Err (told refusal)
      → (refusal ≡ Memory → 0 < new.room)
      → WasRefused device from old.station entries refusal
  pub too_many : reply ≡ Err (told TooMany) → BATCH_LIMIT < length entries
  pub few : OnOk reply (length entries ≤ BATCH_LIMIT)
  pub there : reply ≢ Err (told NoStation)
  -- that it isn't its turn
  pub denied : reply ≡ Err (told NotPrivileged)
      → IsSomeAnd new.denied (λ before. length old.turns ≤ before)
  pub rightly : reply ≡ Err (told NotPrivileged)
      → IsSomeAnd new.denied (IsDeniedAfter device from old.station)
  pub not_denied : reply ≢ Err (told NotPrivileged) → new.denied ≡ old.denied
  -- that a fault was met before
  pub faulted : reply ≡ Err (told Faulted) → new.faulted ≡ true
  pub not_faulted : reply ≢ Err (told Faulted) → new.faulted ≡ old.faulted
  -- that the device failed
  pub failed : reply ≡ Err (told Device) → new.failed ≡ old.failed + 1
  pub not_failed : reply ≢ Err (told Device) → new.failed ≡ old.failed
  pub undecided : reply ≡ Err (told Device) → new.undecided ≡ Some entries
  pub not_undecided : reply ≢ Err (told Device) → new.undecided ≡ old.undecided
  -- of an account
  pub told_before : new.told ≡ old.told
