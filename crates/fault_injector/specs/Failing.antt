-- A device that fails at one call, or from one call on, or holds one call until it is let go.
use Rattle.std.specs.Prelude.{◌≡◌, ◌⊎◌, ℕ, Bool, Option, None, Some, zero, suc, true}
use Rattle.sector_device.specs.Device.{DeviceState, AreCalls}
use Rattle.sector_device.specs.Wrapped.{one_more, with_failures}
use Rattle.fault_injector.specs.declared.op.Op.{Op}
use Rattle.fault_injector.specs.declared.op.Op.TheVariants.{Any}

pub record FailingState (D : Type 0) : Type 0 where
  pub inner : D
  -- which calls are counted
  pub op : Op
  -- how many calls of that kind come before the one that is waited for; None once that one was made
  pub left : Option ℕ
  -- how many calls have failed without reaching the inner device
  pub failures : ℕ

-- calls of the second kind are counted by a device that waits for the first
abbrev pub Counts : Op → Op → Type 0
Counts op call = (op ≡ Any) ⊎ (op ≡ call)

-- A next call of this kind is one to fail: it is the one that is waited for, or that one was made
-- and the device fails for good.
abbrev pub Fails : {D : Type 0} → Bool → FailingState D → Op → Type 0
Fails for_good device call =
    (Counts device.op call × (device.left ≡ Some 0)) ⊎ ((for_good ≡ true) × (device.left ≡ None))

-- a call fewer to wait for; behind the one that is waited for there is none
abbrev pub one_fewer : Option ℕ → Option ℕ
one_fewer None = None
one_fewer (Some zero) = None
one_fewer (Some (suc left)) = Some left

-- What a call of this kind makes of what is waited for, whatever becomes of it: calls of the kind
-- that is counted are counted, and no others.
pub record HasCounted {D : Type 0} (old new : FailingState D) (call : Op) : Type 0 where
  pub op : new.op ≡ old.op
  pub counted : Counts old.op call → new.left ≡ one_fewer old.left
  pub not_counted : (Counts old.op call → ⊥) → new.left ≡ old.left

-- What holds of any run of calls holds of what the inner device was asked, and any fault is its
-- own.
pub record IsPassedOn {D : Type 0} (state : D → DeviceState) (old new : FailingState D)
    (fault : Type 0) : Type 0 where
  pub call : AreCalls (state old.inner) (state new.inner) fault
  pub failures : new.failures ≡ old.failures

-- The call failed without reaching the inner device.
pub record IsHeldBack {D : Type 0} (old new : FailingState D) (fault : Type 0) : Type 0 where
  pub failed : fault
  pub inner : new.inner ≡ old.inner
  pub failures : new.failures ≡ one_more old.failures

-- what is to be known of it as a device
abbrev pub failing_state : {D : Type 0} → (D → DeviceState) → FailingState D → DeviceState
failing_state state device = with_failures (state device.inner) device.failures
