-- A device that notes its calls.
use Rattle.std.specs.Prelude.{◌≡◌, ◌++◌, ◌∷◌, ◌<◌, ◌≤◌, ℕ, List, [], length}
use Rattle.fault_injector.specs.declared.call.Call.{Call}

pub record NotingState (D : Type 0) : Type 0 where
  pub inner : D
  -- the calls that it has noted, the first one first
  pub calls : List Call
  -- how many calls it has room for
  pub room : ℕ

-- What a call makes of the notes, whatever the inner device answers.
pub record HasNoted {D : Type 0} (old new : NotingState D) (call : Call) : Type 0 where
  -- it is noted behind those before it, where there is room for it
  pub noted : length old.calls < old.room → new.calls ≡ old.calls ++ call ∷ []
  pub full : old.room ≤ length old.calls → new.calls ≡ old.calls
  pub room : new.room ≡ old.room
