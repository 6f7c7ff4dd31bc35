-- What a crash may leave before, within and after the calls of an honest device.
use Rattle.std.specs.Prelude.{◌≡◌, ◌⊎◌, ◌<◌, ◌≤◌, ℕ, length}
use Rattle.std.proofs.Common.{inl, inr, ⊎_elim, refl, sym, ◌∙◌, subst, arith}
use Rattle.sector_device.specs.Image.{Image, DiffersAt, differs_nowhere}
use Rattle.sector_device.specs.Device.{AreCalls, DeviceState, IsSound, calls_joined, not_called}

-- A call took its time: a crash since an earlier moment might have left what it might have left
-- before the call, or what it may leave now; and none of it is forgotten.
pub record Elapses (old new : DeviceState) : Type 0 where
  pub later : old.moment ≤ new.moment
  pub nothing_else : (since : ℕ) (image : Image) → since ≤ old.moment → new.left_since since image
      → old.left_since since image ⊎ new.may_leave image
  pub nothing_forgotten : (since : ℕ) (image : Image) → since ≤ old.moment
      → old.left_since since image → new.left_since since image

-- A read or a sync, whether it failed or not: reads give the same, and a crash may leave nothing
-- more than before.
pub record IsLook (old new : DeviceState) : Type 0 where
  pub time : Elapses old new
  pub reads : new.reads ≡ old.reads
  pub nothing_more : (image : Image) → new.may_leave image → old.may_leave image

-- A write to one sector, whether it failed or not: reads give some 512 bytes there, and what a
-- crash may leave is what it might have left before, but for any 512 bytes there.
pub record IsWrite (at : ℕ) (old new : DeviceState) : Type 0 where
  pub time : Elapses old new
  pub reads : DiffersAt at old.reads new.reads
  pub torn : (image : Image) → new.may_leave image
      → (before : Image) × old.may_leave before × DiffersAt at before image

-- A crash now leaves what reads give, and nothing else: no sector is pending.
abbrev pub IsDurable : DeviceState → Type 0
IsDurable state = (image : Image) → state.may_leave image → image ≡ state.reads

-- Over a run of calls: an image that a crash at any moment since old leaves has P.
pub record LeavesOnly (old new : DeviceState) (P : Image → Type 0) : Type 0 where
  pub later : old.moment ≤ new.moment
  pub each : (image : Image) → new.left_since old.moment image → P image
  -- for a run that began earlier
  pub before : (since : ℕ) (image : Image) → since ≤ old.moment → new.left_since since image
      → old.left_since since image ⊎ P image

-- before the first call
pub nothing_happened : (state : DeviceState) (P : Image → Type 0) → IsSound state
    → ((image : Image) → state.may_leave image → P image) → LeavesOnly state state P
nothing_happened state P sound here = record {
  later = omega arith;
  each = λ image left. here image (sound.only_now image left);
  before = λ since image le left. inl left;
}

-- one call
pub one_call : (old new : DeviceState) (P : Image → Type 0) → IsSound old → Elapses old new
    → ((image : Image) → old.may_leave image → P image)
    → ((image : Image) → new.may_leave image → P image) → LeavesOnly old new P
one_call old new P sound time here after = record {
  later = time.later;
  each = λ image left.
      ⊎_elim (λ was. here image (sound.only_now image was)) (after image)
      (time.nothing_else old.moment image (omega arith) left);
  before = λ since image le left.
      ⊎_elim (λ was. inl was) (λ now. inr (after image now))
      (time.nothing_else since image le left);
}

-- two runs, one after the other
pub joined : (old mid new : DeviceState) (P : Image → Type 0) → LeavesOnly old mid P
    → LeavesOnly mid new P → LeavesOnly old new P
joined old mid new P first second = record {
  later = omega (arith, first.later, second.later);
  each = λ image left.
      ⊎_elim (first.each image) (λ has. has) (second.before old.moment image first.later left);
  before = λ since image le left.
      ⊎_elim (first.before since image le) (λ has. inr has)
      (second.before since image (omega (arith, le, first.later)) left);
}

-- a weaker property
pub weakened : (old new : DeviceState) (P Q : Image → Type 0)
    → ((image : Image) → P image → Q image) → LeavesOnly old new P → LeavesOnly old new Q
weakened old new P Q implies run = record {
  later = run.later;
  each = λ image left. implies image (run.each image left);
  before = λ since image le left.
      ⊎_elim (λ was. inl was) (λ has. inr (implies image has)) (run.before since image le left);
}

-- A run of reads and syncs: reads give the same at its end, and a crash at any moment since it
-- began leaves what a crash might have left at its start.
pub record OnlyLooks (old new : DeviceState) : Type 0 where
  pub reads : new.reads ≡ old.reads
  pub nothing_more : (image : Image) → new.may_leave image → old.may_leave image
  pub crash : LeavesOnly old new old.may_leave

-- what an honest device went through is such a run
abbrev pub LooksOnly : DeviceState → DeviceState → Type 0
LooksOnly old new = old.honest → OnlyLooks old new

-- Calls that only look: what any calls keep, and an honest device was read and synced, and not
-- written.
pub record AreLooks (old new : DeviceState) (fault : Type 0) : Type 0 where
  pub call : AreCalls old new fault
  pub only : LooksOnly old new

-- The device was looked at: it has the same number and as many sectors, is honest where it was and
-- only there, and an honest one was read and synced, and not written.
pub record WasLookedAt (old new : DeviceState) : Type 0 where
  pub number : new.number ≡ old.number
  pub sectors : length new.reads ≡ length old.reads
  pub stays_honest : old.honest → new.honest
  pub was_honest : new.honest → old.honest
  pub looks : LooksOnly old new

pub looked_nowhere : (state : DeviceState) → IsSound state → OnlyLooks state state
looked_nowhere state sound = record {
  reads = refl;
  nothing_more = λ image left. left;
  crash = nothing_happened state state.may_leave sound (λ image left. left);
}

pub looked_once : (old new : DeviceState) → IsSound old → IsLook old new → OnlyLooks old new
looked_once old new sound same = record {
  reads = same.reads;
  nothing_more = same.nothing_more;
  crash = one_call old new old.may_leave sound same.time (λ image left. left) same.nothing_more;
}

pub looks_joined : (old mid new : DeviceState) → OnlyLooks old mid → OnlyLooks mid new
    → OnlyLooks old new
looks_joined old mid new first second = record {
  reads = second.reads ∙ first.reads;
  nothing_more = λ image left. first.nothing_more image (second.nothing_more image left);
  crash = joined old mid new old.may_leave first.crash
      (weakened mid new mid.may_leave old.may_leave first.nothing_more second.crash);
}

-- one look, none, and two runs of looks, of which either tells of a fault
pub are_looks_once : (old new : DeviceState) (fault : Type 0) → (old.honest → IsSound old)
    → AreCalls old new fault → (old.honest → IsLook old new) → AreLooks old new fault
are_looks_once old new fault sound call same =
    record { call = call; only = λ honest. looked_once old new (sound honest) (same honest) }

pub are_looks_nowhere : (state : DeviceState) (fault : Type 0) → (state.honest → IsSound state)
    → (fault → ⊥) → AreLooks state state fault
are_looks_nowhere state fault sound none =
    record {
      call = not_called state fault none;
      only = λ honest. looked_nowhere state (sound honest);
    }

pub are_looks_joined : (old mid new : DeviceState) (first second either : Type 0)
    → (either → first ⊎ second) → (first ⊎ second → either)
    → AreLooks old mid first → AreLooks mid new second → AreLooks old new either
are_looks_joined old mid new first second either which told before after = record {
  call = calls_joined old mid new first second either which told before.call after.call;
  only = λ honest.
      looks_joined old mid new (before.only honest) (after.only (before.call.stays_honest honest));
}

-- A write to a device with nothing pending: a crash within it, or after it, leaves what reads gave,
-- but for some 512 bytes in that sector.
pub write_leaves : (at : ℕ) (old new : DeviceState) → IsSound old → at < length old.reads
    → IsDurable old → IsWrite at old new
    → LeavesOnly old new (DiffersAt at old.reads)
    × ((image : Image) → new.may_leave image → DiffersAt at old.reads image)
write_leaves at old new sound lt durable torn =
    let before : (image : Image) → old.may_leave image → DiffersAt at old.reads image =
    λ image left.
    subst (DiffersAt at old.reads) (sym (durable image left))
    (differs_nowhere at old.reads (sound.images old.reads sound.nothing_lost).0 lt) in
    let after : (image : Image) → new.may_leave image → DiffersAt at old.reads image = λ image left.
    let was = torn.torn image left in
    subst (λ (first : Image). DiffersAt at first image) (durable was.0 was.1) was.2 in
    (one_call old new (DiffersAt at old.reads) sound torn.time before after, after)

-- a call that changed nothing is a write that changed nothing
pub torn_nothing : (at : ℕ) (old new : DeviceState) → IsSound old → at < length old.reads
    → IsLook old new → IsWrite at old new
torn_nothing at old new sound lt same = record {
  time = same.time;
  reads = subst (λ (image : Image). DiffersAt at old.reads image) (sym same.reads)
      (differs_nowhere at old.reads (sound.images old.reads sound.nothing_lost).0 lt);
  torn = λ image left.
      let was = same.nothing_more image left in
      let is = sound.images image was in
      (image, was, differs_nowhere at image is.0 (omega (arith, is.1, lt)));
}
