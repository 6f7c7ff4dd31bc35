-- What a crash may leave over a run of calls on an honest folder.
use Rattle.std.specs.Prelude.{◌≡◌, ◌⊎◌, ◌≤◌, ◌↔◌, ℕ, Option}
use Rattle.std.proofs.Common.{inl, inr, ⊎_elim, sym, ◌∙◌, subst, arith}
use Rattle.sector_device.specs.Image.{Image}
use Rattle.device_folder.specs.Folder.{Name, Left, FolderState, MayLeave, IsSound, Elapses, Touches}

-- Over a run of calls: what a crash at any moment since old leaves has P.
pub record LeavesOnly (old new : FolderState) (P : Left → Type 0) : Type 0 where
  pub later : old.moment ≤ new.moment
  pub each : (left : Left) → new.left_since old.moment left → P left
  -- for a run that began earlier
  pub before : (since : ℕ) (left : Left) → since ≤ old.moment → new.left_since since left
      → old.left_since since left ⊎ P left

-- before the first call
pub nothing_happened : (state : FolderState) (P : Left → Type 0) → IsSound state
    → ((left : Left) → MayLeave state left → P left) → LeavesOnly state state P
nothing_happened state P sound here = record {
  later = omega arith;
  each = λ left is. here left (sound.only_now left is);
  before = λ since left le is. inl is;
}

-- one call
pub one_call : (old new : FolderState) (P : Left → Type 0) → IsSound old → Elapses old new
    → ((left : Left) → MayLeave old left → P left)
    → ((left : Left) → MayLeave new left → P left) → LeavesOnly old new P
one_call old new P sound time here after = record {
  later = time.later;
  each = λ left is.
      ⊎_elim (λ was. here left (sound.only_now left was)) (after left)
      (time.nothing_else old.moment left (omega arith) is);
  before = λ since left le is.
      ⊎_elim (λ was. inl was) (λ now. inr (after left now)) (time.nothing_else since left le is);
}

-- two runs, one after the other
pub joined : (old mid new : FolderState) (P : Left → Type 0) → LeavesOnly old mid P
    → LeavesOnly mid new P → LeavesOnly old new P
joined old mid new P first second = record {
  later = omega (arith, first.later, second.later);
  each = λ left is.
      ⊎_elim (first.each left) (λ has. has) (second.before old.moment left first.later is);
  before = λ since left le is.
      ⊎_elim (first.before since left le) (λ has. inr has)
      (second.before since left (omega (arith, le, first.later)) is);
}

-- a weaker property
pub weakened : (old new : FolderState) (P Q : Left → Type 0) → ((left : Left) → P left → Q left)
    → LeavesOnly old new P → LeavesOnly old new Q
weakened old new P Q implies run = record {
  later = run.later;
  each = λ left is. implies left (run.each left is);
  before = λ since left le is.
      ⊎_elim (λ was. inl was) (λ has. inr (implies left has)) (run.before since left le is);
}

-- What a crash might have left, but for names that P holds of, which stand for what it says, and
-- for files that F holds of.
pub record LeftBut (P : Name → Option ℕ → Type 0) (F : ℕ → Type 0) (state : FolderState)
    (left : Left) : Type 0 where
  pub names : (name : Name) → state.may_name name (left.names name) ⊎ P name (left.names name)
  pub files : (file : ℕ) → (F file → ⊥) → state.may_hold file (left.files file)

-- A run of calls that changes at most this: names that P holds of come to stand for what it says,
-- and files that F holds of change in any way. A crash at any moment of it leaves no more.
pub record OnlyTouches (P : Name → Option ℕ → Type 0) (F : ℕ → Type 0) (old new : FolderState)
    : Type 0 where
  pub names : (name : Name) → (new.names name ≡ old.names name) ⊎ P name (new.names name)
  pub may_name : (name : Name) (to : Option ℕ) → new.may_name name to
      → old.may_name name to ⊎ P name to
  pub reads : (file : ℕ) → (F file → ⊥) → new.reads file ≡ old.reads file
  pub may_hold : (file : ℕ) (image : Image) → (F file → ⊥) → new.may_hold file image
      → old.may_hold file image
  pub lent : (file : ℕ) → (F file → ⊥) → new.lent file ↔ old.lent file
  pub crash : LeavesOnly old new (LeftBut P F old)

-- what a crash may leave after such a call
pub left_after : (P : Name → Option ℕ → Type 0) (F : ℕ → Type 0) (old new : FolderState)
    → Touches P F old new → (left : Left) → MayLeave new left → LeftBut P F old left
left_after P F old new call left is = record {
  names = λ name. call.may_name name (left.names name) (is.names name);
  files = λ file not. call.may_hold file (left.files file) not (is.files file);
}

-- one call
pub touched_once : (P : Name → Option ℕ → Type 0) (F : ℕ → Type 0) (old new : FolderState)
    → IsSound old → Touches P F old new → OnlyTouches P F old new
touched_once P F old new sound call = record {
  names = call.names;
  may_name = call.may_name;
  reads = call.reads;
  may_hold = call.may_hold;
  lent = call.lent;
  crash = one_call old new (LeftBut P F old) sound call.time
      (λ left is. record { names = λ name. inl (is.names name); files = λ file not. is.files file })
      (left_after P F old new call);
}

-- Two runs, one after the other: what the second says of names the first run's P says too.
pub touches_joined : (P Q : Name → Option ℕ → Type 0) (F G : ℕ → Type 0)
    (old mid new : FolderState) → ((name : Name) (to : Option ℕ) → Q name to → P name to)
    → ((file : ℕ) → G file → F file) → OnlyTouches P F old mid → OnlyTouches Q G mid new
    → OnlyTouches P F old new
touches_joined P Q F G old mid new name_too file_too first second = record {
  names = λ name. ⊎_elim
      (λ same. ⊎_elim (λ was. inl (same ∙ was))
      (λ says. inr (subst (λ (to : Option ℕ). P name to) (sym same) says)) (first.names name))
      (λ says. inr (name_too name (new.names name) says)) (second.names name);
  may_name = λ name to may. ⊎_elim (first.may_name name to)
      (λ says. inr (name_too name to says)) (second.may_name name to may);
  reads = λ file not. second.reads file (λ g. not (file_too file g)) ∙ first.reads file not;
  may_hold = λ file image not may. first.may_hold file image not
      (second.may_hold file image (λ g. not (file_too file g)) may);
  lent = λ file not.
      let after = second.lent file (λ g. not (file_too file g)) in
      let before = first.lent file not in
      (λ is. before.0 (after.0 is), λ was. after.1 (before.1 was));
  crash = joined old mid new (LeftBut P F old) first.crash
      (weakened mid new (LeftBut Q G mid) (LeftBut P F old)
      (λ left is. record {
        names = λ name. ⊎_elim (first.may_name name (left.names name))
            (λ says. inr (name_too name (left.names name) says)) (is.names name);
        files = λ file not. first.may_hold file (left.files file) not
            (is.files file (λ g. not (file_too file g)));
      }) second.crash);
}
