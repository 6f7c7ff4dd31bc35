-- What is to be known of a folder at one moment, and what one call changes.
use Rattle.std.specs.Prelude.{◌≡◌, ◌⊎◌, ◌≤◌, ◌↔◌, ℕ, List, Option, None, Some, replicate}
use Rattle.sector_device.specs.Image.{Image}
use Rattle.sector_device.specs.Device.{DeviceState, HasCause}

-- the bytes of a name
abbrev pub Name : Type 0
Name = List ℕ

-- What a crash left: the number of the file that each name stands for, or nothing, and the sectors
-- of each file, by its number.
pub record Left : Type 0 where
  pub names : Name → Option ℕ
  pub files : ℕ → Image

-- A folder at one moment. Files have numbers, since a name may come to stand for another file. Time
-- is counted in moments: each call may pass some.
pub record FolderState : Type 1 where
  -- the file that each name stands for, or nothing
  pub names : Name → Option ℕ
  -- what a crash now may leave a name standing for, each name by itself
  pub may_name : Name → Option ℕ → Type 0
  -- the sectors of each file that isn't lent
  pub reads : ℕ → Image
  -- what a crash now may leave of a file, each file by itself
  pub may_hold : ℕ → Image → Type 0
  -- the file is lent
  pub lent : ℕ → Type 0
  -- the present moment, a number that never falls
  pub moment : ℕ
  -- what a crash at some moment from that one up to now might have left
  pub left_since : ℕ → Left → Type 0
  -- the folder and its files lose only as these facts say, and nobody else changes them
  pub honest : Type 0
  -- how many calls have failed; at 2^64 - 1 the count stands
  pub faults : ℕ

-- each name and each file is as it may be left by itself
pub record Leaves (may_name : Name → Option ℕ → Type 0) (may_hold : ℕ → Image → Type 0)
    (left : Left) : Type 0 where
  pub names : (name : Name) → may_name name (left.names name)
  pub files : (file : ℕ) → may_hold file (left.files file)

-- a crash now may leave that
abbrev pub MayLeave : FolderState → Left → Type 0
MayLeave state left = Leaves state.may_name state.may_hold left

-- What holds of an honest folder at each moment.
pub record IsSound (state : FolderState) : Type 0 where
  -- losing nothing is one of the outcomes
  pub names_stay : (name : Name) → state.may_name name (state.names name)
  pub files_stay : (file : ℕ) → (state.lent file → ⊥) → state.may_hold file (state.reads file)
  -- of a file that is lent a crash may leave anything
  pub lent_may_hold : (file : ℕ) (image : Image) → state.lent file → state.may_hold file image
  -- this moment is one of those since any earlier one
  pub counts_now : (since : ℕ) (left : Left) → since ≤ state.moment → MayLeave state left
      → state.left_since since left
  -- since this moment there is no other
  pub only_now : (left : Left) → state.left_since state.moment left → MayLeave state left

-- What any call, and any run of calls, keeps on every folder, honest or not.
pub record AreFolderCalls (old new : FolderState) (failed : Type 0) : Type 0 where
  pub stays_honest : old.honest → new.honest
  pub was_honest : new.honest → old.honest
  pub faults : old.faults ≤ new.faults
  pub cause : HasCause old.faults new.faults failed

-- A call took its time: a crash since an earlier moment might have left what it might have left
-- before the call, or what it may leave now; and none of it is forgotten.
pub record Elapses (old new : FolderState) : Type 0 where
  pub later : old.moment ≤ new.moment
  pub nothing_else : (since : ℕ) (left : Left) → since ≤ old.moment → new.left_since since left
      → old.left_since since left ⊎ MayLeave new left
  pub nothing_forgotten : (since : ℕ) (left : Left) → since ≤ old.moment
      → old.left_since since left → new.left_since since left

-- A call, whether it failed or not, that changes at most this: names that P holds of come to stand
-- for what it says, and files that F holds of change in any way.
pub record Touches (P : Name → Option ℕ → Type 0) (F : ℕ → Type 0) (old new : FolderState)
    : Type 0 where
  pub time : Elapses old new
  pub names : (name : Name) → (new.names name ≡ old.names name) ⊎ P name (new.names name)
  pub may_name : (name : Name) (to : Option ℕ) → new.may_name name to
      → old.may_name name to ⊎ P name to
  pub reads : (file : ℕ) → (F file → ⊥) → new.reads file ≡ old.reads file
  pub may_hold : (file : ℕ) (image : Image) → (F file → ⊥) → new.may_hold file image
      → old.may_hold file image
  pub lent : (file : ℕ) → (F file → ⊥) → new.lent file ↔ old.lent file

-- no name changes
abbrev pub Keeps : Name → Option ℕ → Type 0
Keeps name to = ⊥

-- no file changes
abbrev pub NoFile : ℕ → Type 0
NoFile file = ⊥

-- nothing has changed, and a crash may leave nothing more than before
abbrev pub IsUnchanged : FolderState → FolderState → Type 0
IsUnchanged old new = Touches Keeps NoFile old new

-- a new file: no name may stand for it, and it isn't lent
pub record IsFresh (state : FolderState) (file : ℕ) : Type 0 where
  pub nameless : (name : Name) → state.may_name name (Some file) → ⊥
  pub not_lent : state.lent file → ⊥

-- the name comes to stand for a new file
pub record Makes (made : Name) (old : FolderState) (name : Name) (to : Option ℕ) : Type 0 where
  pub same : name ≡ made
  pub file : ℕ
  pub is : to ≡ Some file
  pub fresh : IsFresh old file

-- the second name comes to stand for the file of the first, and the first for nothing
abbrev pub Renames : Name → Name → FolderState → Name → Option ℕ → Type 0
Renames from target old name to =
    ((name ≡ target) × (to ≡ old.names from)) ⊎ ((name ≡ from) × (to ≡ None))

-- the name comes to stand for nothing
abbrev pub Removes : Name → Name → Option ℕ → Type 0
Removes removed name to = (name ≡ removed) × (to ≡ None)

-- the file that a name stands for
abbrev pub IsNamed : FolderState → Name → ℕ → Type 0
IsNamed state name file = state.names name ≡ Some file

-- A file of so many zero sectors was made under that name, and is lent.
pub record IsMade (name : Name) (sectors : ℕ) (old new : FolderState) (file : DeviceState)
    : Type 0 where
  pub fresh : IsFresh old file.number
  pub named : new.names name ≡ Some file.number
  pub lent : new.lent file.number
  pub honest : file.honest
  pub zero : file.reads ≡ replicate sectors (replicate 512 0)

-- The file of that name is lent, as it was.
pub record IsLent (name : Name) (old new : FolderState) (file : DeviceState) : Type 0 where
  pub named : old.names name ≡ Some file.number
  pub lent : new.lent file.number
  pub honest : file.honest
  pub reads : file.reads ≡ old.reads file.number
  pub may_hold : (image : Image) → file.may_leave image → old.may_hold file.number image

-- The file was given back: it reads as its device did, and a crash leaves of it what it might have
-- left of that.
pub record IsKept (file : DeviceState) (new : FolderState) : Type 0 where
  pub not_lent : new.lent file.number → ⊥
  pub reads : new.reads file.number ≡ file.reads
  pub may_hold : (image : Image) → new.may_hold file.number image → file.may_leave image

-- A crash now leaves each name standing for what it stands for: no name is pending.
abbrev pub NamesAreDurable : FolderState → Type 0
NamesAreDurable state = (name : Name) (to : Option ℕ) → state.may_name name to
    → to ≡ state.names name
