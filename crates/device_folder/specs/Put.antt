-- A file that is put into a folder under a name, whole or not at all.
use Rattle.std.specs.Prelude.{◌≡◌, ◌≢◌, ◌⊎◌, ◌<◌, ◌≤◌, ◌-◌, ◌^◌, ℕ, Option, None, Some}
use Rattle.std.specs.Prelude.{Result, Ok, Err, IsSome}
use Rattle.sector_device.specs.Image.{Image}
use Rattle.sector_device.specs.Device.{DeviceState}
use Rattle.sector_device.specs.Crash.{IsDurable}
use Rattle.device_folder.specs.Folder.{Name, Left, FolderState, MayLeave, IsFresh, NamesAreDurable}
use Rattle.device_folder.specs.Answers.{IsInUse}
use Rattle.device_folder.specs.declared.folder.FolderFault.{FolderFault}
use Rattle.device_folder.specs.declared.folder.FolderFault.TheVariants.{Exists, InUse, Memory}
use Rattle.device_folder.specs.declared.folder.FolderFault.TheVariants.{Failed}
use Rattle.device_folder.specs.declared.put.PutFault.{PutFault}
use Rattle.device_folder.specs.declared.put.PutFault.TheVariants.{Folder, Content}

-- the folder's system failed
abbrev pub IsFolderFailed : {E : Type 0} → Result (Unit {0}) (PutFault E) → Type 0
IsFolderFailed (Err (Folder Failed)) = Unit {0}
IsFolderFailed answer = ⊥

-- A file that is lent is refused. Otherwise there is no memory, or the system failed.
abbrev pub ClearAnswers : FolderState → Name → Result (Unit {0}) FolderFault → Type 0
ClearAnswers state name (Ok done) = IsInUse state name → ⊥
ClearAnswers state name (Err InUse) = IsInUse state name
ClearAnswers state name (Err Memory) = Unit {0}
ClearAnswers state name (Err Failed) = Unit {0}
ClearAnswers state name (Err fault) = ⊥

-- A name that stands for a file is refused. Otherwise there is no memory, the folder's system
-- failed, or the content wasn't written.
abbrev pub MakeFileAnswers : {E : Type 0} → Name → FolderState → Result (Unit {0}) (PutFault E)
    → Type 0
MakeFileAnswers name state (Ok done) = state.names name ≡ None
MakeFileAnswers name state (Err (Folder Exists)) = IsSome (state.names name)
MakeFileAnswers name state (Err (Folder Memory)) = Unit {0}
MakeFileAnswers name state (Err (Folder Failed)) = Unit {0}
MakeFileAnswers name state (Err (Folder fault)) = ⊥
MakeFileAnswers name state (Err (Content fault)) = state.names name ≡ None

-- An unfinished name whose file is lent is refused. Otherwise there is no memory, the folder's
-- system failed, or the content wasn't written.
abbrev pub PutAnswers : {E : Type 0} → Name → FolderState → Result (Unit {0}) (PutFault E) → Type 0
PutAnswers unfinished state (Ok done) = IsInUse state unfinished → ⊥
PutAnswers unfinished state (Err (Folder InUse)) = IsInUse state unfinished
PutAnswers unfinished state (Err (Folder Memory)) = Unit {0}
PutAnswers unfinished state (Err (Folder Failed)) = Unit {0}
PutAnswers unfinished state (Err (Folder fault)) = ⊥
PutAnswers unfinished state (Err (Content fault)) = IsInUse state unfinished → ⊥

-- A run of calls that goes on behind a failure keeps honesty, both ways. Where failed holds, the
-- count of failures rose, or stands at its greatest value; where well holds, it is as it was.
pub record IsRun (old new : FolderState) (failed well : Type 0) : Type 0 where
  pub stays_honest : old.honest → new.honest
  pub was_honest : new.honest → old.honest
  pub faults : old.faults ≤ new.faults
  pub rose : failed → (old.faults < new.faults) ⊎ (2 ^ 64 - 1 ≤ new.faults)
  pub stayed : well → new.faults ≡ old.faults

-- the device reads as what P holds of, and so does every crash leave it
pub record IsWritten (P : Image → Type 0) (device : DeviceState) : Type 0 where
  pub has : P device.reads
  pub durable : IsDurable device

-- the sectors of the file that a name stands for, if it stands for one
abbrev pub content_of : Option ℕ → (ℕ → Image) → Option Image
content_of None files = None
content_of (Some file) files = Some (files file)

-- what is read under a name
abbrev pub read_in : FolderState → Name → Option Image
read_in state name = content_of (state.names name) state.reads

-- what a crash left under it
abbrev pub left_in : Left → Name → Option Image
left_in left name = content_of (left.names name) left.files

-- A crash may leave that under the name: nothing, or a file of this image.
abbrev pub MayRead : FolderState → Name → Option Image → Type 0
MayRead state name None = state.may_name name None
MayRead state name (Some image) =
    (file : ℕ) × state.may_name name (Some file) × state.may_hold file image

-- Nothing is pending: a crash now leaves each name standing for what it stands for, and each file
-- that has a name as it reads.
pub record IsSettled (state : FolderState) : Type 0 where
  pub names : NamesAreDurable state
  pub files : (name : Name) (file : ℕ) (image : Image) → state.names name ≡ Some file
      → state.may_hold file image → image ≡ state.reads file

-- Nothing is pending but that one name, and the file that it stands for.
pub record IsSettledBut (unfinished : Name) (state : FolderState) : Type 0 where
  pub names : (name : Name) (to : Option ℕ) → name ≢ unfinished → state.may_name name to
      → to ≡ state.names name
  pub files : (name : Name) (file : ℕ) (image : Image) → name ≢ unfinished
      → state.names name ≡ Some file → state.may_hold file image → image ≡ state.reads file

-- there is an image, and P holds of it
abbrev pub Has : (Image → Type 0) → Option Image → Type 0
Has P None = ⊥
Has P (Some image) = P image

-- The name stands for a new file that isn't lent. P holds of what it reads as, and every crash
-- leaves that.
pub record IsWhole (name : Name) (P : Image → Type 0) (old new : FolderState) : Type 0 where
  pub file : ℕ
  pub fresh : IsFresh old file
  pub named : new.names name ≡ Some file
  pub not_lent : new.lent file → ⊥
  pub has : P (new.reads file)
  pub durable : (left : Image) → new.may_hold file left → left ≡ new.reads file

-- The second name stands for what the first stood for, the first for nothing, and each name
-- durably.
pub record IsInPlace (from target : Name) (old new : FolderState) : Type 0 where
  pub named : new.names target ≡ old.names from
  pub free : new.names from ≡ None
  pub durable : NamesAreDurable new

-- Each name but the unfinished one has what a crash might have left there at first: so what it had,
-- if nothing was pending.
abbrev pub IsBefore : Name → FolderState → Left → Type 0
IsBefore unfinished old left = (name : Name) → name ≢ unfinished
    → MayRead old name (left_in left name)

-- P holds of what the name has, and each other one but the unfinished is as before
pub record IsAfter (unfinished own : Name) (P : Image → Type 0) (old : FolderState) (left : Left)
    : Type 0 where
  pub put : Has P (left_in left own)
  pub others : (name : Name) → name ≢ unfinished → name ≢ own
      → MayRead old name (left_in left name)

abbrev pub IsBeforeOrAfter : Name → Name → (Image → Type 0) → FolderState → Left → Type 0
IsBeforeOrAfter unfinished own P old left =
    IsBefore unfinished old left ⊎ IsAfter unfinished own P old left

-- P holds of what the name is read as, and every crash from now on leaves the folder as after
pub record StandsFor (unfinished own : Name) (P : Image → Type 0) (old new : FolderState)
    : Type 0 where
  pub reads : Has P (read_in new own)
  pub durable : (left : Left) → MayLeave new left → IsAfter unfinished own P old left
