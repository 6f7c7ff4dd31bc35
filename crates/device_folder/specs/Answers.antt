-- What each answer of a call says of the folder before it. The causes of one call exclude each
-- other. So each refusal comes exactly where its cause holds, unless there is no memory, or the
-- system failed.
use Rattle.std.specs.Prelude.{◌≡◌, ◌⊎◌, ℕ, None, Some, Result, Ok, Err, IsSome}
use Rattle.device_folder.specs.Folder.{Name, FolderState}
use Rattle.device_folder.specs.declared.folder.FolderFault.{FolderFault}
use Rattle.device_folder.specs.declared.folder.FolderFault.TheVariants.{Exists, Missing, InUse}
use Rattle.device_folder.specs.declared.folder.FolderFault.TheVariants.{Foreign, Memory}
use Rattle.device_folder.specs.declared.folder.FolderFault.TheVariants.{Failed}

-- the system failed
abbrev pub IsFailed : {T : Type 0} → Result T FolderFault → Type 0
IsFailed (Ok value) = ⊥
IsFailed (Err Failed) = Unit {0}
IsFailed (Err fault) = ⊥

-- the call was refused, and the system didn't fail
abbrev pub IsRefused : {T : Type 0} → Result T FolderFault → Type 0
IsRefused (Ok value) = ⊥
IsRefused (Err Failed) = ⊥
IsRefused (Err fault) = Unit {0}

-- the name stands for a file that is lent
pub record IsInUse (state : FolderState) (name : Name) : Type 0 where
  pub file : ℕ
  pub named : state.names name ≡ Some file
  pub lent : state.lent file

-- the name stands for a file that isn't lent
pub record IsFree (state : FolderState) (name : Name) : Type 0 where
  pub file : ℕ
  pub named : state.names name ≡ Some file
  pub not_lent : state.lent file → ⊥

-- a name that stands for a file is refused
abbrev pub MakeAnswers : {T : Type 0} → FolderState → Name → Result T FolderFault → Type 0
MakeAnswers state name (Ok file) = state.names name ≡ None
MakeAnswers state name (Err Exists) = IsSome (state.names name)
MakeAnswers state name (Err Memory) = Unit {0}
MakeAnswers state name (Err Failed) = Unit {0}
MakeAnswers state name (Err fault) = ⊥

-- a name that stands for no file, or for one that is lent, is refused
abbrev pub OpenAnswers : {T : Type 0} → FolderState → Name → Result T FolderFault → Type 0
OpenAnswers state name (Ok file) = IsFree state name
OpenAnswers state name (Err Missing) = state.names name ≡ None
OpenAnswers state name (Err InUse) = IsInUse state name
OpenAnswers state name (Err Memory) = Unit {0}
OpenAnswers state name (Err Failed) = Unit {0}
OpenAnswers state name (Err fault) = ⊥

-- a file that isn't lent is refused
abbrev pub KeepAnswers : {T : Type 0} → FolderState → ℕ → Result T FolderFault → Type 0
KeepAnswers state file (Ok done) = state.lent file
KeepAnswers state file (Err Foreign) = state.lent file → ⊥
KeepAnswers state file (Err Memory) = Unit {0}
KeepAnswers state file (Err Failed) = Unit {0}
KeepAnswers state file (Err fault) = ⊥

-- the same names are refused as when opening
abbrev pub RemoveAnswers : {T : Type 0} → FolderState → Name → Result T FolderFault → Type 0
RemoveAnswers state name answer = OpenAnswers state name answer

-- A first name is refused as when opening. A second one is refused if it stands for a file that is
-- lent.
abbrev pub RenameAnswers : {T : Type 0} → FolderState → Name → Name → Result T FolderFault → Type 0
RenameAnswers state from target (Ok done) =
    IsFree state from × (IsInUse state target → ⊥)
RenameAnswers state from target (Err Missing) = state.names from ≡ None
RenameAnswers state from target (Err InUse) =
    IsInUse state from ⊎ (IsFree state from × IsInUse state target)
RenameAnswers state from target (Err Memory) = Unit {0}
RenameAnswers state from target (Err Failed) = Unit {0}
RenameAnswers state from target (Err fault) = ⊥

-- nothing is refused but for want of memory
abbrev pub NeverRefuses : {T : Type 0} → Result T FolderFault → Type 0
NeverRefuses (Ok value) = Unit {0}
NeverRefuses (Err Memory) = Unit {0}
NeverRefuses (Err Failed) = Unit {0}
NeverRefuses (Err fault) = ⊥
