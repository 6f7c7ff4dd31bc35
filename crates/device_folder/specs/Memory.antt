-- A folder in memory at one moment.
use Rattle.std.specs.Prelude.{◌≡◌, ◌⊎◌, ◌≤◌, ℕ, List, [], ◌∷◌, Option, Some, Result, Ok, Err}
use Rattle.std.specs.Prelude.{length, reverse, slice_get}
use Rattle.std.specs.declared.snapshot.Snapshot.{Snapshot}
use Rattle.sector_device.specs.Image.{Image}
use Rattle.sector_device.specs.MemoryDevice.{memory_device_state}
use Rattle.sector_device.specs.declared.memory.MemoryDevice.{MemoryDevice}
use Rattle.device_folder.specs.Folder.{Name, Left, Leaves, FolderState}
use Rattle.device_folder.specs.Answers.{OpenAnswers, IsFailed}
use Rattle.device_folder.specs.Names.{named, MayName}
use Rattle.device_folder.specs.declared.folder.FolderFault.{FolderFault}
use Rattle.device_folder.specs.declared.memory.Slot.{Slot}
use Rattle.device_folder.specs.declared.memory.Slot.TheVariants.{Kept, Lent}
use Rattle.device_folder.specs.declared.memory.Parts.{Parts}
use Rattle.device_folder.specs.declared.names.Entry.{Entry}
use Rattle.device_folder.specs.declared.memory.MemoryFolder.{MemoryFolder}

-- what a file that isn't lent reads as; one that is lost, or isn't there, has no sectors
abbrev pub read_as : Option Slot → Image
read_as (Some (Kept device)) = (memory_device_state device).reads
read_as slot = []

-- what a crash may leave of a file: of one that is lent, anything
abbrev pub MayHold : Option Slot → Image → Type 0
MayHold (Some (Kept device)) image = (memory_device_state device).may_leave image
MayHold (Some Lent) image = Unit {0}
MayHold slot image = image ≡ []

abbrev pub IsLentOut : Option Slot → Type 0
IsLentOut (Some Lent) = Unit {0}
IsLentOut slot = ⊥

-- a crash may leave that of a folder of these names and files
abbrev pub AreLeft : List Entry → List Slot → Left → Type 0
AreLeft entries files left =
    Leaves (MayName entries) (λ file. MayHold (slice_get files file)) left

-- What a crash might have left at some moment when the folder had been through at least so many
-- calls: what it was before each call stands in a list, the newest first.
abbrev pub LeftSince : List Entry → List Slot → List (Snapshot Parts) → ℕ → Left → Type 0
LeftSince entries files [] since left = AreLeft entries files left
LeftSince entries files (was ∷ past) since left =
    AreLeft entries files left
    ⊎ ((since ≤ length past)
    × LeftSince was.value.names.entries.items was.value.files.items past since left)

-- It is honest, no call of it fails, and moments are counted by its past.
abbrev pub folder_state : List Entry → List Slot → List (Snapshot Parts) → FolderState
folder_state entries files past = record {
  names = named entries;
  may_name = MayName entries;
  reads = λ file. read_as (slice_get files file);
  may_hold = λ file. MayHold (slice_get files file);
  lent = λ file. IsLentOut (slice_get files file);
  moment = length past;
  left_since = LeftSince entries files (reverse past);
  honest = Unit {0};
  faults = 0;
}

abbrev pub memory_folder_state : MemoryFolder → FolderState
memory_folder_state folder =
    folder_state folder.parts.names.entries.items folder.parts.files.items folder.past.items

-- what the folder was has come into its past
pub record IsNoted (parts : Parts) (old new : List (Snapshot Parts)) : Type 0 where
  pub was : Snapshot Parts
  pub is : was.value ≡ parts
  pub past : reverse new ≡ was ∷ reverse old

-- the number of the file of a name, which isn't lent, or why there is none
abbrev pub Finds : FolderState → Name → Result ℕ FolderFault → Type 0
Finds state name (Ok file) = (state.names name ≡ Some file) × (state.lent file → ⊥)
Finds state name (Err fault) =
    let answer : Result ℕ FolderFault = Err fault in
    OpenAnswers state name answer × (IsFailed answer → ⊥)

-- the device of a file that is to be lent
abbrev pub device_in : Slot → MemoryDevice → MemoryDevice
device_in (Kept device) empty = device
device_in slot empty = empty
