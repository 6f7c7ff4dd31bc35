-- What a power loss leaves of the files of a folder in memory.
use Rattle.std.specs.Prelude.{◌≡◌, ℕ, List, [], Option, None, Some, find, ◌==◌, slice_get}
use Rattle.std.specs.Prelude.{option_map, unwrap_or}
use Rattle.sector_device.specs.Image.{Image}
use Rattle.sector_device.specs.Crash.{IsDurable}
use Rattle.sector_device.specs.MemoryDevice.{memory_device_state, HasPicks}
use Rattle.sector_device.specs.declared.memory.MemoryDevice.{MemoryDevice}
use Rattle.device_folder.specs.Folder.{Left, FolderState}
use Rattle.device_folder.specs.declared.loss.FileLeft.{FileLeft}
use Rattle.device_folder.specs.declared.memory.Slot.{Slot}
use Rattle.device_folder.specs.declared.memory.Slot.TheVariants.{Kept, Lost}
use Rattle.device_folder.specs.declared.memory.MemoryFolder.{MemoryFolder}

-- the picks of the first choice for a file; without one, none
abbrev pub picks_of : List FileLeft → ℕ → List (ℕ × List ℕ)
picks_of choices file =
    unwrap_or (option_map (λ choice. choice.picks.list.items)
    (find (λ choice. choice.file == file) choices)) []

-- the device lost power with these picks
pub record HasCrashed (picks : List (ℕ × List ℕ)) (old new : MemoryDevice) : Type 0 where
  pub picked : HasPicks old picks (memory_device_state new).reads
  pub lawful : (memory_device_state old).may_leave (memory_device_state new).reads
  pub durable : IsDurable (memory_device_state new)

-- A file that isn't lent loses what is pending. Nothing is left of one that is lent.
abbrev pub IsLostBy : List (ℕ × List ℕ) → Slot → Slot → Type 0
IsLostBy picks (Kept old) (Kept new) = HasCrashed picks old new
IsLostBy picks (Kept old) new = ⊥
IsLostBy picks old new = new ≡ Lost

abbrev pub IsLostAt : List (ℕ × List ℕ) → Option Slot → Option Slot → Type 0
IsLostAt picks None None = Unit {0}
IsLostAt picks (Some old) (Some new) = IsLostBy picks old new
IsLostAt picks old new = ⊥

-- so each file
abbrev pub AreLostBy : List FileLeft → List Slot → List Slot → Type 0
AreLostBy choices old new = (file : ℕ)
    → IsLostAt (picks_of choices file) (slice_get old file) (slice_get new file)

-- After a power loss with these picks reads of the file give this image. Of a file that was lent,
-- and of one that isn't there, they give nothing.
abbrev pub TakesPicks : List (ℕ × List ℕ) → Option Slot → Image → Type 0
TakesPicks picks (Some (Kept device)) image = HasPicks device picks image
TakesPicks picks slot image = image ≡ []

abbrev pub HasFilePicks : MemoryFolder → List FileLeft → ℕ → Image → Type 0
HasFilePicks folder choices file image =
    TakesPicks (picks_of choices file) (slice_get folder.parts.files.items file) image

-- what a folder holds, as what a crash left
abbrev pub as_left : FolderState → Left
as_left state = record { names = state.names; files = state.reads }
