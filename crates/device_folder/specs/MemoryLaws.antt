-- A folder in memory keeps the law of folders.
use Rattle.std.specs.Prelude.{◌≤◌, ℕ, List, [], ◌∷◌, Option, None, Some, length, reverse}
use Rattle.std.specs.Prelude.{slice_get}
use Rattle.std.proofs.Common.{inl, inr, refl, arith}
use Rattle.std.proofs.lemmas.List.{length-reverse}
use Rattle.std.specs.declared.snapshot.Snapshot.{Snapshot}
use Rattle.sector_device.specs.Image.{Image}
use Rattle.sector_device.specs.MemoryLaws.{memory_sound}
use Rattle.device_folder.specs.Folder.{Left, IsSound}
use Rattle.device_folder.specs.Names.{entry_of, file_in, MayStand}
use Rattle.device_folder.specs.Memory.{AreLeft, LeftSince, MayHold, IsLentOut, read_as}
use Rattle.device_folder.specs.Memory.{folder_state, memory_folder_state}
use Rattle.device_folder.specs.declared.names.Entry.{Entry}
use Rattle.device_folder.specs.declared.memory.Slot.{Slot}
use Rattle.device_folder.specs.declared.memory.Slot.TheVariants.{Kept, Lent, Lost}
use Rattle.device_folder.specs.declared.memory.Parts.{Parts}
use Rattle.device_folder.specs.declared.memory.MemoryFolder.{MemoryFolder}

left_now : (entries : List Entry) (files : List Slot) (past : List (Snapshot Parts)) (since : ℕ)
    (left : Left) → AreLeft entries files left → LeftSince entries files past since left
left_now entries files [] since left is = is
left_now entries files (was ∷ past) since left is = inl is

only_now : (entries : List Entry) (files : List Slot) (past : List (Snapshot Parts)) (since : ℕ)
    (left : Left) → length past ≤ since → LeftSince entries files past since left
    → AreLeft entries files left
only_now entries files [] since left le is = is
only_now entries files (was ∷ past) since left le (inl is) = is
only_now entries files (was ∷ past) since left le (inr earlier) =
    absurd (omega (arith, earlier.0))

-- a name may keep what it stands for
pub entry_stays : (entry : Option Entry) → MayStand entry (file_in entry)
entry_stays None = refl
entry_stays (Some entry) = inl refl

-- and so a file that isn't lent what it reads as
pub slot_stays : (slot : Option Slot) → (IsLentOut slot → ⊥) → MayHold slot (read_as slot)
slot_stays None not = refl
slot_stays (Some (Kept device)) not = (memory_sound device).nothing_lost
slot_stays (Some Lent) not = absurd (not tt)
slot_stays (Some Lost) not = refl

pub lent_anything : (slot : Option Slot) (image : Image) → IsLentOut slot → MayHold slot image
lent_anything None image lent = absurd lent
lent_anything (Some (Kept device)) image lent = absurd lent
lent_anything (Some Lent) image lent = tt
lent_anything (Some Lost) image lent = absurd lent

pub folder_sound : (entries : List Entry) (files : List Slot) (past : List (Snapshot Parts))
    → IsSound (folder_state entries files past)
folder_sound entries files past = record {
  names_stay = λ name. entry_stays (entry_of entries name);
  files_stay = λ file not. slot_stays (slice_get files file) not;
  lent_may_hold = λ file image lent. lent_anything (slice_get files file) image lent;
  counts_now = λ since left le is. left_now entries files (reverse past) since left is;
  only_now = λ left is. only_now entries files (reverse past) (length past) left
      (omega (arith, length-reverse past)) is;
}

pub memory_folder_sound : (folder : MemoryFolder) → IsSound (memory_folder_state folder)
memory_folder_sound folder =
    folder_sound folder.parts.names.entries.items folder.parts.files.items folder.past.items
