-- What each call of a folder in memory does to what a crash may leave.
use Rattle.std.proofs.Common.{◌≡◌, ◌≢◌, inl, inr, ⊎_elim, ℕ, zero, suc, ◌+◌, ◌<◌, ◌≤◌}
use Rattle.std.proofs.Common.{List, [], ◌∷◌, ◌++◌, length, reverse, set, refl}
use Rattle.std.proofs.Common.{sym}
use Rattle.std.proofs.Common.{◌∙◌, ap, subst, arith}
use Rattle.std.specs.Prelude.{Option, None, Some, slice_get, replicate}
use Rattle.std.proofs.lemmas.List.{length-reverse, reverse-append}
use Rattle.std.specs.declared.snapshot.Snapshot.{Snapshot}
use Rattle.sector_device.specs.Image.{Image}
use Rattle.sector_device.specs.Crash.{IsDurable}
use Rattle.sector_device.specs.MemoryDevice.{memory_device_state, with_number}
use Rattle.sector_device.specs.declared.memory.MemoryDevice.{MemoryDevice}
use Rattle.device_folder.specs.Folder.{Name, Left, FolderState, Elapses, Touches, IsFresh, IsMade}
use Rattle.device_folder.specs.Folder.{IsLent, IsKept}
use Rattle.device_folder.specs.Names.{entry_of, named, MayName, Changes, AreKnown}
use Rattle.device_folder.specs.MemoryLaws.{entry_stays}
use Rattle.device_folder.specs.Memory.{LeftSince, MayHold, IsLentOut, read_as, folder_state}
use Rattle.device_folder.specs.Memory.{IsNoted}
use Rattle.device_folder.specs.Memory.{device_in}
use Rattle.device_folder.specs.declared.names.Entry.{Entry}
use Rattle.device_folder.specs.declared.memory.Slot.{Slot}
use Rattle.device_folder.specs.declared.memory.Slot.TheVariants.{Kept, Lent, Lost}
use Rattle.device_folder.specs.declared.memory.Parts.{Parts}

-- one snapshot more
pub one_past : (old new : List (Snapshot Parts)) (was : Snapshot Parts) → new ≡ old ++ was ∷ []
    → reverse new ≡ was ∷ reverse old
one_past old new was is = ap reverse is ∙ reverse-append old (was ∷ [])

-- what the folder was stands in its past, and nothing else has come there
pub noted_elapses : (parts : Parts) (entries : List Entry) (files : List Slot)
    (old new : List (Snapshot Parts)) → IsNoted parts old new
    → Elapses (folder_state parts.names.entries.items parts.files.items old)
    (folder_state entries files new)
noted_elapses parts entries files old new noted =
    let past : List (Snapshot Parts) = reverse old in
    let length_old : length past ≡ length old = length-reverse old in
    let length_new : length past + 1 ≡ length new =
    sym (ap length noted.past ∙ omega arith) ∙ length-reverse new in
    let forth : (since : ℕ) (left : Left) → LeftSince entries files (reverse new) since left
    → LeftSince entries files (noted.was ∷ past) since left = λ since left is.
    subst (λ (list : List (Snapshot Parts)). LeftSince entries files list since left) noted.past
    is in
    record {
      later = omega (arith, length_old, length_new);
      nothing_else = λ since left le is. ⊎_elim
          (λ now. inr now)
          (λ earlier. inl (subst
          (λ (p : Parts). LeftSince p.names.entries.items p.files.items past since left) noted.is
          earlier.1))
          (forth since left is);
      nothing_forgotten = λ since left le is.
          subst (λ (list : List (Snapshot Parts)). LeftSince entries files list since left)
          (sym noted.past)
          (inr (
            omega (arith, le, length_old),
            subst (λ (p : Parts). LeftSince p.names.entries.items p.files.items past since left)
                (sym noted.is) is,
          ));
    }

-- the files that F holds of change, and no others
abbrev pub FilesTouch : (ℕ → Type 0) → List Slot → List Slot → Type 0
FilesTouch F old new = (file : ℕ) → (F file → ⊥) → slice_get new file ≡ slice_get old file

pub touched : (P : Name → Option ℕ → Type 0) (F : ℕ → Type 0) (parts : Parts)
    (entries : List Entry) (files : List Slot) (old new : List (Snapshot Parts))
    → IsNoted parts old new → Changes P parts.names.entries.items entries
    → FilesTouch F parts.files.items files
    → Touches P F (folder_state parts.names.entries.items parts.files.items old)
    (folder_state entries files new)
touched P F parts entries files old new noted names same = record {
  time = noted_elapses parts entries files old new noted;
  names = names.names;
  may_name = names.may_name;
  reads = λ file not. ap read_as (same file not);
  may_hold = λ file image not may.
      subst (λ (slot : Option Slot). MayHold slot image) (same file not) may;
  lent = λ file not. (subst IsLentOut (same file not), subst IsLentOut (sym (same file not)));
}

-- no name changes
pub same_names : (P : Name → Option ℕ → Type 0) (old new : List Entry) → new ≡ old
    → Changes P old new
same_names P old new same = record {
  names = λ name. inl (ap (λ (entries : List Entry). named entries name) same);
  may_name = λ name to may.
      inl (subst (λ (entries : List Entry). MayName entries name to) same may);
}

-- changes one after the other
pub changes_joined : (P : Name → Option ℕ → Type 0) (old mid new : List Entry) → Changes P old mid
    → Changes P mid new → Changes P old new
changes_joined P old mid new first second = record {
  names = λ name. ⊎_elim
      (λ same. ⊎_elim (λ was. inl (same ∙ was))
      (λ says. inr (subst (λ (to : Option ℕ). P name to) (sym same) says)) (first.names name))
      (λ says. inr says) (second.names name);
  may_name = λ name to may. ⊎_elim (first.may_name name to) (λ says. inr says)
      (second.may_name name to may);
}

-- more names
pub changes_more : (P Q : Name → Option ℕ → Type 0) (old new : List Entry)
    → ((name : Name) (to : Option ℕ) → P name to → Q name to) → Changes P old new
    → Changes Q old new
changes_more P Q old new more changes = record {
  names = λ name. ⊎_elim (λ same. inl same)
      (λ says. inr (more name (named new name) says)) (changes.names name);
  may_name = λ name to may. ⊎_elim (λ was. inl was) (λ says. inr (more name to says))
      (changes.may_name name to may);
}

-- every file that a name comes to stand for is there
pub still_known : (P : Name → Option ℕ → Type 0) (old new : List Entry) (count more : ℕ)
    → AreKnown old count → count ≤ more → Changes P old new
    → ((name : Name) (file : ℕ) → P name (Some file) → file < more) → AreKnown new more
still_known P old new count more known le changes says name file may = ⊎_elim
    (λ was. let lt : file < count = known name file was in omega (arith, lt, le))
    (λ is. says name file is) (changes.may_name name (Some file) may)

-- a file of other files
pub set_other : (files : List Slot) (at file : ℕ) (slot : Slot) → file ≢ at
    → slice_get (set files at slot) file ≡ slice_get files file
set_other [] at file slot differs = refl
set_other (x ∷ xs) zero zero slot differs = absurd (differs refl)
set_other (x ∷ xs) zero (suc file) slot differs = refl
set_other (x ∷ xs) (suc at) zero slot differs = refl
set_other (x ∷ xs) (suc at) (suc file) slot differs =
    set_other xs at file slot (λ same. differs (ap suc same))

pub set_same : (files : List Slot) (at : ℕ) (slot : Slot) → at < length files
    → slice_get (set files at slot) at ≡ Some slot
set_same [] at slot lt = absurd (omega (arith, lt))
set_same (x ∷ xs) zero slot lt = refl
set_same (x ∷ xs) (suc at) slot lt = set_same xs at slot (omega (arith, lt))

pub added_other : (files : List Slot) (file : ℕ) (slot : Slot) → file ≢ length files
    → slice_get (files ++ slot ∷ []) file ≡ slice_get files file
added_other [] zero slot differs = absurd (differs refl)
added_other [] (suc file) slot differs = refl
added_other (x ∷ xs) zero slot differs = refl
added_other (x ∷ xs) (suc file) slot differs =
    added_other xs file slot (λ same. differs (ap suc same))

pub added_same : (files : List Slot) (slot : Slot)
    → slice_get (files ++ slot ∷ []) (length files) ≡ Some slot
added_same [] slot = refl
added_same (x ∷ xs) slot = added_same xs slot

-- a file that is lent is there
pub lent_within : (files : List Slot) (file : ℕ) → IsLentOut (slice_get files file)
    → file < length files
lent_within [] file lent = absurd lent
lent_within (x ∷ xs) zero lent = omega arith
lent_within (x ∷ xs) (suc file) lent =
    let lt : file < length xs = lent_within xs file lent in omega (arith, lt)

-- the file was given back
pub is_kept : (device : MemoryDevice) (entries : List Entry) (files : List Slot)
    (past : List (Snapshot Parts))
    → slice_get files (memory_device_state device).number ≡ Some (Kept device)
    → IsKept (memory_device_state device) (folder_state entries files past)
is_kept device entries files past is = record {
  not_lent = λ lent. subst IsLentOut is lent;
  reads = ap read_as is;
  may_hold = λ image may. subst (λ (slot : Option Slot). MayHold slot image) is may;
}

pub kept_at : (files : List Slot) (at : ℕ) (device : MemoryDevice)
    → (memory_device_state device).number ≡ at → at < length files
    → slice_get (set files at (Kept device)) (memory_device_state device).number
    ≡ Some (Kept device)
kept_at files at device own lt =
    subst (λ (file : ℕ). slice_get (set files at (Kept device)) file ≡ Some (Kept device)) (sym own)
    (set_same files at (Kept device) lt)

-- the next number is a new file's
pub next_fresh : (entries : List Entry) (files : List Slot) (past : List (Snapshot Parts))
    (count : ℕ) → AreKnown entries count → count ≡ length files
    → IsFresh (folder_state entries files past) count
next_fresh entries files past count known is = record {
  nameless = λ name may. let lt : count < count = known name count may in omega (arith, lt);
  not_lent = λ lent. let lt : count < length files = lent_within files count lent in
      omega (arith, lt, is);
}

-- a file was made
pub is_made : (name : Name) (sectors : ℕ) (old : FolderState) (device : MemoryDevice) (file : ℕ)
    (entries : List Entry) (files : List Slot) (past : List (Snapshot Parts))
    → IsFresh old file → named entries name ≡ Some file → slice_get files file ≡ Some Lent
    → (memory_device_state device).reads ≡ replicate sectors (replicate 512 0)
    → IsMade name sectors old (folder_state entries files past)
    (memory_device_state (with_number device file))
is_made name sectors old device file entries files past fresh is lent zeros = record {
  fresh = fresh;
  named = is;
  lent = subst IsLentOut (sym lent) tt;
  honest = tt;
  zero = zeros;
}

-- what the device of a file that isn't lent reads as, and what a crash leaves of it
lent_reads : (slot : Slot) (empty : MemoryDevice) → (IsLentOut (Some slot) → ⊥)
    → (memory_device_state empty).reads ≡ []
    → (memory_device_state (device_in slot empty)).reads ≡ read_as (Some slot)
lent_reads (Kept device) empty not none = refl
lent_reads Lent empty not none = absurd (not tt)
lent_reads Lost empty not none = none

lent_may_hold : (slot : Slot) (empty : MemoryDevice) (image : Image)
    → (IsLentOut (Some slot) → ⊥) → (memory_device_state empty).reads ≡ []
    → IsDurable (memory_device_state empty)
    → (memory_device_state (device_in slot empty)).may_leave image → MayHold (Some slot) image
lent_may_hold (Kept device) empty image not none durable may = may
lent_may_hold Lent empty image not none durable may = absurd (not tt)
lent_may_hold Lost empty image not none durable may = durable image may ∙ none

-- a file was lent
pub is_lent : (name : Name) (slot : Slot) (empty : MemoryDevice) (file : ℕ) (old : List Entry)
    (old_files : List Slot) (past now : List (Snapshot Parts))
    (entries : List Entry) (files : List Slot)
    → named old name ≡ Some file → slice_get old_files file ≡ Some slot
    → (IsLentOut (slice_get old_files file) → ⊥) → slice_get files file ≡ Some Lent
    → (memory_device_state empty).reads ≡ [] → IsDurable (memory_device_state empty)
    → IsLent name (folder_state old old_files past) (folder_state entries files now)
    (memory_device_state (with_number (device_in slot empty) file))
is_lent name slot empty file old old_files past now entries files is was not lent none durable =
    let free : IsLentOut (Some slot) → ⊥ = subst (λ (s : Option Slot). IsLentOut s → ⊥) was not in
    record {
      named = is;
      lent = subst IsLentOut (sym lent) tt;
      honest = tt;
      reads = lent_reads slot empty free none ∙ ap read_as (sym was);
      may_hold = λ image may. subst (λ (s : Option Slot). MayHold s image) (sym was)
          (lent_may_hold slot empty image free none durable may);
    }

-- a file that a name stands for is there
pub found_known : (entries : List Entry) (count : ℕ) (name : Name) (file : ℕ)
    → AreKnown entries count → named entries name ≡ Some file → file < count
found_known entries count name file known is = known name file
    (subst (λ (to : Option ℕ). MayName entries name to) is (entry_stays (entry_of entries name)))

pub some_same : (a b : ℕ) → ◌≡◌ {A = Option ℕ} (Some a) (Some b) → a ≡ b
some_same a b same = ap value same
  where
    value : Option ℕ → ℕ
    value None = 0
    value (Some x) = x

pub none_some : (a : ℕ) → ◌≡◌ {A = Option ℕ} (Some a) None → ⊥
none_some a same = subst IsThere same tt
  where
    IsThere : Option ℕ → Type 0
    IsThere None = ⊥
    IsThere (Some x) = Unit {0}
