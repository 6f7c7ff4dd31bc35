use Rattle.std.proofs.Common.{◌≡◌, ◌∙◌, ap, sym, subst, ℕ, List, [], ◌∷◌, ◌++◌}
use Rattle.std.specs.Prelude.{Option, Some, slice_get}
use Rattle.std.specs.declared.snapshot.Snapshot.{Snapshot}
use Rattle.sector_device.specs.MemoryDevice.{memory_device_state}
use Rattle.sector_device.specs.declared.memory.MemoryDevice.{MemoryDevice}
use Rattle.device_folder.specs.Folder.{Name, Keeps, Makes, IsFresh, IsMade}
use Rattle.device_folder.specs.Names.{Changes}
use Rattle.device_folder.specs.Memory.{folder_state, memory_folder_state, IsNoted}
use Rattle.device_folder.specs.declared.names.Names.{Names}
use Rattle.device_folder.specs.declared.memory.Parts.{Parts}
use Rattle.device_folder.specs.declared.memory.Slot.{Slot}
use Rattle.device_folder.specs.declared.memory.Slot.TheVariants.{Lent}
use Rattle.device_folder.proofs.Steps.{touched, changes_joined, changes_more, next_fresh, is_made}
use Rattle.device_folder.proofs.Steps.{added_other, added_same}
use Rattle.device_folder.proofs.memory.MemoryFolderFolder.make.Goals as goal

pub returns-clause-touches : goal.returns-clause-touches
returns-clause-touches c honest =
    let old = c.args.self.now in
    let name = c.args.name.now in
    let file = c.in_ok-file.file in
    let roomed = c.make_room.new.self in
    let added = c.add_file.new.self in
    let same_files : roomed.parts.files ≡ old.parts.files =
    c.make_room.ensures.files ∙ ap (λ (parts : Parts). parts.files) c.note.ensures.parts in
    let number : file ≡ old.parts.files.len =
    c.in_ok-file.ensures.number ∙ ap (λ (files : _). files.len) same_files in
    let fresh : IsFresh (memory_folder_state old) file =
    subst (IsFresh (memory_folder_state old)) (sym number)
    (next_fresh old.parts.names.entries.items old.parts.files.items old.past.items
    old.parts.files.len old.known old.parts.files.ok.0) in
    let all : added.parts.files.items ≡ old.parts.files.items ++ Lent ∷ [] =
    c.in_ok-file.ensures.added ∙ ap (λ (files : _). files.items ++ Lent ∷ []) same_files in
    let M : Name → Option ℕ → Type 0 = Makes name (memory_folder_state old) in
    let P : Name → Option ℕ → Type 0 = λ n to. (n ≡ name) × (to ≡ Some file) in
    touched M (IsFresh (memory_folder_state old)) old.parts c.set.new.self.entries.items
    added.parts.files.items old.past.items added.past.items
    (subst (λ (past : List (Snapshot Parts)). IsNoted old.parts old.past.items past)
    (sym (c.add_file.ensures.past ∙ c.make_room.ensures.past)) c.in_ok-note.ensures.noted)
    (changes_joined M old.parts.names.entries.items roomed.parts.names.entries.items
    c.set.new.self.entries.items
    (changes_more Keeps M old.parts.names.entries.items roomed.parts.names.entries.items
    (λ n to none. absurd none)
    (subst (λ (parts : Parts).
    Changes Keeps parts.names.entries.items roomed.parts.names.entries.items)
    c.note.ensures.parts c.make_room.ensures.names))
    (changes_more P M roomed.parts.names.entries.items c.set.new.self.entries.items
    (λ n to is. record { same = is.0; file = file; is = is.1; fresh = fresh })
    (subst (λ (names : Names). Changes P names.entries.items c.set.new.self.entries.items)
    c.add_file.ensures.names c.set.ensures.changes)))
    (λ other not.
    ap (λ (files : List Slot). slice_get files other) all
    ∙ added_other old.parts.files.items other Lent
    (λ same. not (subst (IsFresh (memory_folder_state old))
    (sym (same ∙ sym old.parts.files.ok.0 ∙ sym number)) fresh)))

pub returns-clause-made : goal.returns-clause-made
returns-clause-made c honest =
    let old = c.args.self.now in
    let name = c.args.name.now in
    let file = c.in_ok-file.file in
    let roomed = c.make_room.new.self in
    let added = c.add_file.new.self in
    let same_files : roomed.parts.files ≡ old.parts.files =
    c.make_room.ensures.files ∙ ap (λ (parts : Parts). parts.files) c.note.ensures.parts in
    let number : file ≡ old.parts.files.len =
    c.in_ok-file.ensures.number ∙ ap (λ (files : _). files.len) same_files in
    let fresh : IsFresh (memory_folder_state old) file =
    subst (IsFresh (memory_folder_state old)) (sym number)
    (next_fresh old.parts.names.entries.items old.parts.files.items old.past.items
    old.parts.files.len old.known old.parts.files.ok.0) in
    let all : added.parts.files.items ≡ old.parts.files.items ++ Lent ∷ [] =
    c.in_ok-file.ensures.added ∙ ap (λ (files : _). files.items ++ Lent ∷ []) same_files in
    subst
    (λ (device : MemoryDevice).
    IsMade name c.args.sectors (memory_folder_state old)
    (folder_state c.set.new.self.entries.items added.parts.files.items added.past.items)
    (memory_device_state device))
    (sym c.new-2.ensures)
    (is_made name c.args.sectors (memory_folder_state old) c.in_ok-device.device file
    c.set.new.self.entries.items added.parts.files.items added.past.items fresh
    c.set.ensures.is
    (ap (λ (files : List Slot). slice_get files file) all
    ∙ ap (λ (n : ℕ). slice_get (old.parts.files.items ++ Lent ∷ []) n)
    (number ∙ old.parts.files.ok.0)
    ∙ added_same old.parts.files.items Lent)
    c.in_ok-device.ensures.zero)
