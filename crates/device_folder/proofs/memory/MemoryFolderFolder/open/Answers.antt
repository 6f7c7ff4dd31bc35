use Rattle.std.proofs.Common.{◌∙◌, ap, sym, set, subst, ◌<◌, arith, length}
use Rattle.std.specs.Prelude.{slice_get, Some}
use Rattle.std.proofs.lemmas.Option.{slice_get-get_or}
use Rattle.sector_device.specs.MemoryDevice.{memory_device_state, with_number}
use Rattle.sector_device.specs.declared.memory.MemoryDevice.{MemoryDevice}
use Rattle.device_folder.specs.Folder.{Keeps, IsNamed, IsLent}
use Rattle.device_folder.specs.Memory.{folder_state, memory_folder_state}
use Rattle.device_folder.specs.declared.memory.Parts.{Parts}
use Rattle.device_folder.proofs.Steps.{touched, same_names, set_other, set_same, is_lent}
use Rattle.device_folder.proofs.Steps.{found_known}
use Rattle.device_folder.proofs.memory.MemoryFolderFolder.open.Goals as goal

pub index_mut-requires : goal.index_mut-requires
index_mut-requires c =
    let old = c.args.self.now in
    subst (λ (parts : Parts). c.in_ok-file.file < parts.files.len) (sym c.note.ensures.parts)
    (found_known old.parts.names.entries.items old.parts.files.len c.args.name.now c.in_ok-file.file
    old.known c.in_ok-file.ensures.0)

pub returns-clause-touches : goal.returns-clause-touches
returns-clause-touches c honest =
    let old = c.args.self.now in
    let mid = c.note.new.self in
    let file = c.in_ok-file.file in
    let slot = c.lend-device.new.self in
    touched Keeps (IsNamed (memory_folder_state old) c.args.name.now) old.parts
    mid.parts.names.entries.items (set mid.parts.files.items file slot) old.past.items
    mid.past.items c.in_ok-note.ensures.noted
    (same_names Keeps old.parts.names.entries.items mid.parts.names.entries.items
    (ap (λ (parts : Parts). parts.names.entries.items) c.note.ensures.parts))
    (λ other not.
    set_other mid.parts.files.items file other slot
    (λ same. not (c.in_ok-file.ensures.0 ∙ ap Some (sym same)))
    ∙ ap (λ (parts : Parts). slice_get parts.files.items other) c.note.ensures.parts)

pub returns-clause-opened : goal.returns-clause-opened
returns-clause-opened c honest =
    let old = c.args.self.now in
    let mid = c.note.new.self in
    let file = c.in_ok-file.file in
    let slot = c.index_mut.result.now in
    let empty = c.in_ok-empty.empty in
    let entries = mid.parts.names.entries.items in
    let files = set mid.parts.files.items file c.lend-device.new.self in
    let within : file < length mid.parts.files.items =
    subst (λ (parts : Parts). file < length parts.files.items) (sym c.note.ensures.parts)
    (omega (
      arith,
      found_known old.parts.names.entries.items old.parts.files.len c.args.name.now file old.known
          c.in_ok-file.ensures.0,
      old.parts.files.ok.0,
    )) in
    subst
    (λ (device : MemoryDevice).
    IsLent c.args.name.now (memory_folder_state old)
    (folder_state entries files mid.past.items) (memory_device_state device))
    (sym (c.new-2.ensures
    ∙ ap (λ (device : MemoryDevice). with_number device file) c.lend-device.ensures.device))
    (is_lent c.args.name.now slot empty file old.parts.names.entries.items
    old.parts.files.items old.past.items mid.past.items entries files
    c.in_ok-file.ensures.0
    (ap (λ (parts : Parts). slice_get parts.files.items file) (sym c.note.ensures.parts)
    ∙ slice_get-get_or mid.parts.files.items file slot within
    ∙ ap Some (sym c.index_mut.ensures.value))
    c.in_ok-file.ensures.1
    (set_same mid.parts.files.items file c.lend-device.new.self within
    ∙ ap Some c.lend-device.ensures.lent)
    c.in_ok-empty.ensures.zero c.in_ok-empty.ensures.durable)
