use Rattle.std.proofs.Common.{◌≡◌, ◌∙◌, ap, sym, set, subst}
use Rattle.std.specs.Prelude.{slice_get}
use Rattle.device_folder.specs.Folder.{Keeps}
use Rattle.device_folder.specs.Memory.{IsLentOut}
use Rattle.device_folder.specs.declared.memory.Parts.{Parts}
use Rattle.device_folder.specs.declared.memory.Slot.TheVariants.{Kept}
use Rattle.device_folder.proofs.Steps.{touched, same_names, set_other, is_kept, kept_at}
use Rattle.device_folder.proofs.Steps.{lent_within}
use Rattle.device_folder.proofs.memory.MemoryFolderFolder.keep.Goals as goal

pub returns-clause-touches : goal.returns-clause-touches
returns-clause-touches c honest =
    let old = c.args.self.now in
    let mid = c.note.new.self in
    let device = c.args.file.device in
    let number = c.args.file.number in
    touched Keeps (λ file. file ≡ device.number) old.parts mid.parts.names.entries.items
    (set mid.parts.files.items number (Kept device)) old.past.items mid.past.items
    c.in_ok-note.ensures.noted
    (same_names Keeps old.parts.names.entries.items mid.parts.names.entries.items
    (ap (λ (parts : Parts). parts.names.entries.items) c.note.ensures.parts))
    (λ file not.
    set_other mid.parts.files.items number file (Kept device)
    (λ same. not (same ∙ sym c.args.file.own))
    ∙ ap (λ (parts : Parts). slice_get parts.files.items file) c.note.ensures.parts)

pub returns-clause-kept : goal.returns-clause-kept
returns-clause-kept c honest file_honest =
    let mid = c.note.new.self in
    let device = c.args.file.device in
    let number = c.args.file.number in
    is_kept device mid.parts.names.entries.items
    (set mid.parts.files.items number (Kept device)) mid.past.items
    (kept_at mid.parts.files.items number device c.args.file.own
    (lent_within mid.parts.files.items number
    (subst (λ (parts : Parts). IsLentOut (slice_get parts.files.items number))
    (sym c.note.ensures.parts) (c.is_lent.ensures.0 c.if-not-is_lent.false))))
