use Rattle.std.proofs.Common.{◌≡◌, ◌∙◌, ap, sym, subst, ℕ, ◌<◌, arith}
use Rattle.std.specs.Prelude.{Option, None, Some}
use Rattle.device_folder.specs.Folder.{Name}
use Rattle.device_folder.specs.declared.memory.Parts.{Parts}
use Rattle.device_folder.proofs.Steps.{still_known, found_known, some_same, none_some}
use Rattle.device_folder.proofs.memory.MemoryFolderFolder.rename.Goals as goal

pub invariant_of-self : goal.invariant_of-self
invariant_of-self c =
    let old = c.args.self.now in
    let mid = c.make_room-2.new.self in
    let file = c.in_ok-file.file in
    let count = mid.parts.files.len in
    let within : file < old.parts.files.len =
    found_known old.parts.names.entries.items old.parts.files.len c.args.from.now file old.known
    c.in_ok-file.ensures.0 in
    let same : mid.parts.files ≡ old.parts.files =
    c.make_room-2.ensures.files ∙ c.make_room.ensures.files
    ∙ ap (λ (parts : Parts). parts.files) c.note.ensures.parts in
    let there : file < count = subst (λ (files : _). file < files.len) (sym same) within in
    let P : Name → Option ℕ → Type 0 = λ n to. (n ≡ c.args.to.now) × (to ≡ Some file) in
    let Q : Name → Option ℕ → Type 0 = λ n to. (n ≡ c.args.from.now) × (to ≡ None) in
    record {
      known = still_known Q c.set.new.self.entries.items c.set-2.new.self.entries.items count count
          (still_known P mid.parts.names.entries.items c.set.new.self.entries.items count count
          mid.known (omega arith) c.set.ensures.changes
          (λ name other is. subst (λ (f : ℕ). f < count) (sym (some_same other file is.1)) there))
          (omega arith) c.set-2.ensures.changes
          (λ name other is. absurd (none_some other is.1));
    }
