use Rattle.std.proofs.Common.{◌≡◌, ◌∙◌, ap, sym, refl, inr, ℕ, subst}
use Rattle.std.specs.Prelude.{Option}
use Rattle.device_folder.specs.Folder.{Name}
use Rattle.device_folder.specs.Names.{file_in, has_name, RemembersIts}
use Rattle.device_folder.proofs.Entries.{entry_is, entry_changes, other_ready, set_leaves}
use Rattle.device_folder.proofs.Entries.{none_found, not_some}
use Rattle.device_folder.proofs.names.Names.set.Goals as goal

pub returns-in-Some-clause-is : goal.returns-in-Some-clause-is
returns-in-Some-clause-is c =
    let entry = c.index_mut.result.now in
    ap file_in (entry_is c.args.self.now.entries.items c.args.name.now c.in-Some.place entry
    (record entry { file = c.args.file }) (sym c.in-Some.ensures) (sym c.index_mut.ensures.value)
    refl)

pub returns-in-Some-clause-changes : goal.returns-in-Some-clause-changes
returns-in-Some-clause-changes c =
    let entry = c.index_mut.result.now in
    let P : Name → Option ℕ → Type 0 = λ n to. (n ≡ c.args.name.now) × (to ≡ c.args.file) in
    entry_changes c.args.self.now.entries.items c.args.name.now c.in-Some.place entry
    (record entry { file = c.args.file }) (sym c.in-Some.ensures) (sym c.index_mut.ensures.value)
    refl P (inr (refl, refl))
    (set_leaves P c.args.name.now entry (record entry { file = c.args.file }) (refl, refl) refl)

pub returns-in-Some-clause-others : goal.returns-in-Some-clause-others
returns-in-Some-clause-others c other differs ready =
    let entry = c.index_mut.result.now in
    other_ready c.args.self.now.entries.items c.args.name.now c.in-Some.place entry
    (record entry { file = c.args.file }) (sym c.in-Some.ensures) (sym c.index_mut.ensures.value)
    refl other differs ready

pub returns-in_default-clause-is : goal.returns-in_default-clause-is
returns-in_default-clause-is c =
    absurd (subst RemembersIts
    (none_found (has_name c.args.name.now) c.args.self.now.entries.items
    (sym c.place.ensures ∙ not_some c.place.result c.in_default.not-Some)) c.requires)
