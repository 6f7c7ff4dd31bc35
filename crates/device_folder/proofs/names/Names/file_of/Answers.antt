use Rattle.std.proofs.Common.{ap, sym, refl}
use Rattle.device_folder.specs.Names.{file_in, has_name}
use Rattle.device_folder.proofs.Entries.{entry_was, none_found}
use Rattle.device_folder.proofs.names.Names.file_of.Goals as goal

pub returns-in-Some : goal.returns-in-Some
returns-in-Some c =
    let entry = c.index.result.now in
    sym (ap file_in (entry_was c.args.self.now.entries.items c.args.name.now c.in-Some.place entry
    entry (sym c.in-Some.ensures) (sym c.index.ensures) refl))

pub returns-in-None : goal.returns-in-None
returns-in-None c =
    sym (ap file_in (none_found (has_name c.args.name.now) c.args.self.now.entries.items
    (sym c.in-None.ensures)))
