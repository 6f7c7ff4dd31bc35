use Rattle.std.proofs.Common.{◌∙◌, subst, List, ℕ}
use Rattle.journal_recovery.specs.Recovery.{RecoversTo}
use Rattle.ledger_file.specs.Originals.{held_by}
use Rattle.device_folder.specs.Crash.{LeavesOnly}
use Rattle.device_folder.specs.Put.{IsBeforeOrAfter}
use Rattle.ledger_folder.specs.Copies.{unfinished}
use Rattle.ledger_folder.proofs.copying.put_copy.Goals as goal

pub returns-in-Ok-clause-any_moment : goal.returns-in-Ok-clause-any_moment
returns-in-Ok-clause-any_moment g c honest =
    let state = g.F.Folder.state in
    let held = held_by c.args.copy.original in
    subst
    (λ (name : List ℕ).
    LeavesOnly (state c.args.folder.now) (state c.put_file.new.folder)
    (IsBeforeOrAfter unfinished name (RecoversTo held) (state c.args.folder.now)))
    (c.as_str-3.ensures.value ∙ c.in_ok-name.ensures) (c.put_file.ensures.any_moment honest)

pub returns-clause-any_moment : goal.returns-clause-any_moment
returns-clause-any_moment g c honest =
    let state = g.F.Folder.state in
    let held = held_by c.args.copy.original in
    subst
    (λ (name : List ℕ).
    LeavesOnly (state c.args.folder.now) (state c.put_file.new.folder)
    (IsBeforeOrAfter unfinished name (RecoversTo held) (state c.args.folder.now)))
    (c.as_str-3.ensures.value ∙ c.in_ok-name.ensures) (c.put_file.ensures.any_moment honest)
