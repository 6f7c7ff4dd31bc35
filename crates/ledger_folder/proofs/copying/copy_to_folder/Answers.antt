use Rattle.std.proofs.Common.{sym, subst, ℕ}
use Rattle.std.proofs.lemmas.Result.{IfErr-weaker}
use Rattle.sector_device.specs.Image.{Image}
use Rattle.journal_recovery.specs.Recovery.{RecoversTo}
use Rattle.ledger_file.specs.Originals.{held_by}
use Rattle.ledger_file.specs.declared.copying.Original.{Original}
use Rattle.ledger_folder.proofs.Copies.{of_ledger}
use Rattle.ledger_folder.proofs.copying.copy_to_folder.Goals as goal

pub returns-clause-occupied : goal.returns-clause-occupied
returns-clause-occupied g c honest folder_honest =
    let image : Image = (g.D.Device.state c.args.device).reads in
    let found = c.in-Ok.found in
    let recovers : RecoversTo (held_by c.new-copy.result.original) image =
    subst (λ (original : Original). RecoversTo (held_by original) image) (sym c.new-copy.ensures)
    (subst (λ (next : ℕ). RecoversTo (record { ledger = found.ledger; next = next }) image)
    (sym c.next-next.ensures.value) (c.in-Ok.ensures.recovers honest)) in
    IfErr-weaker c.put_copy-copied.result _ _
    (λ fault says occupied. record {
      held = held_by c.new-copy.result.original;
      recovers = recovers;
      taken = says occupied;
    })
    (c.put_copy-copied.ensures.occupied folder_honest)

pub returns-clause-any_moment : goal.returns-clause-any_moment
returns-clause-any_moment g c honest folder_honest =
    let image : Image = (g.D.Device.state c.args.device).reads in
    let found = c.in-Ok.found in
    let recovers : RecoversTo (held_by c.new-copy.result.original) image =
    subst (λ (original : Original). RecoversTo (held_by original) image) (sym c.new-copy.ensures)
    (subst (λ (next : ℕ). RecoversTo (record { ledger = found.ledger; next = next }) image)
    (sym c.next-next.ensures.value) (c.in-Ok.ensures.recovers honest)) in
    of_ledger (held_by c.new-copy.result.original) image (g.F.Folder.state c.args.folder.now)
    (g.F.Folder.state c.put_copy-copied.new.folder) recovers
    (c.put_copy-copied.ensures.any_moment folder_honest)
