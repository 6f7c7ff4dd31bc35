-- The entries stand at the first places, and the filler at the others.
use Rattle.std.proofs.Common.{◌≡◌, ◌++◌, [], List, length, take, drop, replicate, sym, ◌∙◌, ap}
use Rattle.std.proofs.Common.{subst}
use Rattle.turn_ledger.specs.declared.batch.TheConstants.{UNUSED}
use Rattle.turn_ledger.specs.declared.limits.TheConstants.{BATCH_LIMIT}
use Rattle.turn_ledger.specs.declared.entry.Entry.{Entry}
use Rattle.turn_ledger.specs.InPlace.{IsFilled, filled, filled-take, IsFilled-over}
use Rattle.turn_ledger.proofs.batch.Batch.fill.Goals as goal

pub invariant_of-self : goal.invariant_of-self
invariant_of-self c =
    let inside = c.self.inside in
    let entries = c.args.entries.now in
    let none : take inside.count inside.entries ≡ [] = c.self.view_is ∙ c.requires.none in
    let unused : inside.entries ≡ replicate BATCH_LIMIT UNUSED =
    sym (filled-take UNUSED inside.entries inside.count c.self.invariant).0
    ∙ ap (filled UNUSED) none in
    rw c.copy_from_slice.ensures.after
    (subst (λ (places : List Entry).
    IsFilled UNUSED (entries ++ drop (length entries) places) (length entries)) (sym unused)
    (IsFilled-over UNUSED entries c.requires.few))
