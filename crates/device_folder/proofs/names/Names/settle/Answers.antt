use Rattle.std.proofs.Common.{ℕ, sym, subst, arith}
use Rattle.std.proofs.lemmas.List.{take_at}
use Rattle.device_folder.specs.Names.{AreSettledBy, IsSettledBy}
use Rattle.device_folder.specs.declared.names.Entry.{Entry}
use Rattle.device_folder.proofs.Settled.{SettledUpTo, one_more, all_settled}
use Rattle.device_folder.proofs.names.Names.settle.Goals as goal

pub loop-entry-preserved : goal.loop-entry-preserved
loop-entry-preserved c =
    one_more c.args.choices.now c.loop-entry.entry-index c.args.self.now.entries.items
    c.loop-entry.entry-items c.entry-item.result c.settle.new.self c.loop-entry.invariant
    (omega (arith, c.loop-entry-test.true)) (sym c.entry-item.is)
    (subst (λ (entry : Entry). IsSettledBy c.args.choices.now entry c.settle.new.self)
    (sym c.entry-item.is) c.settle.ensures)

pub returns : goal.returns
returns c =
    let old = c.args.self.now.entries in
    let up = c.loop-entry.invariant in
    subst (AreSettledBy c.args.choices.now old.items)
    (sym (take_at c.loop-entry.entry-items _ old.len (omega (arith, up.size, old.ok.0))))
    (all_settled c.args.choices.now old.items c.loop-entry.entry-items
    (subst (λ (count : ℕ). SettledUpTo c.args.choices.now count old.items c.loop-entry.entry-items)
    (omega (arith, c.loop-entry-test.false, up.size)) up))
