use Rattle.std.proofs.Common.{ℕ, sym, subst, arith}
use Rattle.std.proofs.lemmas.List.{take_at}
use Rattle.device_folder.specs.Loss.{AreLostBy, IsLostBy, picks_of}
use Rattle.device_folder.specs.declared.memory.Slot.{Slot}
use Rattle.device_folder.proofs.Losses.{LostUpTo, one_more, all_lost}
use Rattle.device_folder.proofs.memory.MemoryFolder.lose_files.Goals as goal

pub loop-file-preserved : goal.loop-file-preserved
loop-file-preserved c = record {
  lost = one_more c.args.choices.now c.loop-file.file c.args.self.now.parts.files.items
      c.loop-file.slot-items c.slot-item.result c.lose_by.new.self c.loop-file.invariant.lost
      (omega (arith, c.loop-file-test.true)) (sym c.slot-item.is)
      (subst (λ (slot : Slot).
      IsLostBy (picks_of c.args.choices.now c.loop-file.file) slot c.lose_by.new.self)
      (sym c.slot-item.is) c.lose_by.ensures);
  none = c.loop-file.invariant.none;
}

pub returns-clause-lost : goal.returns-clause-lost
returns-clause-lost c =
    let old = c.args.self.now.parts.files in
    let up = c.loop-file.invariant.lost in
    subst (AreLostBy c.args.choices.now old.items)
    (sym (take_at c.loop-file.slot-items _ old.len (omega (arith, up.size, old.ok.0))))
    (all_lost c.args.choices.now old.items c.loop-file.slot-items
    (subst (λ (count : ℕ). LostUpTo c.args.choices.now count old.items c.loop-file.slot-items)
    (omega (arith, c.loop-file-test.false, up.size)) up))
