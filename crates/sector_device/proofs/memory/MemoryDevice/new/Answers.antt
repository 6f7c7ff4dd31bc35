use Rattle.std.proofs.Common.{sym, subst, reverse}
use Rattle.sector_device.specs.Image.{IsImage}
use Rattle.sector_device.specs.Memory.{IsPending}
use Rattle.sector_device.proofs.Loss.{settled_durable}
use Rattle.sector_device.proofs.Zero.{zero_image, same_sector}
use Rattle.sector_device.proofs.memory.MemoryDevice.new.Goals as goal

pub returns-clause-zero : goal.returns-clause-zero
returns-clause-zero c =
    c.in_ok-vec.ensures.items_if_clones_equal
    (λ y clone. same_sector y clone.long (λ k lt. clone.at k 0 0 lt))

pub invariant_of-result : goal.invariant_of-result
invariant_of-result c = record {
  whole = subst IsImage
      (sym (c.in_ok-vec.ensures.items_if_clones_equal
      (λ y clone. same_sector y clone.long (λ k lt. clone.at k 0 0 lt))))
      (zero_image c.args.sectors);
}

pub returns-clause-durable : goal.returns-clause-durable
returns-clause-durable c =
    settled_durable _ _
    (λ at pending. subst (λ (calls : _). IsPending (reverse calls) at) c.new.ensures.items pending)
