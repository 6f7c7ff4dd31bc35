-- What denies that there is a ledger isn't told for want of memory, nor for a device that fails.
use Rattle.std.proofs.Common.{◌≡◌, ◌≢◌, true}
use Rattle.journal_recovery.specs.declared.refusals.OpenRefusal.{OpenRefusal}
use Rattle.journal_recovery.specs.declared.refusals.OpenRefusal.TheVariants as refusal
use Rattle.ledger_inspection.specs.Faults.{denies_ledger}

pub not_of_memory : (r : OpenRefusal) → denies_ledger r ≡ true → r ≢ refusal.Memory
not_of_memory refusal.Memory denied is = absurd (cc)
not_of_memory refusal.Unformatted denied is = absurd (cc)
not_of_memory (refusal.Version version) denied is = absurd (cc)
not_of_memory refusal.Size denied is = absurd (cc)
not_of_memory (refusal.Damaged slot cause) denied is = absurd (cc)
not_of_memory refusal.Device denied is = absurd (cc)

pub not_of_device : (r : OpenRefusal) → denies_ledger r ≡ true → r ≢ refusal.Device
not_of_device refusal.Memory denied is = absurd (cc)
not_of_device refusal.Unformatted denied is = absurd (cc)
not_of_device (refusal.Version version) denied is = absurd (cc)
not_of_device refusal.Size denied is = absurd (cc)
not_of_device (refusal.Damaged slot cause) denied is = absurd (cc)
not_of_device refusal.Device denied is = absurd (cc)
