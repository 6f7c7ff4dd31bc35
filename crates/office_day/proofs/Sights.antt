-- What a span accepted is in sight of each image that a crash left.
use Rattle.std.proofs.Common.{◌≡◌, ◌+◌, ◌<◌, ◌≤◌, ℕ, length, take, inl, inr, ⊎_elim, refl, subst}
use Rattle.std.proofs.Common.{arith}
use Rattle.std.proofs.lemmas.List.{length-take-le}
use Rattle.sector_device.specs.Image.{Image}
use Rattle.sector_device.specs.Device.{DeviceState}
use Rattle.sector_device.specs.Crash.{LeavesOnly}
use Rattle.journal_recovery.specs.State.{State}
use Rattle.journal_recovery.specs.Places.{Spells}
use Rattle.journal_recovery.specs.Recovery.{RecoversTo, batch_at}
use Rattle.journal_recovery.specs.Sight.{Sight, numbered}
use Rattle.turn_clerk.specs.Clerk.{ClerkState, RecoversToPrefix, LeftPrefixEver, accepted_batches}
use Rattle.turn_clerk.specs.Clerk.{opening_state}
use Rattle.turn_clerk.specs.FarBack.{HasInSight, HasRecord, KeepsSinceOpening, LeftRecordsEver}
use Rattle.turn_clerk.specs.FarBack.{end_of}
use Rattle.office_day.specs.Spans.{SeesFrom, FitsBank}

-- two things of each image that was left
both_left : (old new : DeviceState) (P Q R : Image → Type 0)
    → ((image : Image) → P image → Q image → R image) → LeavesOnly old new P → LeavesOnly old new Q
    → LeavesOnly old new R
both_left old new P Q R implies first second = record {
  later = first.later;
  each = λ image left. implies image (first.each image left) (second.each image left);
  before = λ since image le left. ⊎_elim (λ was. inl was)
      (λ one. ⊎_elim (λ was. inl was) (λ other. inr (implies image one other))
      (second.before since image le left)) (first.before since image le left);
}

pub all_in_sight : {D : Type 0} (state : D → DeviceState) (clerk : ClerkState D)
    → ((image : Image) (found : State) (sight : Sight) → RecoversTo found image
    → HasInSight image sight → end_of sight ≡ found.next)
    → ((image : Image) (sight : Sight) → HasInSight image sight → (number : ℕ) → sight.base ≤ number
    → number < end_of sight → HasRecord image (end_of sight) number (numbered sight number))
    → FitsBank clerk → LeftPrefixEver state clerk → LeftRecordsEver state clerk
    → LeavesOnly (state clerk.opening.journal.device) (state clerk.journal.device)
    (SeesFrom clerk.opening.journal.next (accepted_batches clerk))
all_in_sight state clerk ends has few prefix records =
    let batches = accepted_batches clerk in
    let first = clerk.opening.journal.next in
    both_left (state clerk.opening.journal.device) (state clerk.journal.device)
    (RecoversToPrefix (opening_state clerk) batches 0) (KeepsSinceOpening state clerk)
    (SeesFrom first batches)
    (λ image is keeps.
    let long : length (take is.count batches) ≡ is.count =
    length-take-le is.count batches is.at_most in
    let far : (sight : Sight) → HasInSight image sight
    → end_of sight ≤ first + clerk.opening.journal.slots = λ sight seen.
    let end = ends image _ sight is.recovers seen in
    omega (arith, end, long, few, is.at_most) in
    let from : (sight : Sight) → HasInSight image sight → sight.base ≤ first =
    λ sight seen. keeps.in_sight sight seen first (inl (omega arith)) (far sight seen) in
    record {
      from = from;
      spelled = λ sight seen k low.
          let there = has image sight seen (first + k) (omega (arith, from sight seen)) low in
          let spells = (keeps.as_posted (end_of sight) (first + k) (numbered sight (first + k))
          there (omega (arith, far sight seen))).spells (omega arith) in
          subst (λ (n : ℕ). Spells (numbered sight (first + k)) (batch_at batches n)) (omega arith)
          spells;
    })
    (prefix.holds 0 clerk.opening.journal refl) records
