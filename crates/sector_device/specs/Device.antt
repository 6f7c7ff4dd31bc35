-- What is to be known of a device at one moment, and what one call changes.
use Rattle.std.specs.Prelude.{◌≡◌, ◌⊎◌, ◌<◌, ◌≤◌, ◌^◌, ◌-◌, ℕ, length, Result, Ok, Err}
use Rattle.std.proofs.Common.{refl, ◌∙◌, inl, inr, ⊎_elim, arith}
use Rattle.sector_device.specs.Image.{Image, IsImage}

-- A device at one moment. Time is counted in moments: each call may pass some.
pub record DeviceState : Type 1 where
  -- the sectors that reads give
  pub reads : Image
  -- the images that a crash now may leave
  pub may_leave : Image → Type 0
  -- the present moment, a number that never falls
  pub moment : ℕ
  -- the images that a crash at some moment from that one up to now might have left
  pub left_since : ℕ → Image → Type 0
  -- the device loses only as these facts say, and nobody else writes it
  pub honest : Type 0
  -- how many calls have failed; at 2^64 - 1 the count stands
  pub faults : ℕ
  -- a number that no call changes, for whoever lends a device and takes it back
  pub number : ℕ

-- What holds of an honest device at each moment.
pub record IsSound (state : DeviceState) : Type 0 where
  -- losing nothing is one of the outcomes
  pub nothing_lost : state.may_leave state.reads
  -- a crash leaves as many sectors, each of 512 bytes
  pub images : (image : Image) → state.may_leave image
      → IsImage image × (length image ≡ length state.reads)
  -- this moment is one of those since any earlier one
  pub counts_now : (since : ℕ) (image : Image) → since ≤ state.moment → state.may_leave image
      → state.left_since since image
  -- since this moment there is no other
  pub only_now : (image : Image) → state.left_since state.moment image → state.may_leave image

-- The count of failures tells of a fault, both ways: where fault holds the count rose, or stands at
-- its greatest value; where it doesn't, the count is as it was.
pub record HasCause (before after : ℕ) (fault : Type 0) : Type 0 where
  pub rose : fault → (before < after) ⊎ (2 ^ 64 - 1 ≤ after)
  pub stayed : (fault → ⊥) → after ≡ before

-- What any call, and any run of calls, keeps on every device, honest or not.
pub record AreCalls (old new : DeviceState) (fault : Type 0) : Type 0 where
  pub sectors : length new.reads ≡ length old.reads
  pub stays_honest : old.honest → new.honest
  pub was_honest : new.honest → old.honest
  pub faults : old.faults ≤ new.faults
  pub cause : HasCause old.faults new.faults fault
  pub number : new.number ≡ old.number

-- no call at all
pub not_called : (state : DeviceState) (fault : Type 0) → (fault → ⊥) → AreCalls state state fault
not_called state fault none = record {
  sectors = refl;
  stays_honest = λ honest. honest;
  was_honest = λ honest. honest;
  faults = omega arith;
  cause = record { rose = λ fault. absurd (none fault); stayed = λ _. refl };
  number = refl;
}

later_cause : (before mid after : ℕ) → mid ≤ after → (before < mid) ⊎ (2 ^ 64 - 1 ≤ mid)
    → (before < after) ⊎ (2 ^ 64 - 1 ≤ after)
later_cause before mid after le (inl rose) = inl (omega arith)
later_cause before mid after le (inr last) = inr (omega arith)

earlier_cause : (before mid after : ℕ) → before ≤ mid → (mid < after) ⊎ (2 ^ 64 - 1 ≤ after)
    → (before < after) ⊎ (2 ^ 64 - 1 ≤ after)
earlier_cause before mid after le (inl rose) = inl (omega arith)
earlier_cause before mid after le (inr last) = inr last

-- Two runs of calls, one after the other: either of them tells of a fault.
pub calls_joined : (old mid new : DeviceState) (first second either : Type 0)
    → (either → first ⊎ second) → (first ⊎ second → either)
    → AreCalls old mid first → AreCalls mid new second → AreCalls old new either
calls_joined old mid new first second either which told before after = record {
  sectors = after.sectors ∙ before.sectors;
  stays_honest = λ honest. after.stays_honest (before.stays_honest honest);
  was_honest = λ honest. before.was_honest (after.was_honest honest);
  faults = omega (arith, before.faults, after.faults);
  cause = record {
    rose = λ fault. ⊎_elim
        (λ one. later_cause old.faults mid.faults new.faults after.faults (before.cause.rose one))
        (λ two. earlier_cause old.faults mid.faults new.faults before.faults (after.cause.rose two))
        (which fault);
    stayed = λ none. after.cause.stayed (λ two. none (told (inr two)))
        ∙ before.cause.stayed (λ one. none (told (inl one)));
  };
  number = after.number ∙ before.number;
}

-- the device that an opening hands on, in what it opened or beside the refusal
abbrev pub handed_on : {A D E : Type 0} → (A → D) → Result A (D × E) → D
handed_on device (Ok opened) = device opened
handed_on device (Err refused) = refused.0
