-- An office that was opened, by reading a device or over a clerk which begins anew.
use Rattle.std.proofs.Common.{◌≡◌, ◌∙◌, ap, arith, inl, inr, subst, sym, ⊎_elim}
use Rattle.std.specs.Prelude.{length}
use Rattle.sector_device.specs.Image.{Image}
use Rattle.sector_device.specs.Device.{DeviceState, IsSound, AreCalls}
use Rattle.sector_device.specs.Crash.{IsDurable, LooksOnly, OnlyLooks, looked_nowhere}
use Rattle.four_state.specs.Configuration.{Configuration}
use Rattle.gate_journal.specs.Journal.{JournalState}
use Rattle.journal_recovery.specs.Recovery.{RecoversTo}
use Rattle.turn_clerk.specs.Clerk.{ClerkState, Opening, present_state}
use Rattle.turn_clerk.specs.Opened.{IsOpened, begun_anew}
use Rattle.line_lock.specs.OpenedOn.{SayTheSame, WasOpenedOn}

-- What was looked at, another description says the same of.
said_looks : (said old new : DeviceState) → SayTheSame said old → OnlyLooks old new
    → OnlyLooks said new
said_looks said old new same looks = record {
  reads = looks.reads ∙ sym same.reads;
  nothing_more = λ image left. (same.may_leave image).1 (looks.nothing_more image left);
  crash = record {
    later = omega (arith, looks.crash.later, same.moment);
    each = λ image left.
        (same.may_leave image).1
        (looks.crash.each image (subst (λ since. new.left_since since image) same.moment left));
    before = λ since image le left.
        ⊎_elim (λ was. inl ((same.left_since since image).1 was))
        (λ may. inr ((same.may_leave image).1 may))
        (looks.crash.before since image (omega (arith, le, same.moment)) left);
  };
}

module _ {D : Type 0} (state : D → DeviceState) (said : DeviceState) (from : Configuration) where
  pub opened_on : (device : D) (line : Configuration) (clerk : ClerkState D) (fault : Type 0)
      → SayTheSame said (state device) → from ≡ line → IsOpened line clerk
      → AreCalls (state device) (state clerk.journal.device) fault → (fault → ⊥)
      → LooksOnly (state device) (state clerk.journal.device)
      → ((state device).honest → IsDurable (state clerk.journal.device))
      → ((state device).honest → RecoversTo (present_state clerk) (state device).reads)
      → WasOpenedOn state said from clerk
  opened_on device line clerk fault same on opened call well looks durable recovers =
      let journal : clerk.opening.journal ≡ clerk.journal =
      ap (λ (o : Opening D). o.journal) opened.opening in
      record {
        line = ap (λ (o : Opening D). o.line) opened.opening ∙ sym on;
        number = call.number ∙ sym same.number;
        sectors = call.sectors ∙ ap length (sym same.reads);
        stays_honest = λ honest. call.stays_honest (same.honest.0 honest);
        was_honest = λ honest. same.honest.1 (call.was_honest honest);
        no_fault = ap (λ (j : JournalState D). (state j.device).faults) journal
            ∙ call.cause.stayed well ∙ sym same.faults;
        looks = λ honest.
            subst (λ (j : JournalState D). OnlyLooks said (state j.device)) (sym journal)
            (said_looks said (state device) (state clerk.journal.device) same
            (looks (same.honest.0 honest)));
        settled = λ honest.
            subst (λ (j : JournalState D). IsDurable (state j.device)) (sym journal)
            (durable (same.honest.0 honest));
        recovers = λ honest.
            subst (λ (o : Opening D).
            RecoversTo (record { ledger = o.ledger; next = o.journal.next }) said.reads)
            (sym opened.opening)
            (subst (λ (image : Image). RecoversTo (present_state clerk) image) (sym same.reads)
            (recovers (same.honest.0 honest)));
      }

  pub opened_over : (sound : (device : D) → (state device).honest → IsSound (state device))
      (clerk anew : ClerkState D) (line : Configuration)
      → SayTheSame said (state clerk.journal.device) → from ≡ line → anew ≡ begun_anew clerk line
      → ((state clerk.journal.device).honest → IsDurable (state anew.journal.device))
      → ((state clerk.journal.device).honest
      → RecoversTo (present_state anew) (state clerk.journal.device).reads)
      → WasOpenedOn state said from anew
  opened_over sound clerk anew line same on is durable recovers =
      subst (λ (k : ClerkState D).
      ((state clerk.journal.device).honest → IsDurable (state k.journal.device))
      → ((state clerk.journal.device).honest
      → RecoversTo (present_state k) (state clerk.journal.device).reads)
      → WasOpenedOn state said from k) (sym is)
      (λ at_rest found. record {
        line = sym on;
        number = sym same.number;
        sectors = ap length (sym same.reads);
        stays_honest = same.honest.0;
        was_honest = same.honest.1;
        no_fault = sym same.faults;
        looks = λ honest.
            said_looks said (state clerk.journal.device) (state clerk.journal.device) same
            (looked_nowhere (state clerk.journal.device)
            (sound clerk.journal.device (same.honest.0 honest)));
        settled = λ honest. at_rest (same.honest.0 honest);
        recovers = λ honest.
            subst (λ (image : Image). RecoversTo (present_state (begun_anew clerk line)) image)
            (sym same.reads) (found (same.honest.0 honest));
      })
      durable recovers
