-- What each call of a device in memory does to what a crash may leave.
use Rattle.std.proofs.Common.{◌≡◌, ◌⊎◌, inl, inr, ⊎_elim, ℕ, ◌+◌, ◌<◌, ◌≤◌, List, [], ◌∷◌, length}
use Rattle.std.proofs.Common.{get_or, set, sym, ◌∙◌, ap, subst, arith}
use Rattle.std.proofs.lemmas.List.{ext_get_or, set-set, set-get_or, length-set, get_or-set_same}
use Rattle.std.proofs.lemmas.List.{get_or-set_other, length-reverse}
use Rattle.std.proofs.lemmas.Bool.{cases_eq}
use Rattle.sector_device.specs.Image.{Image, IsImage, IsSector, sector_at, with_sector, DiffersAt}
use Rattle.sector_device.specs.Crash.{IsLook, IsWrite}
use Rattle.sector_device.specs.Memory.{MayLeave, LeftSince, IsPending}
use Rattle.sector_device.specs.MemoryDevice.{memory_device_state, calls_of}
use Rattle.sector_device.specs.declared.memory.Call.{Call}
use Rattle.sector_device.specs.declared.memory.Call.TheVariants.{Wrote}
use Rattle.sector_device.specs.declared.memory.MemoryDevice.{MemoryDevice}
use Rattle.std.specs.declared.snapshot.Snapshot.{Snapshot}

-- with nothing pending a crash leaves what reads give
pub settled_durable : (reads : Image) (calls : List Call) → ((at : ℕ) → IsPending calls at → ⊥)
    → (image : Image) → MayLeave reads calls image → image ≡ reads
settled_durable reads calls settled image left =
    ext_get_or [] image reads left.sectors (λ at lt. left.settled at (settled at))

-- an image with other bytes in one sector
pub image_with : (image : Image) (at : ℕ) (bytes : List ℕ) → IsImage image → IsSector bytes
    → IsImage (with_sector image at bytes)
image_with image at bytes is sector = record {
  each = λ other lt. elim (cases_eq other at) [
    | inl same ↦ subst IsSector
        (sym (ap (λ (k : ℕ). get_or (set image at bytes) k []) same
        ∙ get_or-set_same image at bytes [] (omega (arith, same, lt, length-set image at bytes))))
        sector
    | inr differs ↦
        subst IsSector (sym (get_or-set_other image at other bytes [] differs))
        (is.each other (omega (arith, lt, length-set image at bytes)))
  ];
}

module _ (reads : Image) (calls : List Call) (at : ℕ) (from : List ℕ) (lt : at < length reads)
    (before : Snapshot (List ℕ)) (kept : before.value ≡ sector_at reads at) where
  restored : (bytes : List ℕ) → with_sector (with_sector reads at bytes) at before.value ≡ reads
  restored bytes =
      set-set reads at bytes before.value ∙ ap (set reads at) kept ∙ set-get_or reads at []

  -- what may be left after the write might have been left before it, but for that sector
  torn_write : IsImage reads → (image : Image)
      → MayLeave (with_sector reads at from) (Wrote at before ∷ calls) image
      → (old : Image) × MayLeave reads calls old × DiffersAt at old image
  torn_write is image left =
      let old = with_sector image at (sector_at reads at) in
      let size : length image ≡ length reads = left.sectors ∙ length-set reads at from in
      let same : with_sector old at (sector_at image at) ≡ image =
      set-set image at (sector_at reads at) (sector_at image at) ∙ set-get_or image at [] in (
        old,
        record {
          sectors = length-set image at (sector_at reads at) ∙ size;
          is_image = image_with image at (sector_at reads at) left.is_image (is.each at lt);
          settled = λ other free. elim (cases_eq other at) [
            | inl here ↦ ap (λ (k : ℕ). sector_at old k) here
                ∙ get_or-set_same image at (sector_at reads at) [] (omega (arith, size, lt))
                ∙ ap (λ (k : ℕ). sector_at reads k) (sym here)
            | inr differs ↦ get_or-set_other image at other (sector_at reads at) [] differs
                ∙ left.settled other (λ pending. ⊎_elim (λ here. differs (sym here)) free pending)
                ∙ get_or-set_other reads at other from [] differs
          ];
        },
        record {
          bytes = sector_at image at;
          sector = left.is_image.each at (omega (arith, size, lt));
          is = sym same;
        },
      )

  -- since an earlier moment
  since_write : (since : ℕ) (image : Image) → since ≤ length calls
      → LeftSince (with_sector reads at from) (Wrote at before ∷ calls) since image
      → LeftSince reads calls since image
      ⊎ MayLeave (with_sector reads at from) (Wrote at before ∷ calls) image
  since_write since image le (inl now) = inr now
  since_write since image le (inr earlier) =
      inl (subst (λ (sectors : Image). LeftSince sectors calls since image) (restored from)
      earlier.1)

  kept_write : (since : ℕ) (image : Image) → since ≤ length calls
      → LeftSince reads calls since image
      → LeftSince (with_sector reads at from) (Wrote at before ∷ calls) since image
  kept_write since image le was =
      inr (
        le,
        subst (λ (sectors : Image). LeftSince sectors calls since image)
            (sym (restored from)) was,
      )

-- a write that answered Ok
pub write_torn : (old new : MemoryDevice) (at : ℕ) (from : List ℕ) (before : Snapshot (List ℕ))
    → IsSector from → at < length old.sectors.items → before.value ≡ sector_at old.sectors.items at
    → new.sectors.items ≡ with_sector old.sectors.items at from
    → calls_of new ≡ Wrote at before ∷ calls_of old
    → IsWrite at (memory_device_state old) (memory_device_state new)
write_torn old new at from before sector lt kept reads_are calls_are =
    let was = old.sectors.items in
    let reads = new.sectors.items in
    let calls = calls_of new in
    let made : List Call = Wrote at before ∷ calls_of old in
    let old_moment : length old.calls.items ≡ length (calls_of old) =
    sym (length-reverse old.calls.items) in
    let new_moment : length new.calls.items ≡ length (calls_of old) + 1 =
    sym (length-reverse new.calls.items) ∙ ap length calls_are ∙ omega arith in
    let same : (since : ℕ) (image : Image)
    → LeftSince reads calls since image ≡ LeftSince (with_sector was at from) made since image =
    λ since image i. LeftSince (reads_are i) (calls_are i) since image in
    let same_now : (image : Image)
    → MayLeave reads calls image ≡ MayLeave (with_sector was at from) made image =
    λ image i. MayLeave (reads_are i) (calls_are i) image in
    record {
      time = record {
        later = omega (arith, old_moment, new_moment);
        nothing_else = λ since image le left.
            ⊎_elim (λ earlier. inl earlier) (λ now. inr (coe_back (same_now image) now))
            (since_write was (calls_of old) at from lt before kept since image
            (omega (arith, le, old_moment)) (coe_along (same since image) left));
        nothing_forgotten =
            λ since image le earlier.
            coe_back (same since image)
            (kept_write was (calls_of old) at from lt before kept since image
            (omega (arith, le, old_moment)) earlier);
      };
      reads = record { bytes = from; sector = sector; is = reads_are };
      torn = λ image left.
          torn_write was (calls_of old) at from lt before kept old.whole image
          (coe_along (same_now image) left);
    }
  where
    coe_along : {A B : Type 0} → A ≡ B → A → B
    coe_along same a = subst (λ (T : Type 0). T) same a

    coe_back : {A B : Type 0} → A ≡ B → B → A
    coe_back same b = subst (λ (T : Type 0). T) (sym same) b

-- a call that left reads and the record as they were
pub same_record : (old new : MemoryDevice) → new.sectors.items ≡ old.sectors.items
    → calls_of new ≡ calls_of old → IsLook (memory_device_state old) (memory_device_state new)
same_record old new reads calls =
    let forth : (since : ℕ) (image : Image) → LeftSince new.sectors.items (calls_of new) since image
    → LeftSince old.sectors.items (calls_of old) since image = λ since image left.
    subst (λ (made : List Call). LeftSince old.sectors.items made since image) calls
    (subst (λ (sectors : Image). LeftSince sectors (calls_of new) since image) reads left) in
    let back : (since : ℕ) (image : Image) → LeftSince old.sectors.items (calls_of old) since image
    → LeftSince new.sectors.items (calls_of new) since image = λ since image left.
    subst (λ (sectors : Image). LeftSince sectors (calls_of new) since image) (sym reads)
    (subst (λ (made : List Call). LeftSince old.sectors.items made since image) (sym calls)
    left) in
    record {
      time = record {
        later = omega (
          arith,
          sym (length-reverse new.calls.items) ∙ ap length calls
              ∙ length-reverse old.calls.items,
        );
        nothing_else = λ since image le left. inl (forth since image left);
        nothing_forgotten = λ since image le was. back since image was;
      };
      reads = reads;
      nothing_more = λ image left.
          subst (λ (made : List Call). MayLeave old.sectors.items made image) calls
          (subst (λ (sectors : Image). MayLeave sectors (calls_of new) image) reads left);
    }
