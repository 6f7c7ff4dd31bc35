-- What a crash may leave of a device in memory, told from what reads give now and from its record
-- of writes and syncs, the newest first. Each write in it has the bytes that stood there before.
use Rattle.std.specs.Prelude.{◌≡◌, ◌⊎◌, ◌≤◌, ℕ, List, [], ◌∷◌, length}
use Rattle.sector_device.specs.Image.{Image, IsImage, sector_at, with_sector}
use Rattle.sector_device.specs.declared.memory.Call.{Call}
use Rattle.sector_device.specs.declared.memory.Call.TheVariants.{Wrote, Synced}

-- a write to the sector stands in the record, and no sync after it
abbrev pub IsPending : List Call → ℕ → Type 0
IsPending [] at = ⊥
IsPending (Synced ∷ calls) at = ⊥
IsPending (Wrote place before ∷ calls) at = (place ≡ at) ⊎ IsPending calls at

-- Any 512 bytes in each pending sector, and what reads give in every other one.
pub record MayLeave (reads : Image) (calls : List Call) (image : Image) : Type 0 where
  pub sectors : length image ≡ length reads
  pub is_image : IsImage image
  pub settled : (at : ℕ) → (IsPending calls at → ⊥) → sector_at image at ≡ sector_at reads at

-- what reads gave before the call
abbrev pub undone : Call → Image → Image
undone Synced reads = reads
undone (Wrote place before) reads = with_sector reads place before.value

-- What a crash might have left at some moment when at least so many of the calls had been made.
abbrev pub LeftSince : Image → List Call → ℕ → Image → Type 0
LeftSince reads [] since image = MayLeave reads [] image
LeftSince reads (call ∷ calls) since image =
    MayLeave reads (call ∷ calls) image
    ⊎ ((since ≤ length calls) × LeftSince (undone call reads) calls since image)
