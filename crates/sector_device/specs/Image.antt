-- What a device holds: a row of sectors.
use Rattle.std.specs.Prelude.{◌≡◌, ◌<◌, ℕ, List, [], length, slice_index, slice_index_or, slice_set}
use Rattle.std.proofs.Common.{sym}
use Rattle.std.proofs.lemmas.List.{set-get_or}

-- 512 bytes
pub record IsSector (bytes : List ℕ) : Type 0 where
  pub size : length bytes ≡ 512
  pub values : (place : ℕ) → slice_index bytes place < 256

-- a row of sectors
abbrev pub Image : Type 0
Image = List (List ℕ)

-- the bytes of the sector with this number
abbrev pub sector_at : Image → ℕ → List ℕ
sector_at image at = slice_index_or image at []

-- each of the image's sectors is one
pub record IsImage (image : Image) : Type 0 where
  pub each : (at : ℕ) → at < length image → IsSector (sector_at image at)

-- the new image has these bytes in that sector, and the old image's everywhere else
abbrev pub with_sector : Image → ℕ → List ℕ → Image
with_sector image at bytes = slice_set image at bytes

-- the two images have as many sectors, and differ at most in that one, where the new one has some
-- 512 bytes
pub record DiffersAt (at : ℕ) (old new : Image) : Type 0 where
  pub bytes : List ℕ
  pub sector : IsSector bytes
  pub is : new ≡ with_sector old at bytes

-- an image differs nowhere from itself
pub differs_nowhere : (at : ℕ) (image : Image) → IsImage image → at < length image
    → DiffersAt at image image
differs_nowhere at image is lt =
    record { bytes = sector_at image at; sector = is.each at lt; is = sym (set-get_or image at []) }
