-- What a power loss puts into pending sectors.
use Rattle.std.specs.Prelude.{◌≡◌, ◌<◌, ℕ, List, [], ◌∷◌, ◌==◌, if◌then◌else◌, length}
use Rattle.sector_device.specs.Image.{Image, sector_at}

-- the bytes of the last pick for a sector, or else those
abbrev pub last_pick : List (ℕ × List ℕ) → ℕ → List ℕ → List ℕ
last_pick [] at bytes = bytes
last_pick (pick ∷ picks) at bytes = last_pick picks at (if pick.0 == at then pick.1 else bytes)

-- The new image has the last pick in each pending sector, and the old image's bytes where there is
-- none, and in each sector that isn't pending.
pub record TakesPicks (old : Image) (picks : List (ℕ × List ℕ)) (pending : ℕ → Type 0)
    (new : Image) : Type 0 where
  pub sectors : length new ≡ length old
  pub picked : (at : ℕ) → at < length old → pending at
      → sector_at new at ≡ last_pick picks at (sector_at old at)
  pub settled : (at : ℕ) → (pending at → ⊥) → sector_at new at ≡ sector_at old at
