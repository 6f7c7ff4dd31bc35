-- Sectors that were read one behind another.
use Rattle.std.specs.Prelude.{◌≡◌, ◌+◌, ◌<◌, ℕ}
use Rattle.sector_device.specs.Image.{Image, sector_at}

-- so many of these sectors, from the first on, are those that stand in the image from that place on
abbrev pub Shows : Image → ℕ → Image → ℕ → Type 0
Shows sectors count image at = (k : ℕ) → k < count → sector_at sectors k ≡ sector_at image (at + k)
