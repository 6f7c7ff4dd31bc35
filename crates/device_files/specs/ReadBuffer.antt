-- The sectors that a buffer holds.
use Rattle.std.specs.Prelude.{◌≡◌, ◌+◌, ◌<◌, ◌≤◌, ℕ}
use Rattle.sector_device.specs.Image.{Image}
use Rattle.device_files.specs.Run.{Shows}
use Rattle.device_files.specs.declared.buffer.ReadBuffer.{ReadBuffer}

abbrev pub IsEmpty : ReadBuffer → Type 0
IsEmpty buffer = buffer.held ≡ 0

-- the sector is among those that it holds
abbrev pub Holds : ReadBuffer → ℕ → Type 0
Holds buffer at = (buffer.first ≤ at) × (at < buffer.first + buffer.held)

-- each sector that it holds is the image's
abbrev pub Mirrors : ReadBuffer → Image → Type 0
Mirrors buffer image = Shows buffer.sectors.items buffer.held image buffer.first
