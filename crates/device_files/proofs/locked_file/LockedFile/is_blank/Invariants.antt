use Rattle.std.proofs.Common.{◌-◌, ◌≡◌, ◌≤◌, vec_len}
use Rattle.device_files.proofs.locked_file.LockedFile.is_blank.Given as goal

-- a piece of 256 sectors is read at a time
abbrev pub invariant-loop-at : goal.invariant-loop-at
invariant-loop-at g l = (l.at ≤ l.self-inside.sectors) × (vec_len l.piece ≡ 256)

abbrev pub decreases-loop-at : goal.decreases-loop-at
decreases-loop-at g l = l.self-inside.sectors - l.at
