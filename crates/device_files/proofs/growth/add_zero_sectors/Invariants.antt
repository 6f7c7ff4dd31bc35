use Rattle.std.proofs.Common.{◌-◌}
use Rattle.device_files.proofs.growth.add_zero_sectors.Given as goal

abbrev pub decreases-loop-at : goal.decreases-loop-at
decreases-loop-at g l = l.to - l.at
