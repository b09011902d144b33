use Rattle.std.proofs.Common.{◌-◌}
use Rattle.walk.proofs.climb.+depth.Given as goal

abbrev pub decreases-depth : goal.decreases-depth
decreases-depth l = 5 - l.level
