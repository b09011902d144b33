use Rattle.std.proofs.Common.{◌-◌}
use Rattle.walk.proofs.climb.+find.Given as goal

abbrev pub decreases-find : goal.decreases-find
decreases-find l = 5 - l.level
