use Rattle.std.proofs.Common.{◌-◌}
use Rattle.audit.proofs.audits.+top.Given as goal

abbrev pub decreases-top : goal.decreases-top
decreases-top l = 5 - l.level
