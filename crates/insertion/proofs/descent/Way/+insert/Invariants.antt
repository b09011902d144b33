use Rattle.std.proofs.Common.{◌+◌, ◌*◌}
use Rattle.insertion.proofs.descent.Way.+insert.Given as goal

abbrev pub decreases-insert_below : goal.decreases-insert_below
decreases-insert_below g l = 2 * l.self.node.height

abbrev pub decreases-insert_under : goal.decreases-insert_under
decreases-insert_under g l = 2 * l.self.node.height + 1
