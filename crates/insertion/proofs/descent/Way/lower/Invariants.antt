use Rattle.std.proofs.Common.{◌+◌, ◌≤◌}
use Rattle.insertion.proofs.Lowering.{Lower}
use Rattle.insertion.proofs.descent.Way.lower.Given as goal

abbrev pub invariant-loop-found : goal.invariant-loop-found
invariant-loop-found g l =
    (l.way.1.0 + l.way.0.height ≤ 6) × Lower {V = g.row.V.Denot} (g.K.KeyOrder.compares l.key) l.tables l.fn.self.node l.fn.self.above l.way.0 l.way.1.0

abbrev pub decreases-loop-found : goal.decreases-loop-found
decreases-loop-found g l = l.way.0.height
