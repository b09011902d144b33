use Rattle.std.proofs.Common.{◌≤◌}
use Rattle.supply.specs.Stocks.{Stock}
use Rattle.spares.specs.Spares.{Took}
use Rattle.spares.proofs.give_all_back.Given as goal

abbrev pub invariant-loop-left : goal.invariant-loop-left
invariant-loop-left g l = (l.left ≤ l.count) × ((s : Stock) → Took s (g.S.Supply.stock l.fn.supply) l.list l.count → Took s (g.S.Supply.stock l.supply) l.list l.left)

abbrev pub decreases-loop-left : goal.decreases-loop-left
decreases-loop-left g l = l.left
