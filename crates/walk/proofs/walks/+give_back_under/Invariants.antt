use Rattle.std.proofs.Common.{drop}
use Rattle.walk.proofs.Releasing.{Left}
use Rattle.walk.proofs.walks.+give_back_under.Given as goal

abbrev pub decreases-give_back_under : goal.decreases-give_back_under
decreases-give_back_under g l = l.height

abbrev pub invariant-loop-child : goal.invariant-loop-child
invariant-loop-child g l = Left (g.S.Supply.stock l.fn.supply) (g.S.Supply.stock l.supply) l.heads l.height l.node (drop l.child-index l.child-items)
