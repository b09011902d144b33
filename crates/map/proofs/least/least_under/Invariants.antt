use Rattle.map.proofs.Leasts.{CameLeast}
use Rattle.map.proofs.least.least_under.Given as goal

abbrev pub invariant-loop-idx : goal.invariant-loop-idx
invariant-loop-idx g l = CameLeast g.K.KeyOrder.compares (g.Q.Placing.places l.query) l.tables l.fn.root l.node l.least

abbrev pub decreases-loop-idx : goal.decreases-loop-idx
decreases-loop-idx g l = l.node.height
