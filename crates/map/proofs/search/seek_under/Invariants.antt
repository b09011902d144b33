use Rattle.map.proofs.Seeking.{Came}
use Rattle.map.proofs.search.seek_under.Given as goal

abbrev pub invariant-loop-found : goal.invariant-loop-found
invariant-loop-found g l = Came (g.Q.Placing.places l.query) l.tables l.fn.root l.node l.made

abbrev pub decreases-loop-found : goal.decreases-loop-found
decreases-loop-found g l = l.node.height
