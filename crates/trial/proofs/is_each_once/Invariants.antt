use Rattle.trial.proofs.Once.{Marked}
use Rattle.trial.proofs.is_each_once.Given as goal

abbrev pub invariant-loop-node : goal.invariant-loop-node
invariant-loop-node l = Marked l.list l.node-index l.seen
