-- The worked trees compute.
use Rattle.std.proofs.Common.{refl}
use Rattle.rules.specs.Rules.{grow, run}
use Rattle.rules.specs.Cases.{WorkedTrees, rows}

pub worked_trees : WorkedTrees
unfolding grow run rows
worked_trees = refl
