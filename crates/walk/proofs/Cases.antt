-- The worked walk. Assumes nothing.
use Rattle.std.proofs.Common.{refl}
use Rattle.node.specs.Shape.{flat, weigh}
use Rattle.walk.specs.Steps.{step}
use Rattle.walk.specs.Cases.{WorkedWalk}

pub worked_walk : WorkedWalk
unfolding flat weigh step
worked_walk = refl
