use Rattle.walk.proofs.Cases.{worked_walk}
use Rattle.walk.proofs.laws.walk_stands.Goals as goal

pub returns : goal.returns
returns c = worked_walk
