use Rattle.node.proofs.Heights.{height_bound}
use Rattle.node.proofs.laws.height_stands.Goals as goal

pub returns : goal.returns
returns g c = height_bound
