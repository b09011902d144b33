use Rattle.node.proofs.Frames.{held_low}
use Rattle.node.proofs.laws.low_stands.Goals as goal

pub returns : goal.returns
returns g c = held_low
