use Rattle.rules.proofs.Branches.{held_stands}
use Rattle.rules.proofs.held_stands.Goals as goal

pub returns : goal.returns
returns g c = held_stands
