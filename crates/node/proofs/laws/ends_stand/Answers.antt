use Rattle.node.proofs.Descents.{ends_stand}
use Rattle.node.proofs.laws.ends_stand.Goals as goal

pub returns : goal.returns
returns g c = ends_stand
