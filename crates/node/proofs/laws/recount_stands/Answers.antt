use Rattle.node.proofs.Recounts.{recount}
use Rattle.node.proofs.laws.recount_stands.Goals as goal

pub returns : goal.returns
returns g c = recount
