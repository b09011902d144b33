use Rattle.bounds.proofs.Needs.{nodes_least, nodes_within}
use Rattle.bounds.proofs.nodes_stand.Goals as goal

pub returns : goal.returns
returns g c = record { least = nodes_least; within = nodes_within }
