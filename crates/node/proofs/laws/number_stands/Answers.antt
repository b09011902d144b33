use Rattle.node.proofs.Heights.{many_nodes}
use Rattle.node.proofs.Numbers.{few_nodes, low}
use Rattle.node.proofs.laws.number_stands.Goals as goal

pub returns : goal.returns
returns g c = record { many = many_nodes; few = few_nodes; low = low }
