use Rattle.node.proofs.Sorting.{sorted_rises, index_parts}
use Rattle.node.proofs.laws.sorted_stands.Goals as goal

pub returns : goal.returns
returns g c = record { rises = sorted_rises; parts = index_parts }
