use Rattle.map.proofs.Finds.{lookup_bound}
use Rattle.map.proofs.laws.bound_stands.Goals as goal

pub returns : goal.returns
returns g c = lookup_bound
