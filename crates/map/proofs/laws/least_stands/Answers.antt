use Rattle.map.proofs.Leasts.{least_stands}
use Rattle.map.proofs.laws.least_stands.Goals as goal

pub returns : goal.returns
returns g c = least_stands
