use Rattle.rules.proofs.Ways.{way_parts}
use Rattle.rules.proofs.way_stands.Goals as goal

pub returns : goal.returns
returns g c = way_parts
