use Rattle.shared.proofs.Standing.{moves_stand}
use Rattle.shared.proofs.moves_stand.Goals as goal

pub returns : goal.returns
returns g c = moves_stand
