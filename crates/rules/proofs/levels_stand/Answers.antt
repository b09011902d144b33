use Rattle.rules.proofs.Levels.{levels_stand}
use Rattle.rules.proofs.levels_stand.Goals as goal

pub returns : goal.returns
returns g c = levels_stand
