use Rattle.calls.proofs.Running.{runs_stand}
use Rattle.calls.proofs.laws.runs_stand.Goals as goal

pub returns : goal.returns
returns g c = runs_stand
