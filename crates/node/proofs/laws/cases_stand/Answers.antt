use Rattle.std.proofs.Common.{refl}
use Rattle.node.proofs.laws.cases_stand.Goals as goal

pub returns : goal.returns
returns c = refl
