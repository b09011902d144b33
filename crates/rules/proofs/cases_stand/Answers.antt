use Rattle.rules.proofs.Cases.{worked_trees}
use Rattle.rules.proofs.cases_stand.Goals as goal

pub returns : goal.returns
returns c = worked_trees
