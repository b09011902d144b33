use Rattle.parts.proofs.Cases.{worked_cuts}
use Rattle.parts.proofs.cases_stand.Goals as goal

pub returns : goal.returns
returns c = worked_cuts
