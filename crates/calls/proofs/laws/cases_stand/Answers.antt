use Rattle.calls.proofs.Cases.{worked_calls}
use Rattle.calls.proofs.laws.cases_stand.Goals as goal

pub returns : goal.returns
returns c = worked_calls
