use Rattle.acts.proofs.Finding.{least_nowhere, least_tree}
use Rattle.acts.proofs.looking.least_in.Goals as goal

pub returns-in_default : goal.returns-in_default
returns-in_default g c = least_nowhere g.K.KeyOrder.compares c.args.tables.now c.args.here _ c.in_default.ensures

pub returns : goal.returns
returns g c = least_tree g.K.KeyOrder.compares c.args.tables.now c.args.here _ c.in-Some.root c.in-Some.field-0-1 c.in-Some.ensures _ c.search_least.ensures
