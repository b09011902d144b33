use Rattle.acts.proofs.Handing.{opens_nowhere, opens_tree, opens_lost}
use Rattle.acts.proofs.walking.open_in.Goals as goal

pub returns-in_err-walk-in-Some : goal.returns-in_err-walk-in-Some
returns-in_err-walk-in-Some g c =
    opens_lost g.K.KeyOrder.compares c.args.tables.now _ c.args.here c.in-Some.root c.in-Some.count c.in-Some.ensures c.in_err-walk-in-Some.field-0.0 c.in_err-walk-in-Some.ensures c.from_residual.result

pub returns-in_ok-walk-in-Some : goal.returns-in_ok-walk-in-Some
returns-in_ok-walk-in-Some g c =
    opens_tree g.K.KeyOrder.compares c.args.tables.now _ c.args.here c.in-Some.root c.in-Some.count c.in-Some.ensures c.in_ok-walk-in-Some.walk c.in_ok-walk-in-Some.ensures

pub returns-in_ok-walk-in-None : goal.returns-in_ok-walk-in-None
returns-in_ok-walk-in-None g c =
    opens_nowhere g.K.KeyOrder.compares c.args.tables.now _ c.args.here c.in-None.ensures c.in_ok-walk-in-None.walk c.in_ok-walk-in-None.ensures
