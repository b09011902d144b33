use Rattle.acts.proofs.Handing.{releases_nowhere, releases_tree}
use Rattle.acts.proofs.walking.release_in.Goals as goal

pub returns-in-Some : goal.returns-in-Some
returns-in-Some g c = releases_tree g.K.KeyOrder.compares c.args.tables.now _ _ c.args.here c.release.result c.in-Some.root c.in-Some.count c.in-Some.ensures c.release.ensures

pub returns-in-None : goal.returns-in-None
returns-in-None g c = releases_nowhere g.K.KeyOrder.compares c.args.tables.now _ _ c.args.here c.release-in-None.result c.in-None.ensures c.release-in-None.ensures
