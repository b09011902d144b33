use Rattle.acts.proofs.Handing.{closes_at}
use Rattle.acts.proofs.walking.close_in.Goals as goal

pub returns : goal.returns
returns g c = closes_at g.K.KeyOrder.compares c.args.tables.now _ _ c.args.walk c.close.result c.close.ensures
