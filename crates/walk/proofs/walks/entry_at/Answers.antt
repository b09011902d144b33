use Rattle.walk.proofs.Handing.{read_at}
use Rattle.walk.proofs.walks.entry_at.Goals as goal

pub returns-clause-entry : goal.returns-clause-entry
returns-clause-entry g c = rw (← c.tables.view_is) (read_at _ _ _ c.args.spot _ _ c.index-keys-at.is c.index-values-at.is)
