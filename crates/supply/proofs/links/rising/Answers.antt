use Rattle.std.proofs.Common.{rules}
use Rattle.supply.proofs.links.rising.Goals as goal

pub returns : goal.returns
returns c = λ k h. let (p, q, called) = c.from_fn.ensures.items.at k 0 h in search rules
