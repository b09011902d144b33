use Rattle.std.proofs.Common.{sym, arith}
use Rattle.supply.proofs.Chains.{length_marks}
use Rattle.supply.proofs.links.ChainSupply.size.Goals as goal

pub returns : goal.returns
returns c = let s = c.args.self.now in sym (length_marks s.size s.links (omega arith))
