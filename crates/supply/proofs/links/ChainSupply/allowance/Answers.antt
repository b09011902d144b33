use Rattle.std.proofs.Common.{arith}
use Rattle.supply.proofs.Chains.{length_marks}
use Rattle.supply.proofs.links.ChainSupply.allowance.Goals as goal

pub returns : goal.returns
returns c = let s = c.args.self.now in omega (arith, length_marks s.size s.links (omega arith))
