use Rattle.shared_tests.proofs.Wides.{first_decides}
use Rattle.shared_tests.proofs.wide.WideSupply.is_out.Goals as goal

pub returns-else-node-eq0 : goal.returns-else-node-eq0
returns-else-node-eq0 c = first_decides 4999 c.args.node c.args.self.now.out c.if-node-eq0.false
