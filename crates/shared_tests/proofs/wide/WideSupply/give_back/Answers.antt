use Rattle.std.proofs.Common.{refl}
use Rattle.shared_tests.proofs.Wides.{first_alone}
use Rattle.shared_tests.proofs.wide.WideSupply.give_back.Goals as goal

pub returns-then-node-ne0 : goal.returns-then-node-ne0
returns-then-node-ne0 c = record { given = record { not_out = first_alone 4999 c.args.node c.args.self.now.out c.if-node-ne0.true; reason = refl; same = refl } }
