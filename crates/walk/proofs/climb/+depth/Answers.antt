use Rattle.std.proofs.Common.{arith}
use Rattle.walk.proofs.Leaving.{tops_inside, tops_on, deep_here, deep_more}
use Rattle.walk.proofs.climb.+depth.Goals as goal

pub returns-then-node-heads-clause-whole : goal.returns-then-node-heads-clause-whole
returns-then-node-heads-clause-whole t c = λ n l w. absurd (omega (arith, tops_inside c.args.heads.now n c.args.node w))

pub returns-then-parent-clause-whole : goal.returns-then-parent-clause-whole
returns-then-parent-clause-whole t c = deep_here c.args.heads.now c.args.level c.args.node c.if-parent.true

pub returns-then-level-eq-MAX_HEIGHT-clause-whole : goal.returns-then-level-eq-MAX_HEIGHT-clause-whole
returns-then-level-eq-MAX_HEIGHT-clause-whole t c = λ n l w. absurd (omega (arith, (tops_on c.args.heads.now n c.args.node w c.if-parent.false).0))

pub returns-clause-whole : goal.returns-clause-whole
returns-clause-whole t c = deep_more c.args.heads.now c.args.level c.args.node c.depth.result c.if-parent.false c.depth.ensures.whole
