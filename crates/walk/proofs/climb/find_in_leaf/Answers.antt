use Rattle.walk.proofs.Climbing.{find_here}
use Rattle.walk.proofs.climb.find_in_leaf.Goals as goal

pub returns-clause-first : goal.returns-clause-first
returns-clause-first c = λ n m i l w. find_here c.args.side c.args.heads.now 0 c.args.at c.in-Ok.len c.in_ok-idx.idx n m i c.in-Ok.ensures.1 c.in_ok-idx.ensures w
