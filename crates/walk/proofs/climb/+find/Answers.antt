use Rattle.walk.specs.Climbs.{spot}
use Rattle.walk.proofs.Climbing.{rises_edged, find_here, find_more, find_top}
use Rattle.walk.proofs.climb.+find.Goals as goal

pub returns-in_err-len-clause-whole : goal.returns-in_err-len-clause-whole
returns-in_err-len-clause-whole t c = λ n m i l w. absurd (c.in_err-len.ensures.1 (rises_edged c.args.side c.args.heads.now n c.args.at (spot m i _) w))

pub returns-in-Some-clause-whole : goal.returns-in-Some-clause-whole
returns-in-Some-clause-whole t c = λ n m i l w. find_here c.args.side c.args.heads.now c.args.level c.args.at c.in_ok-len.len c.in-Some.idx n m i c.in_ok-len.ensures.1 c.in-Some.ensures w

pub returns-then-level-eq-MAX_HEIGHT-clause-whole : goal.returns-then-level-eq-MAX_HEIGHT-clause-whole
returns-then-level-eq-MAX_HEIGHT-clause-whole t c =
    find_top c.args.side c.args.heads.now c.args.level c.args.at c.in_ok-len.len _ c.if-level-eq-MAX_HEIGHT.true c.in_ok-len.ensures.1 c.in_default.ensures

pub returns-clause-whole : goal.returns-clause-whole
returns-clause-whole t c = find_more c.args.side c.args.heads.now c.args.level c.args.at c.in_ok-len.len c.find.result c.in_ok-len.ensures.1 c.in_default.ensures c.find.ensures.whole
