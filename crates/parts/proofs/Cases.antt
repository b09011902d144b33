-- The worked cuts compute.
use Rattle.std.proofs.Common.{refl}
use Rattle.node.specs.Shape.{weigh}
use Rattle.rules.specs.Rules.{grow, run}
use Rattle.rules.specs.Cases.{rows}
use Rattle.parts.specs.Rules.{cut_left, cut_right, mend, fix_top, cuts}
use Rattle.parts.specs.Cases.{WorkedCuts}

pub worked_cuts : WorkedCuts
unfolding weigh grow run rows cut_left cut_right mend fix_top cuts
worked_cuts = refl
