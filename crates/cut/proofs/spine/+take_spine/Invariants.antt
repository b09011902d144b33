use Rattle.cut.proofs.spine.+take_spine.Given as goal

abbrev pub decreases-take_spine : goal.decreases-take_spine
decreases-take_spine g l = l.height
