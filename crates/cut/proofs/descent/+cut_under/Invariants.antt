use Rattle.cut.proofs.descent.+cut_under.Given as goal

abbrev pub decreases-cut_under : goal.decreases-cut_under
decreases-cut_under g l = l.node.height
