use Rattle.node.proofs.ends.+descend.Given as goal

abbrev pub decreases-descend : goal.decreases-descend
decreases-descend l = l.node.height
