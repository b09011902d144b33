use Rattle.repair.proofs.border.+mend.Given as goal

abbrev pub decreases-mend : goal.decreases-mend
decreases-mend g l = l.node.height
