use Rattle.repair.proofs.top.+fix_top.Given as goal

abbrev pub decreases-fix_top : goal.decreases-fix_top
decreases-fix_top g l = l.root.height
