use Rattle.audit.proofs.passes.+above.Given as goal

abbrev pub decreases-above : goal.decreases-above
decreases-above l = l.levels
