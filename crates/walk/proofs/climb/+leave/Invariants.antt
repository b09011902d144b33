use Rattle.walk.proofs.climb.+leave.Given as goal

abbrev pub decreases-leave : goal.decreases-leave
decreases-leave g l = l.count
