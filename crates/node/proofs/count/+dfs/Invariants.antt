use Rattle.std.proofs.Common.{◌-◌, ◌+◌, ◌*◌}
use Rattle.node.proofs.Recounts.{Summed}
use Rattle.node.proofs.count.+dfs.Given as goal

abbrev pub decreases-dfs : goal.decreases-dfs
decreases-dfs l = 2 * l.height + 1

abbrev pub decreases-dfs_below : goal.decreases-dfs_below
decreases-dfs_below l = 2 * l.height

abbrev pub invariant-dfs_below-loop-child : goal.invariant-dfs_below-loop-child
invariant-dfs_below-loop-child l = Summed l.heads (l.height - 1) l.node l.child-index l.sum
