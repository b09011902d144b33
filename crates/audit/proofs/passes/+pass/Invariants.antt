use Rattle.std.proofs.Common.{◌-◌}
use Rattle.walk.specs.Window.{bounds}
use Rattle.audit.specs.Passes.{trail}
use Rattle.audit.proofs.Passing.{Going}
use Rattle.audit.proofs.passes.+pass.Given as goal

abbrev pub decreases-pass : goal.decreases-pass
decreases-pass g l = l.part.node.height

abbrev pub invariant-loop-idx : goal.invariant-loop-idx
invariant-loop-idx g l =
    Going g.K.KeyOrder.compares l.tables l.part.least (bounds l.part.front l.part.back) (l.part.node.height - 1) l.part.node.node (trail l.fn.met l.fn.run) (l.to - l.idx) l.idx (bounds l.front l.part.back) (trail l.met l.run)
