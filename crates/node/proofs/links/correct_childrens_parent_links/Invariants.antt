use Rattle.std.proofs.Common.{◌-◌}
use Rattle.node.specs.Store.{head_in}
use Rattle.node.specs.Cells.{span}
use Rattle.node.specs.Links.{Adopted}
use Rattle.node.proofs.links.correct_childrens_parent_links.Given as goal

abbrev pub invariant-loop-edge : goal.invariant-loop-edge
invariant-loop-edge l = Adopted l.initial.heads l.heads l.node l.first (span (head_in l.initial.heads l.node).edges l.first (l.edge - l.first))
