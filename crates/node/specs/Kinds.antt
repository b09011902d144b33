-- A node as the code names it.
--   forced      by its kind: a leaf at height 0, an inner node above
--   root_of     a tree with its height: the number of its root, and that height
use Rattle.std.specs.Prelude.{ℕ, cond, ◌==◌}
use Rattle.node.specs.Shape.{Tree, number}
use Rattle.node.specs.declared.nodes.NodeRef.{NodeRef}
use Rattle.node.specs.declared.nodes.ForceResult.{ForceResult}
use Rattle.node.specs.declared.nodes.ForceResult.TheVariants.{Leaf, Internal}

abbrev pub forced : NodeRef → ForceResult
forced n = cond (n.height == 0) (Leaf (record { node = n.node })) (Internal (record { node = n.node; height = n.height }))

abbrev pub root_of : {E : Type 0} → ℕ × Tree E → NodeRef
root_of p = record { node = number p.1; height = p.0 }
