-- The first and the last leaf under a node.
--   end_index s n      the index of the first or the last edge of a node of n entries
--   end_leaf s H h m   the leaf that the first or the last edges lead to from node m, h levels down
--   Chain s H h m     the nodes on that way lie in the table, with at most eleven entries
--   end_edge s H h m   the first or the last edge of that leaf
--   end_tree s h t     the first or the last leaf of a tree
--   tree_edge s h t    its first or last edge
use Rattle.std.specs.Prelude.{ℕ, zero, suc, List, length}
use Rattle.node.specs.declared.head.Head.{Head}
use Rattle.node.specs.declared.ends.Handle.{Handle}
use Rattle.node.specs.declared.ends.Side.{Side}
use Rattle.node.specs.declared.ends.Side.TheVariants.{First, Last}
use Rattle.node.specs.Shape.{Tree, number, row, kid}
use Rattle.node.specs.Store.{head_in}
use Rattle.node.specs.Links.{edge}
use Rattle.node.specs.Counts.{Stands}

abbrev pub end_index : Side → ℕ → ℕ
end_index First n = 0
end_index Last n = n

-- the node that the first or the last edge of m leads to
abbrev pub end_below : Side → List Head → ℕ → ℕ
end_below s H m = edge H m (end_index s (head_in H m).len)

unfoldable pub end_leaf : Side → List Head → ℕ → ℕ → ℕ
end_leaf s H zero m = m
end_leaf s H (suc h) m = end_leaf s H h (end_below s H m)

unfoldable pub Chain : Side → List Head → ℕ → ℕ → Type 0
Chain s H zero m = Stands H m
Chain s H (suc h) m = Stands H m × Chain s H h (end_below s H m)

abbrev pub end_edge : Side → List Head → ℕ → ℕ → Handle
end_edge s H h m = record { node = end_leaf s H h m; idx = end_index s (head_in H (end_leaf s H h m)).len }

unfoldable pub end_tree : {E : Type 0} → Side → ℕ → Tree E → Tree E
end_tree s zero t = t
end_tree s (suc h) t = end_tree s h (kid t (end_index s (length (row t))))

abbrev pub tree_edge : {E : Type 0} → Side → ℕ → Tree E → Handle
tree_edge s h t = record { node = number (end_tree s h t); idx = end_index s (length (row (end_tree s h t))) }
