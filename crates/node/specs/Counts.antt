-- What stands under a node, told by the heads alone.
--   Stands H m        node m lies in the table and has at most eleven entries
--   fan H m           its edges, one more than its entries
--   Reached H h m     so do all nodes under it, down to the leaves at height 0
--   count H h m       how many entries these have
--   Counted H h m n   n entries stand under node m
use Rattle.std.specs.Prelude.{◌≡◌, ℕ, zero, suc, ◌+◌, ◌<◌, ◌≤◌, List, length, All}
use Rattle.node.specs.declared.head.Head.{Head}
use Rattle.node.specs.Cells.{span}
use Rattle.node.specs.Shape.{total}
use Rattle.node.specs.Store.{head_in}

pub record Stands (H : List Head) (m : ℕ) : Type 0 where
  pub inside : m < length H
  pub few : (head_in H m).len ≤ 11

abbrev pub fan : List Head → ℕ → List ℕ
fan H m = span (head_in H m).edges 0 ((head_in H m).len + 1)

unfoldable pub Reached : List Head → ℕ → ℕ → Type 0
Reached H zero m = Stands H m
Reached H (suc h) m = Stands H m × All (Reached H h) (fan H m)

unfoldable pub count : List Head → ℕ → ℕ → ℕ
count H zero m = (head_in H m).len
count H (suc h) m = (head_in H m).len + total (count H h) (fan H m)

pub record Counted (H : List Head) (h m n : ℕ) : Type 0 where
  pub reached : Reached H h m
  pub count_is : count H h m ≡ n
