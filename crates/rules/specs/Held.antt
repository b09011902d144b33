-- A node with its children in the tables, of either kind.
--   Held T h m es ts   node m of height h holds the entries es and has the children ts, which know their places; in a leaf there are none
--   HeldStands         the tables hold a tree where they hold its root with its children
use Rattle.std.specs.Prelude.{ℕ, ◌-◌, List, map, length, All}
use Rattle.node.specs.Shape.{Tree, number, row, kids, mk}
use Rattle.node.specs.Store.{Tables, Node, Linked, Holds}
use Rattle.node.specs.Operations.{Fan}

pub record Held {K V : Type 0} (T : Tables K V) (h m : ℕ) (es : List (K × V)) (ts : List (Tree (K × V))) : Type 0 where
  pub body : Node T m es (map number ts)
  pub fan : Fan h (length es) (length ts)
  pub linked : Linked T m 0 (map number ts)
  pub all : All (Holds T (h - 1)) ts

pub record HeldStands (K V : Type 0) : Type 0 where
  pub from : (T : Tables K V) (h : ℕ) (t : Tree (K × V)) → Holds T h t → Held T h (number t) (row t) (kids t)
  pub to : (T : Tables K V) (h m : ℕ) (es : List (K × V)) (ts : List (Tree (K × V))) → Held T h m es ts → Holds T h (mk m es ts)
