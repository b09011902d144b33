-- A tree of which the tables hold more than is shown. On the way to the edge at the front, a node lacks what stands before that way; on the
-- way to the edge at the back, what stands behind it. All else is shown whole, and each inner node shows one child more than entries.
--   Bounds             the edges at the front and at the back that lie under a node, if they do
--   bound s b          one of the two
--   put s e b          the two with another in the place of that one
--   only s b           that one alone
--   outer s us vs      what is not shown on that side
--   edge_at s a n      the index of the edge at that end of a row of n entries that begins at a
--   Pane T least b t   the tables hold the node of t with the entries us before its row and vs behind it, and so for the edges
--   Leafs, Inner       the same of a leaf, and of a node above the leaves
--   Among P b ks       P of each of the children ks, of which the first has the front's edge and the last the back's
--   Shown T least b h t   the tables hold the tree of height h that t shows between the bounds b; its nodes have at least 4 entries in the
--                      tables, and the top at least `least`
use Rattle.std.specs.Prelude.{◌≡◌, ℕ, zero, suc, ◌+◌, ◌≤◌, List, [], ◌∷◌, ◌++◌, length, Some, None, Option}
use Rattle.node.specs.declared.ends.Handle.{Handle}
use Rattle.node.specs.declared.ends.Side.{Side}
use Rattle.node.specs.declared.ends.Side.TheVariants.{First, Last}
use Rattle.node.specs.Shape.{Tree, number, row, kids}
use Rattle.node.specs.Store.{Tables, Node, Linked, numbers}
use Rattle.walk.specs.Climbs.{handle}

pub record Bounds : Type 0 where
  pub front : Option Handle
  pub back : Option Handle

abbrev pub bounds : Option Handle → Option Handle → Bounds
bounds e f = record { front = e; back = f }

abbrev pub bound : Side → Bounds → Option Handle
bound First b = b.front
bound Last b = b.back

abbrev pub put : Side → Option Handle → Bounds → Bounds
put First e b = bounds e b.back
put Last e b = bounds b.front e

abbrev pub only : Side → Bounds → Bounds
only First b = bounds b.front None
only Last b = bounds None b.back

abbrev pub outer : {X : Type 0} → Side → List X → List X → List X
outer First us vs = us
outer Last us vs = vs

abbrev pub edge_at : Side → ℕ → ℕ → ℕ
edge_at First a n = a
edge_at Last a n = a + n

pub record Pane {K V : Type 0} (T : Tables K V) (least : ℕ) (b : Bounds) (t : Tree (K × V)) : Type 0 where
  pub us : List (K × V)
  pub vs : List (K × V)
  pub ks : List ℕ
  pub ls : List ℕ
  pub node_is : Node T (number t) (us ++ (row t ++ vs)) (ks ++ (numbers t ++ ls))
  pub enough : least ≤ length (us ++ (row t ++ vs))
  pub whole : (s : Side) → bound s b ≡ None → length (outer s us vs) ≡ 0

-- an edge that lies here is the one at that end of what is shown
pub record Leafs {K V : Type 0} (T : Tables K V) (least : ℕ) (b : Bounds) (t : Tree (K × V)) : Type 0 where
  pub pane : Pane T least b t
  pub bare : length (kids t) ≡ 0
  pub no_edges : length pane.ks + length pane.ls ≡ 0
  pub here : (s : Side) (e : Handle) → bound s b ≡ Some e → e ≡ handle (number t) (edge_at s (length pane.us) (length (row t)))

pub record Inner {K V : Type 0} (T : Tables K V) (least : ℕ) (b : Bounds) (t : Tree (K × V)) : Type 0 where
  pub pane : Pane T least b t
  pub fan : length (kids t) ≡ suc (length (row t))
  pub before : length pane.ks ≡ length pane.us
  pub behind : length pane.ls ≡ length pane.vs
  pub linked : Linked T (number t) (length pane.us) (numbers t)

abbrev pub Among : {X : Type 0} → (Bounds → X → Type 0) → Bounds → List X → Type 0
Among P b [] = Unit {0}
Among P b (k ∷ []) = P b k
Among P b (k ∷ (k' ∷ ks)) = P (only First b) k × Among P (only Last b) (k' ∷ ks)

unfoldable pub Shown : {K V : Type 0} → Tables K V → ℕ → Bounds → ℕ → Tree (K × V) → Type 0
Shown T least b zero t = Leafs T least b t
Shown T least b (suc h) t = Inner T least b t × Among (λ c k. Shown T 4 c h k) b (kids t)
