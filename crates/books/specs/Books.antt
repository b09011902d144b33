-- Books: what stands in the places of a bank, as trees of entries.
--   Book              a bare place; a tree with its height; a walk with the tree that it still shows, and its height; a walk without nodes
--   entries b         its list
--   weigh_in w b      the sum of the weights of its node numbers: at weight 1 for x alone, how often x is there
--   uses x b          how often x numbers one of its nodes
--   TreeAt            the tables hold a formed tree under a root, of so many entries, in the order of their keys
--   WalkAt            the tables show a tree between the edges of a walk, of as many entries as are left, in the order of their keys
--   BookAt            a place holds a book in the tables
use Rattle.std.specs.Prelude.{◌≡◌, ℕ, ◌≤◌, List, [], length, Some, slice_index_or}
use Rattle.std.specs.declared.cmp.Ordering.{Ordering}
use Rattle.node.specs.declared.nodes.NodeRef.{NodeRef}
use Rattle.node.specs.Balance.{Rooted}
use Rattle.node.specs.Kinds.{root_of}
use Rattle.node.specs.Laws.{same}
use Rattle.node.specs.Shape.{Tree, number, flat, weigh, Formed, root_least}
use Rattle.node.specs.Store.{Tables, Holds}
use Rattle.map.specs.Lookup.{InOrder}
use Rattle.walk.specs.declared.walks.Walk.{Walk}
use Rattle.walk.specs.Walks.{Nodeless}
use Rattle.walk.specs.Window.{bounds, Shown}
use Rattle.books.specs.declared.places.Place.{Place}
use Rattle.books.specs.declared.places.Place.TheVariants as Kind

pub data Book (E : Type 0) : Type 0 where
  bare : Book E
  planted : ℕ → Tree E → Book E
  walked : ℕ → Tree E → Book E
  idle : Book E

abbrev pub entries : {E : Type 0} → Book E → List E
entries bare = []
entries (planted h t) = flat h t
entries (walked h t) = flat h t
entries idle = []

abbrev pub weigh_in : {E : Type 0} → (ℕ → ℕ) → Book E → ℕ
weigh_in w bare = 0
weigh_in w (planted h t) = weigh w h t
weigh_in w (walked h t) = weigh w h t
weigh_in w idle = 0

abbrev pub uses : {E : Type 0} → ℕ → Book E → ℕ
uses x b = weigh_in (same x) b

abbrev pub book_in : {E : Type 0} → List (Book E) → ℕ → Book E
book_in bs p = slice_index_or bs p bare

pub record TreeAt {K V : Type 0} (compares : K → K → Ordering) (T : Tables K V) (root : NodeRef) (count h : ℕ) (t : Tree (K × V)) : Type 0 where
  pub root_is : root ≡ root_of (h, t)
  pub holds : Holds T h t
  pub formed : Formed h t
  pub rooted : Rooted T (number t)
  pub count_is : count ≡ length (flat h t)
  pub in_order : InOrder compares (flat h t)

pub record WalkAt {K V : Type 0} (compares : K → K → Ordering) (T : Tables K V) (w : Walk) (h : ℕ) (t : Tree (K × V)) : Type 0 where
  pub low : h ≤ 5
  pub shown : Shown T (root_least h) (bounds (Some w.front) (Some w.back)) h t
  pub rooted : Rooted T (number t)
  pub count_is : w.left ≡ length (flat h t)
  pub in_order : InOrder compares (flat h t)

pub data BookAt {K V : Type 0} (compares : K → K → Ordering) (T : Tables K V) : Place → Book (K × V) → Type 0 where
  at_bare : BookAt compares T Kind.Bare bare
  at_tree : {root : NodeRef} {count : ℕ} (h : ℕ) (t : Tree (K × V)) → TreeAt compares T root count h t → BookAt compares T (Kind.Tree root count) (planted h t)
  at_walk : {w : Walk} (h : ℕ) (t : Tree (K × V)) → WalkAt compares T w h t → BookAt compares T (Kind.Walk w) (walked h t)
  at_idle : {w : Walk} → Nodeless w → BookAt compares T (Kind.Walk w) idle

-- what stands in a place that holds such a book
abbrev pub tree_there : {K V : Type 0} {compares : K → K → Ordering} {T : Tables K V} {root : NodeRef} {count h : ℕ} {t : Tree (K × V)} → BookAt compares T (Kind.Tree root count) (planted h t) → TreeAt compares T root count h t
tree_there (at_tree h t a) = a

abbrev pub walk_there : {K V : Type 0} {compares : K → K → Ordering} {T : Tables K V} {w : Walk} {h : ℕ} {t : Tree (K × V)} → BookAt compares T (Kind.Walk w) (walked h t) → WalkAt compares T w h t
walk_there (at_walk h t a) = a

abbrev pub idle_there : {K V : Type 0} {compares : K → K → Ordering} {T : Tables K V} {w : Walk} → BookAt compares T (Kind.Walk w) idle → Nodeless w
idle_there (at_idle a) = a
