-- What the audit answers.
--   Agrees T size S    the tables fit together, have so many nodes, and the supply as many numbers if there are any
--   Marked m m' w      the marks m' are those of m, and w
--   Unmarked m w       each number has one mark at most in m and w together
--   ancestor H n m     the node n levels above node m
--   node_ref m h       a node by its number and height
--   Leads H n m h r    the answer is that node, at height h
--   Showing            the tables show a tree under a root, between the bounds, of so many entries, in the order of their keys
--   TreeSound          there is such a tree, and its nodes are met afterwards besides those that were
--   TreeWhole          where there is such a tree, of nodes that were not met, the answer is yes, and they are met afterwards
--   PlaceSound, PlaceWhole    the same of a book in a place of tables that fit together
--   Held               each place holds its book
--   PlacesSound, PlacesWhole  the same of a book in each of some places
use Rattle.std.specs.Prelude.{◌≡◌, ℕ, zero, suc, ◌+◌, ◌<◌, ◌≤◌, Bool, true, List, length, Some, Option}
use Rattle.std.specs.declared.cmp.Ordering.{Ordering}
use Rattle.supply.specs.Stocks.{Stock, size_of}
use Rattle.node.specs.declared.head.Head.{Head}
use Rattle.node.specs.declared.nodes.NodeRef.{NodeRef}
use Rattle.node.specs.Laws.{occurs}
use Rattle.node.specs.Shape.{Tree, number, flat, total, root_least}
use Rattle.node.specs.Store.{Tables, Sized, head_in}
use Rattle.map.specs.Lookup.{InOrder}
use Rattle.walk.specs.Window.{Bounds, Shown}
use Rattle.books.specs.declared.places.Place.{Place}
use Rattle.books.specs.Books.{Book, book_in, uses, BookAt}
use Rattle.books.specs.Places.{place_in}
use Rattle.audit.specs.declared.marks.Met.{Met}
use Rattle.audit.specs.Marks.{weight}

pub record Agrees {K V : Type 0} (T : Tables K V) (size : ℕ) (S : Stock) : Type 0 where
  pub sized : Sized T
  pub size_is : size ≡ length T.heads
  pub fits : 0 < size → size_of S ≡ size

abbrev pub Marked : Met → Met → (ℕ → ℕ) → Type 0
Marked m m' w = (x : ℕ) → weight m' x ≡ weight m x + w x

abbrev pub Unmarked : Met → (ℕ → ℕ) → Type 0
Unmarked m w = (x : ℕ) → weight m x + w x ≤ 1

unfoldable pub ancestor : List Head → ℕ → ℕ → ℕ
ancestor H zero m = m
ancestor H (suc n) m = ancestor H n (head_in H m).parent

abbrev pub node_ref : ℕ → ℕ → NodeRef
node_ref m h = record { node = m; height = h }

abbrev pub Leads : List Head → ℕ → ℕ → ℕ → Option NodeRef → Type 0
Leads H n m h r = r ≡ Some (node_ref (ancestor H n m) h)

pub record Showing {K V : Type 0} (compares : K → K → Ordering) (T : Tables K V) (b : Bounds) (root : NodeRef) (count : ℕ) (t : Tree (K × V)) : Type 0 where
  pub number_is : number t ≡ root.node
  pub shown : Shown T (root_least root.height) b root.height t
  pub count_is : count ≡ length (flat root.height t)
  pub in_order : InOrder compares (flat root.height t)

abbrev pub TreeSound : {K V : Type 0} → (K → K → Ordering) → Tables K V → Bounds → NodeRef → ℕ → Met → Met → Type 0
TreeSound {K} {V} compares T b root count m m' = (t : Tree (K × V)) × Showing compares T b root count t × Marked m m' (λ x. occurs x root.height t)

abbrev pub TreeWhole : {K V : Type 0} → (K → K → Ordering) → Tables K V → Bounds → NodeRef → ℕ → Met → Met → Bool → Type 0
TreeWhole {K} {V} compares T b root count m m' r =
    (t : Tree (K × V)) → Sized T → Showing compares T b root count t → Unmarked m (λ x. occurs x root.height t) → (r ≡ true) × Marked m m' (λ x. occurs x root.height t)

abbrev pub PlaceSound : {K V : Type 0} → (K → K → Ordering) → Tables K V → Place → Met → Met → Type 0
PlaceSound {K} {V} compares T place m m' = Sized T × ((b : Book (K × V)) × BookAt compares T place b × Marked m m' (λ x. uses x b))

abbrev pub PlaceWhole : {K V : Type 0} → (K → K → Ordering) → Tables K V → Place → Met → Met → Bool → Type 0
PlaceWhole {K} {V} compares T place m m' r =
    (b : Book (K × V)) → Sized T → BookAt compares T place b → Unmarked m (λ x. uses x b) → (r ≡ true) × Marked m m' (λ x. uses x b)

pub record Held {K V : Type 0} (compares : K → K → Ordering) (T : Tables K V) (ps : List Place) (bs : List (Book (K × V))) : Type 0 where
  pub many : length bs ≡ length ps
  pub each : (p : ℕ) → p < length ps → BookAt compares T (place_in ps p) (book_in bs p)

abbrev pub PlacesSound : {K V : Type 0} → (K → K → Ordering) → Tables K V → List Place → Met → Met → Type 0
PlacesSound {K} {V} compares T ps m m' = (bs : List (Book (K × V))) × Held compares T ps bs × Marked m m' (λ x. total (uses x) bs)

abbrev pub PlacesWhole : {K V : Type 0} → (K → K → Ordering) → Tables K V → List Place → Met → Met → Bool → Type 0
PlacesWhole {K} {V} compares T ps m m' r =
    (bs : List (Book (K × V))) → Sized T → Held compares T ps bs → Unmarked m (λ x. total (uses x) bs) → (r ≡ true) × Marked m m' (λ x. total (uses x) bs)
