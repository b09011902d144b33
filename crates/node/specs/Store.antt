-- What the three tables of a caller hold.
--   Tables            heads, keys and values; the rows of node m begin at cell 11 · m, so that its i-th key and value are i cells on
--   Sized             at most 4096 heads, and eleven keys and eleven values for each
--   Node T m es ks    node m holds the entries es and the edges ks
--   Link T p i c      node c names p as its parent and i as its place among p's edges
--   Linked T p i cs   so do all of cs, from place i on
--   SameBody, SameLink  a node has the same entries and edges, the same parent and place, in both
--   Changed T T' bs ls  at most the nodes bs have other bodies, and at most ls other links
--   Holds T h t       the tables hold the tree t, of height h, at the number of its root; the root's own link is left open
use Rattle.std.specs.Prelude.{◌≡◌, ℕ, zero, suc, ◌+◌, ◌*◌, ◌<◌, ◌≤◌, cond, List, [], ◌∷◌, map, length, All, ◌==◌, slice_index, slice_index_or}
use Rattle.node.specs.declared.head.Head.{Head}
use Rattle.node.specs.Cells.{span, Run}
use Rattle.node.specs.Shape.{Tree, number, row, kids}

pub record Tables (K V : Type 0) : Type 0 where
  pub heads : List Head
  pub keys : List K
  pub values : List V

abbrev pub tables : {K V : Type 0} → List Head → List K → List V → Tables K V
tables hs ks vs = record { heads = hs; keys = ks; values = vs }

abbrev pub no_head : Head
no_head = record { parent = 0; place = 0; len = 0; edges = [] }

abbrev pub head_in : List Head → ℕ → Head
head_in hs m = slice_index_or hs m no_head

abbrev pub head_at : {K V : Type 0} → Tables K V → ℕ → Head
head_at T m = head_in T.heads m

-- the key and the value of an entry
abbrev pub first : {K V : Type 0} → (K × V) → K
first e = e.0

abbrev pub second : {K V : Type 0} → (K × V) → V
second e = e.1

abbrev pub itself : ℕ → ℕ
itself n = n

pub record Sized {K V : Type 0} (T : Tables K V) : Type 0 where
  pub most : length T.heads ≤ 4096
  pub keys_room : length T.keys ≡ 11 * length T.heads
  pub values_room : length T.values ≡ 11 * length T.heads

pub record Node {K V : Type 0} (T : Tables K V) (m : ℕ) (es : List (K × V)) (ks : List ℕ) : Type 0 where
  pub inside : m < length T.heads
  pub few : length es ≤ 11
  pub len_is : (head_at T m).len ≡ length es
  pub keys_are : Run first T.keys (11 * m) es
  pub values_are : Run second T.values (11 * m) es
  pub edges_are : Run itself (head_at T m).edges 0 ks

pub record Link {K V : Type 0} (T : Tables K V) (p i c : ℕ) : Type 0 where
  pub parent_is : (head_at T c).parent ≡ p
  pub place_is : (head_at T c).place ≡ i

abbrev pub Linked : {K V : Type 0} → Tables K V → ℕ → ℕ → List ℕ → Type 0
Linked T p i cs = (j : ℕ) → j < length cs → Link T p (i + j) (slice_index cs j)

pub record SameBody {K V : Type 0} (T T' : Tables K V) (x : ℕ) : Type 0 where
  pub len_same : (head_at T' x).len ≡ (head_at T x).len
  pub edges_same : (head_at T' x).edges ≡ (head_at T x).edges
  pub keys_same : span T'.keys (11 * x) 11 ≡ span T.keys (11 * x) 11
  pub values_same : span T'.values (11 * x) 11 ≡ span T.values (11 * x) 11

pub record SameLink {K V : Type 0} (T T' : Tables K V) (x : ℕ) : Type 0 where
  pub parent_same : (head_at T' x).parent ≡ (head_at T x).parent
  pub place_same : (head_at T' x).place ≡ (head_at T x).place

-- how often x stands in a list
abbrev pub times : ℕ → List ℕ → ℕ
times x [] = 0
times x (y ∷ ys) = cond (x == y) 1 0 + times x ys

-- no number stands twice in a list
abbrev pub Once : List ℕ → Type 0
Once xs = (x : ℕ) → times x xs ≤ 1

pub record Changed {K V : Type 0} (T T' : Tables K V) (bs ls : List ℕ) : Type 0 where
  pub heads_len : length T'.heads ≡ length T.heads
  pub keys_len : length T'.keys ≡ length T.keys
  pub values_len : length T'.values ≡ length T.values
  pub bodies : (x : ℕ) → times x bs ≡ 0 → SameBody T T' x
  pub links : (x : ℕ) → times x ls ≡ 0 → SameLink T T' x

-- the numbers of a tree's children
abbrev pub numbers : {E : Type 0} → Tree E → List ℕ
numbers t = map number (kids t)

unfoldable pub Holds : {K V : Type 0} → Tables K V → ℕ → Tree (K × V) → Type 0
Holds T zero t = Node T (number t) (row t) [] × (length (kids t) ≡ 0)
Holds T (suc h) t =
    Node T (number t) (row t) (numbers t)
    × (length (kids t) ≡ suc (length (row t)))
    × Linked T (number t) 0 (numbers t)
    × All (Holds T h) (kids t)
