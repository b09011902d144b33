-- Theorems on trees, and on tables that hold them.
--   occurs x h t   how often x numbers a node of t
--   below x h t    the same, of the nodes below the root
--   Distinct h t   no two nodes have one number
--   Inside N h t   all numbers are below N
--   Apart h t k s  no node of t has the number of a node of s
--   nodes h t      how many nodes there are
--   fewest h       the least number of nodes in a formed tree of height h that is not a root
--   Frame          tables that agree on the nodes of a tree, up to the link of its root, hold the same tree
--   FrameChanged   a change elsewhere leaves a tree as it is
--   FrameApart     of two trees that are apart, a change within the one leaves the other
--   HeldInside     every node of a tree lies in the tables that hold it
--   HeightBound    a tree of height h that holds anything holds at least 2 · 5^h - 1 entries
--   ManyNodes      a root above the leaves has two children at least, and a node below it five
--   FewNodes       where numbers are distinct and below N, there are at most N nodes
--   Low            with at most 4096 numbers no tree is higher than 5
--   HeldLow        nor is one in tables that fit together
--   Recount        the entries that are counted under the root are as many as the tree has in order
--   EndsAt         the first or the last edges lead to the first or the last leaf of the tree
--   EndsStand      so they do in tables that hold it
use Rattle.std.specs.Prelude.{◌≡◌, ℕ, zero, suc, ◌+◌, ◌*◌, ◌^◌, ◌<◌, ◌≤◌, cond, List, length, ◌==◌}
use Rattle.node.specs.Shape.{Tree, number, kids, flat, weigh, total, Formed}
use Rattle.node.specs.declared.ends.Side.{Side}
use Rattle.node.specs.Counts.{Counted}
use Rattle.node.specs.Ends.{Chain, end_edge, tree_edge}
use Rattle.node.specs.Store.{Tables, Sized, SameBody, SameLink, Changed, Holds, times}

abbrev pub same : ℕ → ℕ → ℕ
same x y = cond (x == y) 1 0

abbrev pub occurs : {E : Type 0} → ℕ → ℕ → Tree E → ℕ
occurs x h t = weigh (same x) h t

abbrev pub below : {E : Type 0} → ℕ → ℕ → Tree E → ℕ
below x zero t = 0
below x (suc h) t = total (occurs x h) (kids t)

abbrev pub Distinct : {E : Type 0} → ℕ → Tree E → Type 0
Distinct h t = (x : ℕ) → occurs x h t ≤ 1

abbrev pub Apart : {E : Type 0} → ℕ → Tree E → ℕ → Tree E → Type 0
Apart h t k s = (x : ℕ) → 0 < occurs x h t → 0 < occurs x k s → ⊥

abbrev pub Inside : {E : Type 0} → ℕ → ℕ → Tree E → Type 0
Inside N h t = (x : ℕ) → 0 < occurs x h t → x < N

abbrev pub nodes : {E : Type 0} → ℕ → Tree E → ℕ
nodes h t = weigh (λ _. 1) h t

abbrev pub fewest : ℕ → ℕ
fewest zero = 1
fewest (suc h) = 1 + 5 * fewest h

abbrev pub Frame : Type 0 → Type 0 → Type 0
Frame K V =
    (T T' : Tables K V) (h : ℕ) (t : Tree (K × V)) → length T'.heads ≡ length T.heads
    → ((x : ℕ) → 0 < occurs x h t → SameBody T T' x) → ((x : ℕ) → 0 < below x h t → SameLink T T' x)
    → Holds T h t → Holds T' h t

abbrev pub FrameChanged : Type 0 → Type 0 → Type 0
FrameChanged K V =
    (T T' : Tables K V) (bs ls : List ℕ) (h : ℕ) (t : Tree (K × V)) → Changed T T' bs ls
    → ((x : ℕ) → 0 < occurs x h t → times x bs ≡ 0) → ((x : ℕ) → 0 < below x h t → times x ls ≡ 0)
    → Holds T h t → Holds T' h t

abbrev pub FrameApart : Type 0 → Type 0 → Type 0
FrameApart K V =
    (T T' : Tables K V) (bs ls : List ℕ) (h : ℕ) (t : Tree (K × V)) (k : ℕ) (s : Tree (K × V)) → Apart h t k s → Changed T T' bs ls
    → ((x : ℕ) → 0 < times x bs + times x ls → 0 < occurs x k s)
    → Holds T h t → Holds T' h t

abbrev pub HeldInside : Type 0 → Type 0 → Type 0
HeldInside K V = (T : Tables K V) (h : ℕ) (t : Tree (K × V)) → Holds T h t → Inside (length T.heads) h t

abbrev pub HeightBound : Type 0 → Type 0
HeightBound E = (h : ℕ) (t : Tree E) → Formed h t → 1 ≤ length (flat h t) → 2 * 5 ^ h ≤ length (flat h t) + 1

abbrev pub ManyNodes : Type 0 → Type 0
ManyNodes E = (h : ℕ) (t : Tree E) → Formed (suc h) t → 1 + 2 * fewest h ≤ nodes (suc h) t

abbrev pub FewNodes : Type 0 → Type 0
FewNodes E = (N h : ℕ) (t : Tree E) → Distinct h t → Inside N h t → nodes h t ≤ N

abbrev pub Low : Type 0 → Type 0
Low E = (N h : ℕ) (t : Tree E) → Formed h t → Distinct h t → Inside N h t → N ≤ 4096 → h ≤ 5

abbrev pub HeldLow : Type 0 → Type 0 → Type 0
HeldLow K V = (T : Tables K V) (h : ℕ) (t : Tree (K × V)) → Sized T → Holds T h t → Formed h t → Distinct h t → h ≤ 5

abbrev pub Recount : Type 0 → Type 0 → Type 0
Recount K V = (T : Tables K V) (h : ℕ) (t : Tree (K × V)) → Holds T h t → Counted T.heads h (number t) (length (flat h t))

pub record EndsAt {K V : Type 0} (T : Tables K V) (s : Side) (h : ℕ) (t : Tree (K × V)) : Type 0 where
  pub chain : Chain s T.heads h (number t)
  pub edge_is : end_edge s T.heads h (number t) ≡ tree_edge s h t

abbrev pub EndsStand : Type 0 → Type 0 → Type 0
EndsStand K V = (T : Tables K V) (s : Side) (h : ℕ) (t : Tree (K × V)) → Holds T h t → EndsAt T s h t
