-- Walks over the entries of a tree.
--   end_of s w         the edge at one end of a walk
--   moved s e w        the walk with another edge there, and one entry less left
--   no_walk            a walk over nothing, as it is opened where there is no root
--   Nodeless w         no node is left of a walk: both its leaves are null, and no entry is left; the indices of its edges are free
--   Walks T S h t w    the tables hold the tree that t shows between the edges of w, its nodes are out, and w knows how many entries it has
--   Hands              a step hands out the entry at its end; the nodes that are left behind go back
--   Stepped            what a step answers
--   StandsAt           what a reading of an entry answers
--   Standing           the tables hold a formed tree of so many entries under a root, and its nodes are out
--   Opened             a walk over all entries of a tree
--   Opens              what opening answers
--   Emptied            what steps until none is left come to
--   Closes             what closing answers: no node of the walk is out any more
--   Releases           what the release of a tree answers
use Rattle.std.specs.Prelude.{◌≡◌, ℕ, ◌+◌, ◌-◌, ◌*◌, ◌<◌, ◌≤◌, true, List, ◌∷◌, ◌++◌, length, is_err, IfOk, Some, None, Ok, Option, Result, OnOk}
use Rattle.supply.specs.declared.faults.Fault.{Fault}
use Rattle.supply.specs.Stocks.{Stock, size_of}
use Rattle.node.specs.declared.ends.Handle.{Handle}
use Rattle.node.specs.declared.ends.Side.{Side}
use Rattle.node.specs.declared.ends.Side.TheVariants.{First, Last}
use Rattle.node.specs.declared.nodes.NodeRef.{NodeRef}
use Rattle.node.specs.Balance.{mark, Owns, Balanced, Rooted}
use Rattle.node.specs.Ends.{tree_edge}
use Rattle.node.specs.Laws.{occurs}
use Rattle.node.specs.Shape.{Tree, number, flat, Formed, root_least}
use Rattle.node.specs.Store.{Tables, Sized, Node}
use Rattle.walk.specs.declared.climb.Spot.{Spot}
use Rattle.walk.specs.declared.walks.Walk.{Walk}
use Rattle.node.specs.Breaches.{Breached}
use Rattle.walk.specs.Climbs.{handle}
use Rattle.walk.specs.Steps.{cons, step}
use Rattle.walk.specs.Window.{bounds, Shown}

abbrev pub end_of : Side → Walk → Handle
end_of First w = w.front
end_of Last w = w.back

abbrev pub moved : Side → Handle → Walk → Walk
moved First e w = record { front = e; back = w.back; left = w.left - 1 }
moved Last e w = record { front = w.front; back = e; left = w.left - 1 }

abbrev pub no_walk : Walk
no_walk = record { front = handle 65535 0; back = handle 65535 0; left = 0 }

pub record Nodeless (w : Walk) : Type 0 where
  pub front_null : w.front.node ≡ 65535
  pub back_null : w.back.node ≡ 65535
  pub none_left : w.left ≡ 0

pub record Walks {K V : Type 0} (T : Tables K V) (S : Stock) (h : ℕ) (t : Tree (K × V)) (w : Walk) : Type 0 where
  pub sized : Sized T
  pub fits : size_of S ≡ length T.heads
  pub low : h ≤ 5
  pub shown : Shown T (root_least h) (bounds (Some w.front) (Some w.back)) h t
  pub owned : (x : ℕ) → occurs x h t ≤ mark S x
  pub rooted : Rooted T (number t)
  pub counted : w.left ≡ length (flat h t)

pub record Hands {K V : Type 0} (s : Side) (T : Tables K V) (S S' : Stock) (h : ℕ) (t : Tree (K × V)) (w' : Walk) (r : Result (Option (K × V)) Fault) : Type 0 where
  pub entry : K × V
  pub rest : Tree (K × V)
  pub answer : r ≡ Ok (Some entry)
  pub step_is : step s h t ≡ Some (entry, rest)
  pub walks : Walks T S' h rest w'
  pub balanced : Balanced S S' (λ x. occurs x h t) (λ x. occurs x h rest)
  -- this follows, and is here for callers
  pub flat_is : flat h t ≡ cons s entry (flat h rest)

pub record Stepped {K V : Type 0} (s : Side) (T : Tables K V) (S S' : Stock) (w w' : Walk) (r : Result (Option (K × V)) Fault) : Type 0 where
  pub fault : Breached r
  pub none_left : w.left ≡ 0 → (r ≡ Ok None) × (w' ≡ w) × (S' ≡ S)
  pub one_less : 0 < w.left → OnOk r (w.left ≡ w'.left + 1)
  pub kept : is_err r ≡ true → w' ≡ w
  pub hands : (h : ℕ) (t : Tree (K × V)) → Walks T S h t w → 0 < w.left → Hands s T S S' h t w' r

abbrev pub StandsAt : {K V : Type 0} → Tables K V → Spot → Result (K × V) Fault → Type 0
StandsAt {K} {V} T p r = (us vs : List (K × V)) (x : K × V) (cs : List ℕ) → Sized T → Node T p.node (us ++ x ∷ vs) cs → length us ≡ p.idx → r ≡ Ok x

pub record Standing {K V : Type 0} (T : Tables K V) (S : Stock) (root : NodeRef) (count : ℕ) (t : Tree (K × V)) : Type 0 where
  pub owns : Owns T S root.height t
  pub formed : Formed root.height t
  pub number_is : number t ≡ root.node
  pub rooted : Rooted T (number t)
  pub count_is : count ≡ length (flat root.height t)

pub record Opened {K V : Type 0} (T : Tables K V) (S : Stock) (h : ℕ) (t : Tree (K × V)) (r : Result Walk Fault) : Type 0 where
  pub walk : Walk
  pub answer : r ≡ Ok walk
  pub walks : Walks T S h t walk
  pub front_is : walk.front ≡ tree_edge First h t
  pub back_is : walk.back ≡ tree_edge Last h t

pub record Opens {K V : Type 0} (T : Tables K V) (root : Option NodeRef) (count : ℕ) (r : Result Walk Fault) : Type 0 where
  pub fault : Breached r
  pub none : root ≡ None → r ≡ Ok no_walk
  pub some : (n : NodeRef) → root ≡ Some n → (S : Stock) (t : Tree (K × V)) → Standing T S n count t → Opened T S n.height t r

pub record Emptied {K V : Type 0} (T : Tables K V) (S S' : Stock) (w w' : Walk) (r : Result ℕ Fault) : Type 0 where
  pub fault : Breached r
  pub none_left : w.left ≡ 0 → (r ≡ Ok 0) × (w' ≡ w) × (S' ≡ S)
  pub all : IfOk r (λ n. n ≡ w.left)
  pub held : (h : ℕ) (t : Tree (K × V)) → Walks T S h t w
      → (r ≡ Ok (length (flat h t))) × ((t' : Tree (K × V)) × Walks T S' h t' w' × (w'.left ≡ 0) × Balanced S S' (λ x. occurs x h t) (λ x. occurs x h t'))

pub record Closes {K V : Type 0} (T : Tables K V) (S S' : Stock) (w : Walk) (r : Result ℕ Fault) : Type 0 where
  pub fault : Breached r
  pub none : Nodeless w → (r ≡ Ok 0) × (S' ≡ S)
  pub all : IfOk r (λ n. n ≡ w.left)
  pub few : IfOk r (λ n. n ≤ 11 * length T.heads)
  pub held : (h : ℕ) (t : Tree (K × V)) → Walks T S h t w → (r ≡ Ok (length (flat h t))) × Balanced S S' (λ x. occurs x h t) (λ _. 0)

pub record Releases {K V : Type 0} (T : Tables K V) (S S' : Stock) (root : Option NodeRef) (count : ℕ) (r : Result ℕ Fault) : Type 0 where
  pub fault : Breached r
  pub none : root ≡ None → (r ≡ Ok 0) × (S' ≡ S)
  pub some : (n : NodeRef) → root ≡ Some n → (t : Tree (K × V)) → Standing T S n count t → (r ≡ Ok count) × Balanced S S' (λ x. occurs x n.height t) (λ _. 0)
