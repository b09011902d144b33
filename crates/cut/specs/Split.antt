-- A tree cut in two, in tables and supply.
--   CountsBoth    where n and m entries stand under two nodes, together as many as are given, both are answered
--   left_of, right_of    the two parts of a tree, with their heights, at the query that `place` compares with
--   Halved        the tables hold both parts, roots both; the supply has given what they have more than t, and all else that is out is as it was
--   Halves        so it is with h + 1 numbers left to take; with fewer nothing is done
--   SplitsOff     so it is of a tree of `count` entries, with the lengths of both parts; of an empty one nothing is done
use Rattle.node.specs.Kinds.{root_of}
use Rattle.std.specs.Prelude.{◌≡◌, ℕ, ◌+◌, ◌<◌, ◌≤◌, List, length, Some, None, Ok, Err, Result}
use Rattle.std.specs.declared.cmp.Ordering.{Ordering}
use Rattle.supply.specs.declared.faults.Fault.{Fault}
use Rattle.supply.specs.declared.faults.Fault.TheVariants.{Short}
use Rattle.supply.specs.Stocks.{Stock}
use Rattle.node.specs.declared.head.Head.{Head}
use Rattle.node.specs.declared.nodes.NodeRef.{NodeRef}
use Rattle.node.specs.Shape.{Tree, number, flat, Formed}
use Rattle.node.specs.Store.{Tables, Holds, first}
use Rattle.node.specs.Counts.{Counted}
use Rattle.node.specs.Laws.{occurs}
use Rattle.node.specs.Balance.{Owns, Rooted, Balanced, Beside, Unchanged}
use Rattle.parts.specs.Rules.{left_part, right_part, cuts}
use Rattle.cut.specs.declared.split.Cut.{Cut}
use Rattle.cut.specs.Descent.{beneath}

abbrev pub CountsBoth : List Head → NodeRef → NodeRef → ℕ → Result (ℕ × ℕ) Fault → Type 0
CountsBoth H l r count res =
    (n m : ℕ) → Counted H l.height l.node n → Counted H r.height r.node m → l.height ≤ 5 → r.height ≤ 5 → count ≡ n + m → res ≡ Ok (n, m)

module _ {K V : Type 0} (place : K → Ordering) where
  abbrev pub left_of : ℕ → Tree (K × V) → ℕ × Tree (K × V)
  left_of h t = left_part (beneath place) h t

  abbrev pub right_of : (ℕ → ℕ) → ℕ → Tree (K × V) → ℕ × Tree (K × V)
  right_of fresh h t = right_part fresh (beneath place) h t

  -- the comparisons
  abbrev pub made_of : ℕ → Tree (K × V) → ℕ
  made_of h t = cuts (λ e. place (first e)) h t

pub record Halved {K V : Type 0} (T T' : Tables K V) (S S' : Stock) (h : ℕ) (t : Tree (K × V)) (l r : ℕ × Tree (K × V)) : Type 0 where
  pub left : Holds T' l.0 l.1
  pub right : Holds T' r.0 r.1
  pub left_root : Rooted T' (number l.1)
  pub right_root : Rooted T' (number r.1)
  pub balanced : Balanced S S' (λ x. occurs x h t) (λ x. occurs x l.0 l.1 + occurs x r.0 r.1)
  pub beside : Beside T T' S (λ x. occurs x h t)

-- fresh: the numbers taken, by height
pub record HalvesAt {K V : Type 0} (place : K → Ordering) (T T' : Tables K V) (S S' : Stock) (h : ℕ) (t : Tree (K × V)) (res : Result (NodeRef × NodeRef × ℕ) Fault) : Type 0 where
  pub fresh : ℕ → ℕ
  pub answer : res ≡ Ok (root_of (left_of place h t), root_of (right_of place fresh h t), made_of place h t)
  pub halved : Halved T T' S S' h t (left_of place h t) (right_of place fresh h t)

pub record HalvesOr {K V : Type 0} (place : K → Ordering) (T T' : Tables K V) (S S' : Stock) (h : ℕ) (t : Tree (K × V)) (res : Result (NodeRef × NodeRef × ℕ) Fault) : Type 0 where
  pub declined : S.allowance < h + 1 → (res ≡ Err (Short (h + 1) S.allowance)) × Unchanged T T' S S'
  pub granted : h + 1 ≤ S.allowance → HalvesAt place T T' S S' h t res

unfoldable pub Halves : {K V : Type 0} → (K → Ordering) → Tables K V → Tables K V → Stock → Stock → ℕ → ℕ → Result (NodeRef × NodeRef × ℕ) Fault → Type 0
Halves {K} {V} place T T' S S' h m res = (t : Tree (K × V)) → Owns T S h t → number t ≡ m → Rooted T m → h ≤ 5 → HalvesOr place T T' S S' h t res

-- both parts, with the lengths of their lists
pub record Split {K V : Type 0} (place : K → Ordering) (T T' : Tables K V) (S S' : Stock) (h : ℕ) (t : Tree (K × V)) (res : Result Cut Fault) : Type 0 where
  pub fresh : ℕ → ℕ
  pub answer : res ≡ Ok (record {
    parts = Some (root_of (left_of place h t), root_of (right_of place fresh h t));
    counts = (length (flat (left_of place h t).0 (left_of place h t).1), length (flat (right_of place fresh h t).0 (right_of place fresh h t).1), made_of place h t);
  })
  pub halved : Halved T T' S S' h t (left_of place h t) (right_of place fresh h t)

pub record SplitOr {K V : Type 0} (place : K → Ordering) (T T' : Tables K V) (S S' : Stock) (h : ℕ) (t : Tree (K × V)) (count : ℕ) (res : Result Cut Fault) : Type 0 where
  pub empty : count ≡ 0 → (res ≡ Ok (record { parts = None; counts = (0, 0, 0) })) × Unchanged T T' S S'
  pub declined : 0 < count → S.allowance < h + 1 → (res ≡ Err (Short (h + 1) S.allowance)) × Unchanged T T' S S'
  pub granted : 0 < count → h + 1 ≤ S.allowance → Split place T T' S S' h t res

unfoldable pub SplitsOff : {K V : Type 0} → (K → Ordering) → Tables K V → Tables K V → Stock → Stock → ℕ → ℕ → ℕ → Result Cut Fault → Type 0
SplitsOff {K} {V} place T T' S S' h m count res =
    (t : Tree (K × V)) → Owns T S h t → number t ≡ m → Rooted T m → Formed h t → count ≡ length (flat h t) → SplitOr place T T' S S' h t count res
