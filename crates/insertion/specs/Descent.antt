-- Insertion from a node down, as the code performs it in tables and supply.
--   TookFor      a number is taken, or refused where fewer than `needed` may be
--   Comes        what came of child i of a node: nothing in a leaf; above, the old child's tree and a new one at c to its right
--   Settles      an entry put at index i into node m, which is split where it is full
--   need_at       how many nodes an insertion below a node takes, where its ancestors would take `above` if it were split
--   Descends     an entry put in under node m: a value replaced, or room made, or refused with nothing changed
--   above_child  what the ancestors of a child would take, if it were split
--   Bare         node n is no root of a tree whose nodes are out
--   Lowered      from node n down to m, where the search came to r: what comes of an insertion under m comes of it under n
use Rattle.std.specs.Prelude.{◌≡◌, ℕ, suc, ◌+◌, ◌-◌, ◌<◌, ◌≤◌, Bool, cond, List, [], ◌∷◌, length, Some, None, Ok, Err, All, Result, MatchResult, nat_le, nat_lt}
use Rattle.std.specs.declared.cmp.Ordering.{Ordering}
use Rattle.std.specs.Ordering.{is_gt}
use Rattle.supply.specs.declared.faults.Fault.{Fault}
use Rattle.supply.specs.declared.faults.Fault.TheVariants.{Short}
use Rattle.supply.specs.Stocks.{Stock, size_of, Given}
use Rattle.order.specs.declared.search.SearchResult.{SearchResult}
use Rattle.node.specs.declared.nodes.NodeRef.{NodeRef}
use Rattle.node.specs.Shape.{Tree, number, mk}
use Rattle.node.specs.Store.{Tables, Sized, Holds, SameLink, first, second}
use Rattle.node.specs.Laws.{occurs}
use Rattle.node.specs.Rules.{settle}
use Rattle.node.specs.Balance.{mark, Owns, Beside, Unchanged}
use Rattle.rules.specs.Rules.{grow, run}
use Rattle.map.specs.Lookup.{seek, SearchedIn}
use Rattle.map.specs.Replacing.{amend}
use Rattle.insertion.specs.declared.descent.InsertResult.{InsertResult}
use Rattle.insertion.specs.declared.descent.InsertResult.TheVariants.{Replaced}
use Rattle.insertion.specs.Grew.{Grew, seated, coming, members}

abbrev pub TookFor : Stock → Stock → ℕ → Result ℕ Fault → Type 0
TookFor S S' needed r = MatchResult r (λ n. Given S S' n × (needed ≤ S.allowance)) (λ f. (S.allowance < needed) × (f ≡ Short needed S.allowance) × (S' ≡ S))

pub record Comes {E : Type 0} (h i c : ℕ) (new ks : List (Tree E)) : Type 0 where
  pub leaf : h ≡ 0 → (new ≡ []) × (ks ≡ [])
  pub inner : 0 < h → (l : Tree E) × (r : Tree E) × (new ≡ l ∷ r ∷ []) × (number r ≡ c) × (i < length ks)

-- with room nothing is taken; a full node takes one, if one more than `above` may be taken
pub record Settled {K V : Type 0} (T T' : Tables K V) (S S' : Stock) (h m i : ℕ) (e : K × V) (above : ℕ) (es : List (K × V)) (ks new : List (Tree (K × V))) (r : Result (InsertResult K V) Fault) : Type 0 where
  pub fits : length es < 11 → (fresh : ℕ) → Grew T T' S S' (members h m (seated i new ks) (coming new)) h m (settle fresh m i es ks e new) 0 r
  pub declined : 11 ≤ length es → S.allowance < above + 1 → (r ≡ Err (Short (above + 1) S.allowance)) × Unchanged T T' S S'
  pub splits : 11 ≤ length es → above + 1 ≤ S.allowance → (fresh : ℕ) × Grew T T' S S' (members h m (seated i new ks) (coming new)) h m (settle fresh m i es ks e new) 1 r

unfoldable pub Settles : {K V : Type 0} → Tables K V → Tables K V → Stock → Stock → ℕ → ℕ → ℕ → (K × V) → ℕ → ℕ → Result (InsertResult K V) Fault → Type 0
Settles {K} {V} T T' S S' h m i e c above r =
    (es : List (K × V)) (ks new : List (Tree (K × V))) → Sized T → size_of S ≡ length T.heads → Holds T h (mk m es (seated i new ks)) → All (Holds T (h - 1)) (coming new)
    → i ≤ length es → Comes h i c new ks → ((x : ℕ) → members h m (seated i new ks) (coming new) x ≤ mark S x)
    → Settled T T' S S' h m i e above es ks new r

abbrev pub need_at : {E : Type 0} → (E → Bool) → ℕ → Tree E → ℕ → ℕ
need_at b h t above = run b h t + cond (nat_le (suc h) (run b h t)) above 0

abbrev pub above_child : ℕ → ℕ → ℕ
above_child len above = cond (nat_lt len 11) 0 (above + 1)

-- the value of the entry that the lookup finds is replaced, and all else is as it was
pub record Swapped {K V : Type 0} (place : (K × V) → Ordering) (T T' : Tables K V) (S S' : Stock) (h : ℕ) (v : V) (t : Tree (K × V)) : Type 0 where
  pub held : Holds T' h (amend (λ y. (first y, v)) place h t)
  pub stock_same : S' ≡ S
  pub beside : Beside T T' S (λ x. occurs x h t)
  pub link : SameLink T T' (number t)

pub record Descended {K V : Type 0} (place : (K × V) → Ordering) (T T' : Tables K V) (S S' : Stock) (h : ℕ) (e : K × V) (above : ℕ) (t : Tree (K × V)) (r : Result (InsertResult K V) Fault) : Type 0 where
  pub replaced : (x : K × V) → seek place h t ≡ Some x → (r ≡ Ok (Replaced (second x))) × Swapped place T T' S S' h (second e) t
  pub declined : seek place h t ≡ None → S.allowance < need_at (λ y. is_gt (place y)) h t above
      → (r ≡ Err (Short (need_at (λ y. is_gt (place y)) h t above) S.allowance)) × Unchanged T T' S S'
  pub granted : seek place h t ≡ None → need_at (λ y. is_gt (place y)) h t above ≤ S.allowance
      → (fresh : ℕ → ℕ) × Grew T T' S S' (λ x. occurs x h t) h (number t) (grow fresh (λ y. is_gt (place y)) e h t) (run (λ y. is_gt (place y)) h t) r

unfoldable pub Descends : {K V : Type 0} → (K → Ordering) → Tables K V → Tables K V → Stock → Stock → ℕ → ℕ → (K × V) → ℕ → Result (InsertResult K V) Fault → Type 0
Descends {K} {V} place T T' S S' h m e above r = (t : Tree (K × V)) → Owns T S h t → number t ≡ m → Descended (λ y. place (first y)) T T' S S' h e above t r

abbrev pub Bare : {K V : Type 0} → Tables K V → NodeRef → Type 0
Bare {K} {V} T n = (S : Stock) (t : Tree (K × V)) → Owns T S n.height t → number t ≡ n.node → ⊥

-- the ancestors of n would take `above`, and those of m `higher`
pub record Lowered {K V : Type 0} (place : K → Ordering) (T : Tables K V) (n : NodeRef) (above : ℕ) (m : NodeRef) (higher : ℕ) (r : SearchResult) : Type 0 where
  pub low : m.height ≤ n.height
  pub made : ℕ
  pub searched : SearchedIn place T m.node r made
  pub under : (S : Stock) (t : Tree (K × V)) → Owns T S n.height t → number t ≡ n.node → (u : Tree (K × V)) × Owns T S m.height u × (number u ≡ m.node)
  pub leads : (T' : Tables K V) (S S' : Stock) (e : K × V) (x : Result (InsertResult K V) Fault)
      → Descends place T T' S S' m.height m.node e higher x → Descends place T T' S S' n.height n.node e above x
