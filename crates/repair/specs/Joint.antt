-- Two neighbours among the children of a node, in tables and supply.
--   border s g       the tree at the border, of one or two
--   Neighbours       node p of height h holds the entries us, e and ws and the children as', l, r and bs, with numbers that are out, each once
--   Joined           these children and entries have become fill p us ws as' bs g; nothing else that is out has changed
--   Joins            what is done with the two is `joint`
use Rattle.std.specs.Prelude.{◌≡◌, ℕ, ◌<◌, List, ◌∷◌, ◌++◌, length, Ok, Result}
use Rattle.supply.specs.declared.faults.Fault.{Fault}
use Rattle.supply.specs.Stocks.{Stock}
use Rattle.node.specs.declared.ends.Side.{Side}
use Rattle.node.specs.declared.ends.Side.TheVariants.{First, Last}
use Rattle.node.specs.Shape.{Tree, number, mk}
use Rattle.node.specs.Store.{Tables, SameLink}
use Rattle.node.specs.Rules.{Grown, whole, parted, joint}
use Rattle.node.specs.Balance.{Owns}
use Rattle.parts.specs.Rules.{fill}
use Rattle.repair.specs.Repair.{Became}

abbrev pub border : {E : Type 0} → Side → Grown E → Tree E
border First (whole k) = k
border First (parted l x r) = l
border Last (whole k) = k
border Last (parted l x r) = r

-- a node p of height h, the entries us, e and ws, and the children as', l, r and bs
pub record Neighbours {K V : Type 0} (T : Tables K V) (S : Stock) (h p i : ℕ) (us : List (K × V)) (e : K × V) (ws : List (K × V)) (as' : List (Tree (K × V))) (l r : Tree (K × V)) (bs : List (Tree (K × V))) : Type 0 where
  pub above : 0 < h
  pub here : length us ≡ i
  pub edges_here : length as' ≡ i
  pub owns : Owns T S h (mk p (us ++ e ∷ ws) (as' ++ l ∷ r ∷ bs))

pub record Joined {K V : Type 0} (s : Side) (T T' : Tables K V) (S S' : Stock) (h p : ℕ) (us : List (K × V)) (e : K × V) (ws : List (K × V)) (as' : List (Tree (K × V))) (l r : Tree (K × V)) (bs : List (Tree (K × V)))
    (g : Grown (K × V)) (res : Result ℕ Fault) : Type 0 where
  pub answer : res ≡ Ok (number (border s g))
  pub became : Became T T' S S' h (mk p (us ++ e ∷ ws) (as' ++ l ∷ r ∷ bs)) h (fill p us ws as' bs g)
  pub link : SameLink T T' p

unfoldable pub Joins : {K V : Type 0} → Side → Tables K V → Tables K V → Stock → Stock → ℕ → ℕ → ℕ → Result ℕ Fault → Type 0
Joins {K} {V} s T T' S S' h p i res =
    (us : List (K × V)) (e : K × V) (ws : List (K × V)) (as' : List (Tree (K × V))) (l r : Tree (K × V)) (bs : List (Tree (K × V)))
    → Neighbours T S h p i us e ws as' l r bs
    → Joined s T T' S S' h p us e ws as' l r bs (joint s l e r) res
