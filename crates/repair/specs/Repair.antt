-- The repair of a tree's border, in tables and supply.
--   Became       the tables hold u where they held t, the supply has back what t had and u has not, and all else that is out is as it was
--   Topped       so it is of a root, and of what is the root in its place
--   FixesTop     the roots without entries are taken off
--   Mends        the border at side s is mended, from a node down; the node keeps its number and its link
--   Repairs      the border of a root is repaired: its top, its border, and its top again
--   Strays       a root above the leaves that does not lie in the tables is refused, with nothing changed
use Rattle.node.specs.Kinds.{root_of}
use Rattle.std.specs.Prelude.{◌≡◌, ℕ, ◌<◌, ◌≤◌, Ok, Err, Result}
use Rattle.supply.specs.declared.faults.Fault.{Fault}
use Rattle.supply.specs.declared.faults.Fault.TheVariants.{Breach}
use Rattle.supply.specs.Stocks.{Stock}
use Rattle.node.specs.declared.ends.Side.{Side}
use Rattle.node.specs.declared.nodes.NodeRef.{NodeRef}
use Rattle.node.specs.Shape.{Tree, number}
use Rattle.node.specs.Store.{Tables, Holds, SameLink}
use Rattle.node.specs.Operations.{Strange}
use Rattle.node.specs.Laws.{occurs}
use Rattle.node.specs.Balance.{Owns, Rooted, Balanced, Beside}
use Rattle.parts.specs.Rules.{fix_top, mend, repair}

-- t of height h before, u of height k after
pub record Became {K V : Type 0} (T T' : Tables K V) (S S' : Stock) (h : ℕ) (t : Tree (K × V)) (k : ℕ) (u : Tree (K × V)) : Type 0 where
  pub holds : Holds T' k u
  pub balanced : Balanced S S' (λ x. occurs x h t) (λ x. occurs x k u)
  pub beside : Beside T T' S (λ x. occurs x h t)

-- a root t, in whose place p stands now
pub record Topped {K V : Type 0} (T T' : Tables K V) (S S' : Stock) (h : ℕ) (t : Tree (K × V)) (p : ℕ × Tree (K × V)) (r : Result NodeRef Fault) : Type 0 where
  pub answer : r ≡ Ok (root_of p)
  pub root : Rooted T' (number p.1)
  pub became : Became T T' S S' h t p.0 p.1

unfoldable pub FixesTop : {K V : Type 0} → Tables K V → Tables K V → Stock → Stock → ℕ → ℕ → Result NodeRef Fault → Type 0
FixesTop {K} {V} T T' S S' h m r =
    (t : Tree (K × V)) → Owns T S h t → number t ≡ m → Rooted T m → h ≤ 5
    → Topped T T' S S' h t (fix_top h t) r

pub record Mended {K V : Type 0} (s : Side) (T T' : Tables K V) (S S' : Stock) (h : ℕ) (t : Tree (K × V)) (r : Result (Unit {0}) Fault) : Type 0 where
  pub answer : r ≡ Ok tt
  pub became : Became T T' S S' h t h (mend s h t)
  pub link : SameLink T T' (number t)

unfoldable pub Mends : {K V : Type 0} → Side → Tables K V → Tables K V → Stock → Stock → ℕ → ℕ → Result (Unit {0}) Fault → Type 0
Mends {K} {V} s T T' S S' h m r = (t : Tree (K × V)) → Owns T S h t → number t ≡ m → Mended s T T' S S' h t r

unfoldable pub Repairs : {K V : Type 0} → Side → Tables K V → Tables K V → Stock → Stock → ℕ → ℕ → Result NodeRef Fault → Type 0
Repairs {K} {V} s T T' S S' h m r =
    (t : Tree (K × V)) → Owns T S h t → number t ≡ m → Rooted T m → h ≤ 5
    → Topped T T' S S' h t (repair s h t) r

unfoldable pub Strays : {K V : Type 0} → Tables K V → Tables K V → Stock → Stock → ℕ → ℕ → Result NodeRef Fault → Type 0
Strays T T' S S' h m r = 0 < h → Strange T m → (r ≡ Err Breach) × (T' ≡ T) × (S' ≡ S)
