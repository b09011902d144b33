-- What an insertion makes of a tree in the tables, and of the supply.
--   Inserted T' h g     the tables hold what grew: one tree, or two
--   answer g            what the code answers: the entry fitted in, or what rises, with the number of the new right tree
--   Grew                the tables hold what grew out of the part f, the supply has given what it took, and all else is as it was
--   seated, coming      the children of a node while what came of one of them is put in
use Rattle.std.specs.Prelude.{◌≡◌, ℕ, ◌+◌, ◌-◌, List, [], ◌∷◌, Ok, Result}
use Rattle.supply.specs.declared.faults.Fault.{Fault}
use Rattle.supply.specs.Stocks.{Stock}
use Rattle.node.specs.Shape.{Tree, number, total}
use Rattle.node.specs.Store.{Tables, Holds, SameLink, first, second}
use Rattle.node.specs.Laws.{occurs, same}
use Rattle.node.specs.Rules.{Grown, whole, parted, swap}
use Rattle.node.specs.Balance.{Balanced, Beside}
use Rattle.rules.specs.Rules.{weighs}
use Rattle.insertion.specs.declared.descent.InsertResult.{InsertResult}
use Rattle.insertion.specs.declared.descent.InsertResult.TheVariants.{Fit, Split}

abbrev pub Inserted : {K V : Type 0} → Tables K V → ℕ → Grown (K × V) → Type 0
Inserted T h (whole t) = Holds T h t
Inserted T h (parted l x r) = Holds T h l × Holds T h r

abbrev pub answer : {K V : Type 0} → Grown (K × V) → InsertResult K V
answer (whole t) = Fit
answer (parted l x r) = Split (first x) (second x) (number r)

-- the number of the tree that stands where the old one stood
abbrev pub stem : {E : Type 0} → Grown E → ℕ
stem (whole t) = number t
stem (parted l x r) = number l

pub record Grew {K V : Type 0} (T T' : Tables K V) (S S' : Stock) (f : ℕ → ℕ) (h m : ℕ) (g : Grown (K × V)) (n : ℕ) (r : Result (InsertResult K V) Fault) : Type 0 where
  pub held : Inserted T' h g
  pub told : r ≡ Ok (answer g)
  pub stem_is : stem g ≡ m
  pub balance : Balanced S S' f (λ x. weighs (same x) h g)
  pub beside : Beside T T' S f
  pub link : SameLink T T' m
  pub taken : S.allowance ≡ S'.allowance + n

-- the children of a node while what came of one of them is put in: the first of these is in its place already
abbrev pub seated : {E : Type 0} → ℕ → List (Tree E) → List (Tree E) → List (Tree E)
seated i [] ks = ks
seated i (l ∷ new) ks = swap i (l ∷ []) ks

abbrev pub coming : {E : Type 0} → List (Tree E) → List (Tree E)
coming [] = []
coming (l ∷ new) = new

-- numbers of node m, of its children and of the ones that come
abbrev pub members : {E : Type 0} → ℕ → ℕ → List (Tree E) → List (Tree E) → ℕ → ℕ
members h m ts new x = same x m + (total (occurs x (h - 1)) ts + total (occurs x (h - 1)) new)
