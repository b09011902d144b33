-- Lookup as a rule on trees. `place e` says how the query stands to the key of e: `Greater` where the key is below the query, `Equal` where
-- the two are the same, `Less` where the key is above it.
--   nth es i           the entry at index i, if there is one
--   seek place h t     the entry whose key is the same as the query: in the node where the search finds one, or else in the child at its index
--   looks place h t    the comparisons made, the sum over the nodes that are visited
--   Sought place l r   r is an entry of the list l whose key is the same as the query, or there is none in l
--   Seeks              in tables that hold a tree, the value and the count are those of the rule
--   SearchedIn         the search in node m came to this result, with so many comparisons
--   InOrder            entries in the strict order of their keys
--   LookupFinds        of a formed tree in order, the rule finds an entry of the tree's list whose key is the same as the query, or there is none
--   LookupAlone        and where the query stands at one place, there is no other
--   LookupBound        the comparisons are at most eleven for each level
use Rattle.std.specs.Prelude.{◌≡◌, ℕ, zero, suc, ◌+◌, ◌*◌, ◌<◌, ◌≤◌, true, cond, List, [], ◌∷◌, ◌++◌, Some, None, Ok, All, Contains, Option, Result, MatchOption, ◌≢◌}
use Rattle.std.specs.declared.cmp.Ordering.TheVariants.{Equal}
use Rattle.std.specs.declared.cmp.Ordering.{Ordering}
use Rattle.supply.specs.declared.faults.Fault.{Fault}
use Rattle.order.specs.declared.search.SearchResult.{SearchResult}
use Rattle.order.specs.Found.{first_not_below, found_at, comparisons, searched, index_of, is_found}
use Rattle.node.specs.Cells.{span}
use Rattle.node.specs.Operations.{Lies}
use Rattle.std.specs.Ordering.{is_lt}
use Rattle.order.specs.Laws.{Ordered, Placed, Pointed}
use Rattle.node.specs.Sorted.{Sorted}
use Rattle.node.specs.Shape.{Tree, number, row, kid, flat, Formed}
use Rattle.node.specs.Store.{Tables, Sized, Holds, head_at, first, second}

abbrev pub nth : {E : Type 0} → List E → ℕ → Option E
nth [] i = None
nth (e ∷ es) zero = Some e
nth (e ∷ es) (suc i) = nth es i

unfoldable pub seek : {E : Type 0} → (E → Ordering) → ℕ → Tree E → Option E
seek place zero t = cond (found_at place (row t)) (nth (row t) (first_not_below place (row t))) None
seek place (suc h) t = cond (found_at place (row t)) (nth (row t) (first_not_below place (row t))) (seek place h (kid t (first_not_below place (row t))))

unfoldable pub looks : {E : Type 0} → (E → Ordering) → ℕ → Tree E → ℕ
looks place zero t = comparisons place (row t)
looks place (suc h) t = comparisons place (row t) + cond (found_at place (row t)) 0 (looks place h (kid t (first_not_below place (row t))))

-- the value of an entry, if there is one
abbrev pub value_of : {K V : Type 0} → Option (K × V) → Option V
value_of None = None
value_of (Some e) = Some (second e)

-- the keys of node m
abbrev pub keys_at : {K V : Type 0} → Tables K V → ℕ → List K
keys_at T m = span T.keys (11 * m) (head_at T m).len

pub record SearchedIn {K V : Type 0} (place : K → Ordering) (T : Tables K V) (m : ℕ) (r : SearchResult) (made : ℕ) : Type 0 where
  pub lies : Lies T m (head_at T m).len
  pub result : searched place (keys_at T m) ≡ r
  pub few : index_of r ≤ (head_at T m).len
  pub inside : is_found r ≡ true → index_of r < (head_at T m).len
  pub count : made ≡ comparisons place (keys_at T m)
  pub most : made ≤ 11

unfoldable pub Seeks : {K V : Type 0} → (K → Ordering) → Tables K V → ℕ → ℕ → Result (Option V × ℕ) Fault → Type 0
Seeks {K} {V} place T h m r =
    (t : Tree (K × V)) → Sized T → Holds T h t → number t ≡ m → r ≡ Ok (value_of (seek (λ e. place (first e)) h t), looks (λ e. place (first e)) h t)

abbrev pub InOrder : {K V : Type 0} → (K → K → Ordering) → List (K × V) → Type 0
InOrder compares l = Sorted (λ x y. is_lt (compares (first x) (first y))) l

abbrev pub Sought : {E : Type 0} → (E → Ordering) → List E → Option E → Type 0
Sought place l r = MatchOption r (All (λ e. place e ≢ Equal) l) (λ e. Contains l e × (place e ≡ Equal))

abbrev pub LookupFinds : Type 0 → Type 0 → Type 0 → Type 0
LookupFinds K V Q =
    (compares : K → K → Ordering) (places : Q → K → Ordering) (q : Q) (h : ℕ) (t : Tree (K × V)) → Placed compares places → Formed h t → InOrder compares (flat h t)
    → Sought (λ e. places q (first e)) (flat h t) (seek (λ e. places q (first e)) h t)

abbrev pub LookupAlone : Type 0 → Type 0 → Type 0 → Type 0
LookupAlone K V Q =
    (compares : K → K → Ordering) (places : Q → K → Ordering) (q : Q) → Ordered compares → Pointed compares places
    → (xs : List (K × V)) (e : K × V) (ys : List (K × V)) → InOrder compares (xs ++ e ∷ ys) → places q (first e) ≡ Equal
    → All (λ x. places q (first x) ≢ Equal) xs × All (λ y. places q (first y) ≢ Equal) ys

abbrev pub LookupBound : Type 0 → Type 0
LookupBound E = (place : E → Ordering) (h : ℕ) (t : Tree E) → Formed h t → looks place h t ≤ 11 * (h + 1)
