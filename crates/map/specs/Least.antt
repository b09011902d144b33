-- The least entry that is the same as a query.
--   first_same place l   the first entry of the list l whose key is the same as the query, if there is one
--   same_in place es     the entry where the search in a node stops, if its key is the same as the query
--   Hits                 a search in node m stops at index i, with that entry
--   LeastIn place l r    r is an entry of l that is the same as the query, with all before it below the query; or there is none in l
--   FindsLeast           in tables that hold a formed tree in order the answer is the first such entry of its list
--   LeastStands          which is the least
use Rattle.std.specs.Prelude.{◌≡◌, ◌≢◌, ℕ, ◌≤◌, cond, List, [], ◌∷◌, ◌++◌, Some, None, Ok, All, Option, Result, MatchOption}
use Rattle.std.specs.declared.cmp.Ordering.{Ordering}
use Rattle.std.specs.declared.cmp.Ordering.TheVariants.{Equal, Greater}
use Rattle.std.specs.Ordering.{is_eq}
use Rattle.supply.specs.declared.faults.Fault.{Fault}
use Rattle.order.specs.Found.{first_not_below, found_at}
use Rattle.order.specs.Laws.{Placed}
use Rattle.node.specs.Operations.{Lies}
use Rattle.node.specs.Shape.{Tree, number, flat}
use Rattle.node.specs.Store.{Tables, Sized, Node, Holds, head_at, first}
use Rattle.map.specs.Lookup.{nth, InOrder}

abbrev pub first_same : {E : Type 0} → (E → Ordering) → List E → Option E
first_same place [] = None
first_same place (e ∷ es) = cond (is_eq (place e)) (Some e) (first_same place es)

abbrev pub same_in : {E : Type 0} → (E → Ordering) → List E → Option E
same_in place es = cond (found_at place es) (nth es (first_not_below place es)) None

pub record Hits {K V : Type 0} (place : K → Ordering) (T : Tables K V) (m i : ℕ) (hit : Option (K × V)) : Type 0 where
  pub lies : Lies T m (head_at T m).len
  pub few : i ≤ (head_at T m).len
  pub here : (es : List (K × V)) (ks : List ℕ) → Node T m es ks → i ≡ first_not_below (λ e. place (first e)) es
  pub hit_is : (es : List (K × V)) (ks : List ℕ) → Node T m es ks → hit ≡ same_in (λ e. place (first e)) es

unfoldable pub FindsLeast : {K V : Type 0} → (K → K → Ordering) → (K → Ordering) → Tables K V → ℕ → ℕ → Result (Option (K × V)) Fault → Type 0
FindsLeast {K} {V} compares place T h m r =
    (t : Tree (K × V)) → Sized T → Holds T h t → number t ≡ m → InOrder compares (flat h t) → r ≡ Ok (first_same (λ e. place (first e)) (flat h t))

-- it is the same as the query, and all before it are below
pub record Least {E : Type 0} (place : E → Ordering) (l : List E) (e : E) : Type 0 where
  pub ante : List E
  pub post : List E
  pub was : l ≡ ante ++ e ∷ post
  pub same : place e ≡ Equal
  pub below : All (λ x. place x ≡ Greater) ante

abbrev pub LeastIn : {E : Type 0} → (E → Ordering) → List E → Option E → Type 0
LeastIn place l r = MatchOption r (All (λ e. place e ≢ Equal) l) (Least place l)

abbrev pub LeastStands : Type 0 → Type 0 → Type 0 → Type 0
LeastStands K V Q =
    (compares : K → K → Ordering) (places : Q → K → Ordering) (q : Q) (l : List (K × V)) → Placed compares places → InOrder compares l
    → LeastIn (λ e. places q (first e)) l (first_same (λ e. places q (first e)) l)
