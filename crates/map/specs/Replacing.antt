-- Replacement as a rule on trees: where the search finds the query's key, the entry there is changed, and nothing else.
--   alter f i es          the entry at index i changed by f
--   amend f place h t     the entry whose key is the same as the query changed by f: in the node where the search finds one, or else below
--   Altered               one entry of a list is changed where it stands, and the list is otherwise the same
--   AmendList             so is the tree's list, at the entry that the lookup finds
--   AmendFormed           a formed tree stays formed, of the same nodes
use Rattle.std.specs.Prelude.{◌≡◌, ℕ, zero, suc, cond, List, [], ◌∷◌, ◌++◌, Some}
use Rattle.std.specs.declared.cmp.Ordering.{Ordering}
use Rattle.order.specs.Found.{first_not_below, found_at}
use Rattle.node.specs.Shape.{Tree, number, row, kids, kid, mk, flat, weigh, Formed}
use Rattle.node.specs.Rules.{swap}
use Rattle.map.specs.Lookup.{seek}

abbrev pub alter : {E : Type 0} → (E → E) → ℕ → List E → List E
alter f i [] = []
alter f zero (e ∷ es) = f e ∷ es
alter f (suc i) (e ∷ es) = e ∷ alter f i es

unfoldable pub amend : {E : Type 0} → (E → E) → (E → Ordering) → ℕ → Tree E → Tree E
amend f place zero t = mk (number t) (cond (found_at place (row t)) (alter f (first_not_below place (row t)) (row t)) (row t)) (kids t)
amend f place (suc h) t =
    cond (found_at place (row t))
    (mk (number t) (alter f (first_not_below place (row t)) (row t)) (kids t))
    (mk (number t) (row t) (swap (first_not_below place (row t)) (amend f place h (kid t (first_not_below place (row t))) ∷ []) (kids t)))

pub record Altered {E : Type 0} (f : E → E) (e : E) (l l' : List E) : Type 0 where
  pub ante : List E
  pub post : List E
  pub was : l ≡ ante ++ e ∷ post
  pub now_is : l' ≡ ante ++ f e ∷ post

abbrev pub AmendList : Type 0 → Type 0
AmendList E =
    (f : E → E) (place : E → Ordering) (h : ℕ) (t : Tree E) → Formed h t → (e : E) → seek place h t ≡ Some e
    → Altered f e (flat h t) (flat h (amend f place h t))

abbrev pub AmendFormed : Type 0 → Type 0
AmendFormed E =
    (f : E → E) (place : E → Ordering) (h : ℕ) (t : Tree E) → Formed h t
    → Formed h (amend f place h t) × ((w : ℕ → ℕ) → weigh w h (amend f place h t) ≡ weigh w h t)
