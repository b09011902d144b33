-- Sorted entries.
use Rattle.node.proofs.Weaves.{all_front, all_back}
use Rattle.std.proofs.Common.{◌≡◌, Bool, true, false, List, [], ◌∷◌, ◌++◌, All, sym, subst}
use Rattle.std.proofs.lemmas.List.Elements.{All-append, All-weaker, All-cons, All-head, All-tail}
use Rattle.node.specs.Shape.{flat, root_least}
use Rattle.rules.specs.Rules.{low, high}
use Rattle.rules.specs.Laws.{InsertSorted}
use Rattle.node.specs.Sorted.{Sorted}
use Rattle.rules.proofs.Ways.{way_flat, way_sides}
use Rattle.node.proofs.Sorting.{sorted_rises}
use Rattle.rules.proofs.Grows.{insert_flat}

module _ {E : Type 0} (le : E → E → Bool) where
  pub sorted_parts : (xs ys : List E) → Sorted le (xs ++ ys) → Sorted le xs × Sorted le ys
  sorted_parts [] ys s = (tt, s)
  sorted_parts (x ∷ xs) ys s =
      let r = sorted_parts xs ys s.1 in
      ((all_front (λ y. le x y ≡ true) xs ys s.0, r.0), r.1)

  sorted_put : (xs ys : List E) (e : E) → Sorted le (xs ++ ys) → All (λ x. le x e ≡ true) xs → All (λ y. le e y ≡ true) ys → Sorted le (xs ++ e ∷ ys)
  sorted_put [] ys e s a c = (c, s)
  sorted_put (x ∷ xs) ys e s a c = (
    All-append (λ y. le x y ≡ true) xs (e ∷ ys) (all_front (λ y. le x y ≡ true) xs ys s.0)
        (All-cons (λ y. le x y ≡ true) e ys (All-head (λ y. le y e ≡ true) x xs a) (all_back (λ y. le x y ≡ true) xs ys s.0)),
    sorted_put xs ys e s.1 (All-tail (λ y. le y e ≡ true) x xs a) c,
  )

pub insert_sorted : {E : Type 0} → InsertSorted E
insert_sorted le fresh top b e h t w down under over s =
    let sides = way_sides b (root_least h) h t w (sorted_rises le b down (flat h t) s) in
    subst (λ l. Sorted le l) (sym (insert_flat fresh top b e h t w))
    (sorted_put le (low b h t) (high b h t) e (subst (λ l. Sorted le l) (way_flat b (root_least h) h t w) s)
    (All-weaker (λ x. b x ≡ true) (λ x. le x e ≡ true) under (low b h t) sides.0)
    (All-weaker (λ x. b x ≡ false) (λ x. le e x ≡ true) over (high b h t) sides.1))
