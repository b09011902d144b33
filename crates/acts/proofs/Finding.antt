-- A lookup, and the least entry, at a place.
use Rattle.std.proofs.Common.{◌≡◌, ℕ, ◌≤◌, None, Ok, Option, Result, MatchResult, refl, sym, ap, subst}
use Rattle.std.specs.declared.cmp.Ordering.{Ordering}
use Rattle.supply.specs.declared.faults.Fault.{Fault}
use Rattle.node.specs.declared.nodes.NodeRef.{NodeRef}
use Rattle.node.specs.Shape.{Tree, flat}
use Rattle.node.specs.Store.{Tables, first}
use Rattle.map.specs.Lookup.{Seeks, seek, looks, value_of}
use Rattle.map.specs.Least.{first_same, FindsLeast}
use Rattle.calls.specs.declared.calls.Answer.TheVariants.{Least as LeastIs}
use Rattle.books.specs.declared.places.Place.{Place}
use Rattle.books.specs.declared.places.Place.TheVariants as P
use Rattle.books.specs.Books.{planted}
use Rattle.calls.specs.Asking.{Query}
use Rattle.calls.specs.Rules.{lookup_in, least_in}
use Rattle.acts.specs.Acts.{LooksIn, LeastsIn, found}
use Rattle.acts.proofs.Views.{bare_book, ready_tree}

module _ {K V : Type 0} (compares : K → K → Ordering) (T : Tables K V) (p : Place) (place : Query K) where
  pub looks_nowhere : ((root : NodeRef) (count : ℕ) → p ≡ P.Tree root count → ⊥) → LooksIn compares T p place (Ok (None, 0))
  unfolding LooksIn
  looks_nowhere n S b r m = ap (lookup_in place) (bare_book compares T p b n m r.at).1

  pub looks_tree : (root : NodeRef) (count : ℕ) → p ≡ P.Tree root count → (r : Result (Option V × ℕ) Fault) → (root.height ≤ 5 → Seeks place T root.height root.node r) → LooksIn compares T p place r
  unfolding LooksIn Seeks
  looks_tree root count e r f S b w m =
      let v = ready_tree compares T S root count p b e w in
      subst (λ b'. MatchResult r (λ y. lookup_in place b' ≡ Ok (found {K = K} y)) (λ _. ⊥)) (sym v.book_is)
      (looked root.height v.tree (f v.low v.tree w.sized v.here.holds v.node_is))
    where
      looked : (h : ℕ) (t : Tree (K × V)) → r ≡ Ok (value_of (seek (λ y. place (first y)) h t), looks (λ y. place (first y)) h t)
          → MatchResult r (λ y. lookup_in place (planted h t) ≡ Ok (found {K = K} y)) (λ _. ⊥)
      looked h t a = subst (λ x. MatchResult x (λ y. lookup_in place (planted h t) ≡ Ok (found {K = K} y)) (λ _. ⊥)) (sym a) refl

  pub least_nowhere : ((root : NodeRef) (count : ℕ) → p ≡ P.Tree root count → ⊥) → LeastsIn {K = K} {V = V} compares T p place (Ok None)
  unfolding LeastsIn
  least_nowhere n S b r m = ap (least_in place) (bare_book compares T p b n m r.at).1

  pub least_tree : (root : NodeRef) (count : ℕ) → p ≡ P.Tree root count → (r : Result (Option (K × V)) Fault) → (root.height ≤ 5 → FindsLeast compares place T root.height root.node r) → LeastsIn compares T p place r
  unfolding LeastsIn FindsLeast
  least_tree root count e r f S b w m =
      let v = ready_tree compares T S root count p b e w in
      subst (λ b'. MatchResult r (λ x. least_in place b' ≡ Ok (LeastIs x)) (λ _. ⊥)) (sym v.book_is)
      (told root.height v.tree (f v.low v.tree w.sized v.here.holds v.node_is v.here.in_order))
    where
      told : (h : ℕ) (t : Tree (K × V)) → r ≡ Ok (first_same (λ y. place (first y)) (flat h t)) → MatchResult r (λ x. least_in place (planted h t) ≡ Ok (LeastIs x)) (λ _. ⊥)
      told h t a = subst (λ y. MatchResult y (λ x. least_in place (planted h t) ≡ Ok (LeastIs x)) (λ _. ⊥)) (sym a) refl
