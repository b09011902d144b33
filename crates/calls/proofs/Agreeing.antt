-- Queries that go with the order of the keys, and sorted entries with another back. Assumes nothing.
use Rattle.std.proofs.Common.{◌≡◌, ℕ, Bool, true, false, List, [], ◌∷◌, ◌++◌, All, Ordering, Less, Equal, Greater, refl, ap, arith}
use Rattle.std.specs.Ordering.{is_lt, is_le, is_gt}
use Rattle.std.proofs.lemmas.List.Elements.{All-append, All-head, All-tail}
use Rattle.order.specs.Laws.{Ordered}
use Rattle.order.specs.Among.{key_placed}
use Rattle.node.specs.Shape.{Tree, flat, Formed}
use Rattle.node.specs.Sorted.{Sorted, Downward}
use Rattle.node.specs.Store.{first}
use Rattle.node.proofs.Weaves.{all_front, all_back}
use Rattle.map.specs.Lookup.{InOrder, Sought, seek}
use Rattle.map.proofs.Finds.{lookup_finds}
use Rattle.calls.specs.Meaning.{Agrees}
use Rattle.calls.specs.Asking.{Query}

-- ---- answers of a comparison

pub lt_le : (c : Ordering) → is_lt c ≡ true → is_le c ≡ true
lt_le Less q = refl
lt_le Equal q = let z : ◌≡◌ {A = ℕ} 0 1 = cc in absurd (omega arith)
lt_le Greater q = let z : ◌≡◌ {A = ℕ} 0 1 = cc in absurd (omega arith)

pub gt_is : (c : Ordering) → is_gt c ≡ true → c ≡ Greater
gt_is Less q = let z : ◌≡◌ {A = ℕ} 0 1 = cc in absurd (omega arith)
gt_is Equal q = let z : ◌≡◌ {A = ℕ} 0 1 = cc in absurd (omega arith)
gt_is Greater q = refl

pub lt_left : (c : Ordering) → is_gt c ≡ false → (c ≡ Equal → ⊥) → is_lt c ≡ true
lt_left Less q n = refl
lt_left Equal q n = absurd (n refl)
lt_left Greater q n = let z : ◌≡◌ {A = ℕ} 0 1 = cc in absurd (omega arith)

module _ {K : Type 0} {compares : K → K → Ordering} where
  -- a key among the others
  pub key_agrees : Ordered compares → (k : K) → Agrees compares (λ x. compares k x)
  key_agrees o k = let p = key_placed o in record { under = λ a b. p.under k a b; over = λ a b. p.over k a b }

  pub lt_from_gt : Ordered compares → (k x : K) → is_gt (compares k x) ≡ true → is_lt (compares x k) ≡ true
  lt_from_gt o k x g = let m = o.mirrors k x in let q = gt_is (compares k x) g in grind arith

  module _ {V : Type 0} {place : Query K} (g : Agrees compares place) where
    -- the test that a key is below the query goes with the order
    pub downward : Downward (λ (x y : K × V). is_lt (compares (first x) (first y))) (λ y. is_gt (place (first y)))
    downward x y l q = ap is_gt (g.over (first x) (first y) (lt_le (compares (first x) (first y)) l) (gt_is (place (first y)) q))

    -- and the lookup finds by it
    pub finds : (h : ℕ) (t : Tree (K × V)) → Formed h t → InOrder compares (flat h t) → Sought (λ (e : K × V). place (first e)) (flat h t) (seek (λ e. place (first e)) h t)
    finds h t w s = lookup_finds {Q = Unit {0}} compares (λ u. place) tt h t (record { under = λ u. g.under; over = λ u. g.over }) w s

-- ---- another back

module _ {E : Type 0} (le : E → E → Bool) where
  -- where the new back is sorted, and what stands before all of the old one stands before all of it
  pub sorted_back : (xs zs zs' : List E) → Sorted le (xs ++ zs) → Sorted le zs' → All (λ x. All (λ z. le x z ≡ true) zs → All (λ z. le x z ≡ true) zs') xs → Sorted le (xs ++ zs')
  sorted_back [] zs zs' s t a = t
  sorted_back (x ∷ xs) zs zs' s t a = (
    All-append (λ y. le x y ≡ true) xs zs' (all_front (λ y. le x y ≡ true) xs zs s.0)
        (All-head (λ y. All (λ z. le y z ≡ true) zs → All (λ z. le y z ≡ true) zs') x xs a (all_back (λ y. le x y ≡ true) xs zs s.0)),
    sorted_back xs zs zs' s.1 t (All-tail (λ y. All (λ z. le y z ≡ true) zs → All (λ z. le y z ≡ true) zs') x xs a),
  )
