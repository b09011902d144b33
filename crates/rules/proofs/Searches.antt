-- Searches from the front: among what a function reads of entries, where they stop, and how many comparisons they make. Assumes nothing.
use Rattle.std.proofs.Common.{◌≡◌, ℕ, suc, ◌+◌, ◌<◌, ◌≤◌, true, false, cond, List, [], ◌∷◌, map, length, Ordering, Less, Equal, Greater, refl, ap, arith}
use Rattle.std.specs.Ordering.{is_gt}
use Rattle.order.specs.Found.{passed, first_not_below, found_at, comparisons}
use Rattle.node.specs.Sorted.{index}

module _ {K E : Type 0} (f : E → K) (place : K → Ordering) where
  pub first_map : (es : List E) → first_not_below place (map f es) ≡ first_not_below (λ e. place (f e)) es
  first_map [] = refl
  first_map (e ∷ es) = ap (λ n. passed (place (f e)) 0 0 (n + 1)) (first_map es)

  pub found_map : (es : List E) → found_at place (map f es) ≡ found_at (λ e. place (f e)) es
  found_map [] = refl
  found_map (e ∷ es) = ap (λ b. passed (place (f e)) false true b) (found_map es)

  pub made_map : (es : List E) → comparisons place (map f es) ≡ comparisons (λ e. place (f e)) es
  made_map [] = refl
  made_map (e ∷ es) = ap (λ n. passed (place (f e)) 1 1 (n + 1)) (made_map es)

pub first_within : {E : Type 0} (place : E → Ordering) (es : List E) → first_not_below place es ≤ length es
first_within place [] = omega arith
first_within place (e ∷ es) =
    let ih = first_within place es in
    elim (place e) as (λ o. passed o 0 0 (first_not_below place es + 1) ≤ suc (length es)) [ Less ↦ omega arith | Equal ↦ omega arith | Greater ↦ omega arith ]

pub found_within : {E : Type 0} (place : E → Ordering) (es : List E) → found_at place es ≡ true → first_not_below place es < length es
found_within place [] h = let z : ◌≡◌ {A = ℕ} 0 1 = cc in absurd (omega arith)
found_within place (e ∷ es) h = go (place e) h (λ q. found_within place es q)
  where
    go : (o : Ordering) → passed o false true (found_at place es) ≡ true → (found_at place es ≡ true → first_not_below place es < length es) → passed o 0 0 (first_not_below place es + 1) < suc (length es)
    go Less q ih = omega arith
    go Equal q ih = omega arith
    go Greater q ih = omega (arith, ih q)

module _ {E : Type 0} (place : E → Ordering) where
  -- the search stops at the index of the test that an entry is below the query
  pub first_is : (es : List E) → first_not_below place es ≡ index (λ e. is_gt (place e)) es
  first_is [] = refl
  first_is (e ∷ es) = go (place e) (first_is es)
    where
      go : (o : Ordering) → first_not_below place es ≡ index (λ e. is_gt (place e)) es → passed o 0 0 (first_not_below place es + 1) ≡ cond (is_gt o) (suc (index (λ e. is_gt (place e)) es)) 0
      go Less q = refl
      go Equal q = refl
      go Greater q = omega arith

  pub made_le : (es : List E) → comparisons place es ≤ length es
  made_le [] = omega arith
  made_le (e ∷ es) =
      let ih = made_le es in
      elim (place e) as (λ o. passed o 1 1 (comparisons place es + 1) ≤ suc (length es)) [ Less ↦ omega arith | Equal ↦ omega arith | Greater ↦ omega arith ]
