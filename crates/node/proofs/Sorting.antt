-- Sorted lists, and what a query parts. Assumes nothing.
use Rattle.std.proofs.Common.{◌≡◌, ℕ, suc, true, false, cond, [], ◌∷◌, take, drop, All, sym, ap, subst, ⊎_elim}
use Rattle.std.proofs.lemmas.List.Elements.{All-weaker, All-nil, All-cons}
use Rattle.std.proofs.lemmas.Bool.{cases_Bool, both_ways}
use Rattle.node.specs.Sorted.{SortedRises, IndexParts, index}

pub sorted_rises : {E : Type 0} → SortedRises E
sorted_rises le b down [] s = tt
sorted_rises le b down (x ∷ xs) s = (
  (λ q. All-weaker (λ y. le x y ≡ true) (λ y. b y ≡ false)
      (λ y r. ⊎_elim (λ p. absurd (both_ways (b x) q (down x y r p))) (λ p. p) (cases_Bool (b y))) xs s.0),
  sorted_rises le b down xs s.1,
)

pub index_parts : {E : Type 0} → IndexParts E
index_parts b [] r = (All-nil (λ y. b y ≡ true), All-nil (λ y. b y ≡ false))
index_parts {E} b (x ∷ xs) r =
    ⊎_elim
    (λ (p : b x ≡ true). let s = index_parts b xs r.1 in subst At (sym (ap (λ c. cond c (suc (index b xs)) 0) p)) (All-cons (λ y. b y ≡ true) x (take (index b xs) xs) p s.0, s.1))
    (λ (p : b x ≡ false). subst At (sym (ap (λ c. cond c (suc (index b xs)) 0) p)) (All-nil (λ y. b y ≡ true), All-cons (λ y. b y ≡ false) x xs p (r.0 p)))
    (cases_Bool (b x))
  where
    At : ℕ → Type 0
    At n = All (λ y. b y ≡ true) (take n (x ∷ xs)) × All (λ y. b y ≡ false) (drop n (x ∷ xs))
