-- Entries woven between lists, and sums over lists. Assumes nothing.
use Rattle.std.proofs.Common.{◌≡◌, ℕ, zero, suc, ◌+◌, ◌*◌, ◌<◌, ◌≤◌, List, [], ◌∷◌, ◌++◌, map, length, get_or, take, drop, All, sym, refl, ap, ◌∙◌, ⊎_elim, append_assoc, append-nil, arith, length-append}
use lib.Seq.{split_at}
use Rattle.std.proofs.lemmas.List.Elements.{All-tail, All-nil, All-cons, All-head}
use Rattle.std.proofs.lemmas.Bool.{cases_lt}
use Rattle.node.specs.Shape.{Tree, trees, forest, weave, before, after, total, flat, mk}

pub trees_forest : {E : Type 0} (ts : List (Tree E)) → trees (forest ts) ≡ ts
trees_forest [] = refl
trees_forest (t ∷ ts) = ap (λ r. t ∷ r) (trees_forest ts)

module _ {E : Type 0} where
  pub flat_mk : (h m : ℕ) (es : List E) (ks : List (Tree E)) → flat (suc h) (mk m es ks) ≡ weave (map (flat h) ks) es
  unfolding flat
  flat_mk h m es ks = ap (λ r. weave (map (flat h) r) es) (trees_forest ks)

  pub weave_long : (c : ℕ) (ls : List (List E)) (es : List E) → length ls ≡ suc (length es) → All (λ l. c ≤ length l + 1) ls → length ls * c ≤ length (weave ls es) + 1
  weave_long c [] es q a = absurd (omega arith)
  weave_long c (l ∷ []) [] q a = omega (arith, a 0 l (omega arith))
  weave_long c (l ∷ (k ∷ ls)) [] q a = absurd (omega arith)
  weave_long c (l ∷ ls) (e ∷ es) q a = simp length-append (omega (arith, weave_long c ls es (omega arith) (All-tail (λ k. c ≤ length k + 1) l ls a), a 0 l (omega arith)))

  pub weave_size : (ls : List (List E)) (es : List E) → length ls ≡ suc (length es) → length (weave ls es) ≡ length es + total length ls
  weave_size [] es q = absurd (omega arith)
  weave_size (l ∷ []) [] q = omega arith
  weave_size (l ∷ (k ∷ ls)) [] q = absurd (omega arith)
  weave_size (l ∷ ls) (e ∷ es) q = simp length-append (omega (arith, weave_size ls es (omega arith)))

  pub weave_cons : (l : List E) (ls : List (List E)) (es : List E) → weave (l ∷ ls) es ≡ l ++ after ls es
  weave_cons l ls [] = sym (append-nil l)
  weave_cons l ls (e ∷ es) = refl

  pub weave_mid : (ks : List (List E)) (es : List E) (ls : List (List E)) (fs : List E) → length ks ≡ length es → weave (ks ++ ls) (es ++ fs) ≡ before ks es ++ weave ls fs
  weave_mid [] [] ls fs q = refl
  weave_mid [] (e ∷ es) ls fs q = absurd (omega arith)
  weave_mid (k ∷ ks) [] ls fs q = absurd (omega arith)
  weave_mid (k ∷ ks) (e ∷ es) ls fs q =
      ap (λ r. k ++ e ∷ r) (weave_mid ks es ls fs (omega arith)) ∙ sym (append_assoc k (e ∷ before ks es) (weave ls fs))

  -- parted at c: whatever the lengths
  pub weave_part : (c : ℕ) (ls : List (List E)) (es : List E) (d : E) → c < length es → weave (take (suc c) ls) (take c es) ++ get_or es c d ∷ weave (drop (suc c) ls) (drop (suc c) es) ≡ weave ls es
  weave_part c ls [] d h = absurd (omega arith)
  weave_part zero [] (e ∷ es) d h = refl
  weave_part zero (l ∷ ls) (e ∷ es) d h = refl
  weave_part (suc c) [] (e ∷ es) d h = ap (λ r. e ∷ r) (weave_part c [] es d (omega arith))
  weave_part (suc c) (l ∷ ls) (e ∷ es) d h =
      append_assoc l (e ∷ weave (take (suc c) ls) (take c es)) (get_or es c d ∷ weave (drop (suc c) ls) (drop (suc c) es)) ∙ ap (λ r. l ++ e ∷ r) (weave_part c ls es d (omega arith))

  -- joined with an entry between them
  pub weave_join : (ks : List (List E)) (es : List E) (e : E) (ls : List (List E)) (fs : List E) → length ks ≡ suc (length es) → weave (ks ++ ls) (es ++ e ∷ fs) ≡ weave ks es ++ e ∷ weave ls fs
  weave_join [] es e ls fs q = absurd (omega arith)
  weave_join (k ∷ []) [] e ls fs q = refl
  weave_join (k ∷ (l ∷ ks)) [] e ls fs q = absurd (omega arith)
  weave_join (k ∷ ks) (x ∷ es) e ls fs q =
      ap (λ r. k ++ x ∷ r) (weave_join ks es e ls fs (omega arith)) ∙ sym (append_assoc k (x ∷ weave ks es) (e ∷ weave ls fs))

module _ {X : Type 0} (f : X → ℕ) where
  pub total_append : (xs ys : List X) → total f (xs ++ ys) ≡ total f xs + total f ys
  total_append [] ys = omega arith
  total_append (x ∷ xs) ys = omega (arith, total_append xs ys)

  pub total_cut : (i : ℕ) (xs : List X) → total f (take i xs) + total f (drop i xs) ≡ total f xs
  total_cut zero xs = omega arith
  total_cut (suc i) [] = omega arith
  total_cut (suc i) (x ∷ xs) = omega (arith, total_cut i xs)

  -- one term, and those around it
  pub total_around : (xs : List X) (i : ℕ) (d : X) → i < length xs → total f xs ≡ total f (take i xs) + (f (get_or xs i d) + total f (drop (suc i) xs))
  total_around xs i d l = ap (total f) (split_at xs i d l) ∙ total_append (take i xs) (get_or xs i d ∷ drop (suc i) xs)

  -- one term is at most the sum
  pub total_at : (xs : List X) (i : ℕ) (d : X) → i < length xs → f (get_or xs i d) ≤ total f xs
  total_at [] i d l = absurd (omega arith)
  total_at (x ∷ xs) zero d l = omega arith
  total_at (x ∷ xs) (suc i) d l = omega (arith, total_at xs i d (omega arith))

  pub total_none : (xs : List X) → All (λ x. f x ≡ 0) xs → total f xs ≡ 0
  total_none [] a = refl
  total_none (x ∷ xs) a = omega (arith, a 0 x (omega arith), total_none xs (All-tail (λ y. f y ≡ 0) x xs a))

  -- a sum above 0 has a term above 0
  pub total_some : (P : Type 0) (xs : List X) → All (λ x. 0 < f x → P) xs → 0 < total f xs → P
  total_some P [] a l = absurd (omega arith)
  total_some P (x ∷ xs) a l = ⊎_elim (λ (p : 0 < f x). a 0 x (omega arith) p) (λ (p : f x ≤ 0). total_some P xs (All-tail (λ y. 0 < f y → P) x xs a) (omega arith)) (cases_lt 0 (f x))

  -- bounds on each term
  pub total_least : (c : ℕ) (xs : List X) → All (λ x. c ≤ f x) xs → length xs * c ≤ total f xs
  total_least c [] a = omega arith
  total_least c (x ∷ xs) a = omega (arith, a 0 x (omega arith), total_least c xs (All-tail (λ y. c ≤ f y) x xs a))

  pub total_most : (c : ℕ) (xs : List X) → All (λ x. f x ≤ c) xs → total f xs ≤ length xs * c
  total_most c [] a = omega arith
  total_most c (x ∷ xs) a = omega (arith, a 0 x (omega arith), total_most c xs (All-tail (λ y. f y ≤ c) x xs a))

  pub total_map : {Y : Type 0} (g : Y → X) (ys : List Y) → total f (map g ys) ≡ total (λ y. f (g y)) ys
  total_map g [] = refl
  total_map g (y ∷ ys) = ap (λ n. f (g y) + n) (total_map g ys)

module _ {X : Type 0} (f g : X → ℕ) where
  pub total_same : (xs : List X) → All (λ x. f x ≡ g x) xs → total f xs ≡ total g xs
  total_same [] a = refl
  total_same (x ∷ xs) a = omega (arith, a 0 x (omega arith), total_same xs (All-tail (λ y. f y ≡ g y) x xs a))

  pub total_le : (xs : List X) → All (λ x. f x ≤ g x) xs → total f xs ≤ total g xs
  total_le [] a = omega arith
  total_le (x ∷ xs) a = omega (arith, a 0 x (omega arith), total_le xs (All-tail (λ y. f y ≤ g y) x xs a))

  pub total_add : (xs : List X) → total (λ x. f x + g x) xs ≡ total f xs + total g xs
  total_add [] = refl
  total_add (x ∷ xs) = omega (arith, total_add xs)

module _ {X : Type 0} where
  pub all_of : {P : X → Type 0} → ((x : X) → P x) → (xs : List X) → All P xs
  all_of f xs = λ k d l. f (get_or xs k d)

  -- from two facts of each element a third
  pub all_both : (P Q R : X → Type 0) → ((x : X) → P x → Q x → R x) → (xs : List X) → All P xs → All Q xs → All R xs
  all_both P Q R f xs a b = λ k d l. f (get_or xs k d) (a k d l) (b k d l)

  -- each element's weights are at most the sums
  pub total_each : (f : ℕ → X → ℕ) (xs : List X) → All (λ x. (n : ℕ) → f n x ≤ total (f n) xs) xs
  total_each f xs = λ k d l n. total_at (f n) xs k d l

-- what holds of each of a list, of its parts, and of lists of one and two
module _ {X : Type 0} (P : X → Type 0) where
  pub all_front : (xs ys : List X) → All P (xs ++ ys) → All P xs
  all_front [] ys a = All-nil P
  all_front (x ∷ xs) ys a = All-cons P x xs (All-head P x (xs ++ ys) a) (all_front xs ys (All-tail P x (xs ++ ys) a))

  pub all_back : (xs ys : List X) → All P (xs ++ ys) → All P ys
  all_back [] ys a = a
  all_back (x ∷ xs) ys a = all_back xs ys (All-tail P x (xs ++ ys) a)

  pub all_one : (x : X) → P x → All P (x ∷ [])
  all_one x p = All-cons P x [] p (All-nil P)

  pub all_two : (x y : X) → P x → P y → All P (x ∷ y ∷ [])
  all_two x y p q = All-cons P x (y ∷ []) p (all_one y q)
