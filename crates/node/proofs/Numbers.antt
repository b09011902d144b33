-- The numbers of a tree's nodes. Assumes nothing.
use Rattle.std.proofs.Common.{◌≡◌, ℕ, zero, suc, ◌+◌, ◌<◌, ◌≤◌, List, [], ◌∷◌, map, length, All, refl, ap, ⊎_elim, arith}
use Rattle.std.proofs.lemmas.List.Elements.{All-weaker}
use Rattle.std.proofs.lemmas.Bool.{cases_eq, cases_lt}
use Rattle.std.proofs.lemmas.Bool.Decides.{nat_tests}
use Rattle.node.specs.Shape.{Tree, node, none, number, kids, kid, mk, weigh, total}
use Rattle.node.specs.Store.{times}
use Rattle.node.specs.Laws.{same, occurs, below, Distinct, FewNodes, Low}
use Rattle.node.proofs.Weaves.{trees_forest, total_at, total_none, total_same, total_le, total_add, total_each, all_of}
use Rattle.node.proofs.Heights.{many_nodes, fewest_five}

pub same_self : (x : ℕ) → same x x ≡ 1
same_self x = grind (arith, nat_tests)

pub same_other : (x y : ℕ) → (x ≡ y → ⊥) → same x y ≡ 0
same_other x y n = grind (arith, nat_tests)

pub same_at : (x y : ℕ) → 0 < same x y → x ≡ y
same_at x y l = grind (arith, nat_tests)

-- ---- where numbers occur

module _ {E : Type 0} where
  -- at the root and below it
  pub occurs_parts : (x h : ℕ) (t : Tree E) → occurs x h t ≡ same x (number t) + below x h t
  unfolding weigh
  occurs_parts x zero t = omega arith
  occurs_parts x (suc h) t = refl

  pub occurs_root : (h : ℕ) (t : Tree E) → 0 < occurs (number t) h t
  occurs_root h t = omega (arith, occurs_parts (number t) h t, same_self (number t))

  pub occurs_below : (x h : ℕ) (t : Tree E) → below x h t ≤ occurs x h t
  occurs_below x h t = omega (arith, occurs_parts x h t)

  -- in a child
  pub below_kid : (x h : ℕ) (t : Tree E) (i : ℕ) → i < length (kids t) → occurs x h (kid t i) ≤ below x (suc h) t
  below_kid x h t i l = total_at (occurs x h) (kids t) i (node 0 [] none) l

  pub distinct_kid : (h : ℕ) (t : Tree E) (i : ℕ) → Distinct (suc h) t → i < length (kids t) → Distinct h (kid t i)
  distinct_kid h t i d l x = omega (arith, d x, below_kid x h t i l, occurs_below x (suc h) t)

  -- at the top of one of some trees
  pub tops_occur : (x h : ℕ) (ts : List (Tree E)) → times x (map number ts) ≤ total (occurs x h) ts
  tops_occur x h [] = omega arith
  tops_occur x h (t ∷ ts) = omega (arith, occurs_parts x h t, tops_occur x h ts)

  pub occurs_mk : (x h m : ℕ) (es : List E) (ts : List (Tree E)) → occurs x (suc h) (mk m es ts) ≡ same x m + total (occurs x h) ts
  unfolding weigh
  occurs_mk x h m es ts = ap (λ r. same x m + total (occurs x h) r) (trees_forest ts)

-- ---- weights

module _ {E : Type 0} where
  pub weigh_add : (u v : ℕ → ℕ) (h : ℕ) (t : Tree E) → weigh (λ x. u x + v x) h t ≡ weigh u h t + weigh v h t
  unfolding weigh
  weigh_add u v zero t = refl
  weigh_add u v (suc h) t =
      let each : All (λ k. weigh (λ x. u x + v x) h k ≡ weigh u h k + weigh v h k) (kids t) = all_of (λ k. weigh_add u v h k) (kids t) in
      omega (
        arith,
        total_same (weigh (λ x. u x + v x) h) (λ k. weigh u h k + weigh v h k) (kids t) each,
        total_add (weigh u h) (weigh v h) (kids t),
      )

  pub weigh_none : (h : ℕ) (t : Tree E) → weigh (λ _. 0) h t ≡ 0
  unfolding weigh
  weigh_none zero t = refl
  weigh_none (suc h) t = omega (arith, total_none (weigh (λ _. 0) h) (kids t) (all_of (λ k. weigh_none h k) (kids t)))

  -- weights that are less at each number that occurs
  pub weigh_le : (u v : ℕ → ℕ) (h : ℕ) (t : Tree E) → ((x : ℕ) → 0 < occurs x h t → u x ≤ v x) → weigh u h t ≤ weigh v h t
  unfolding weigh
  weigh_le u v zero t f = f (number t) (omega (arith, same_self (number t)))
  weigh_le u v (suc h) t f =
      let root : u (number t) ≤ v (number t) = f (number t) (omega (arith, same_self (number t))) in
      let each : All (λ k. weigh u h k ≤ weigh v h k) (kids t) =
      All-weaker (λ k. (x : ℕ) → occurs x h k ≤ below x (suc h) t) (λ k. weigh u h k ≤ weigh v h k) (λ k g. weigh_le u v h k (λ x l. f x (omega (arith, g x)))) (kids t) (total_each (λ x. occurs x h) (kids t)) in
      omega (arith, total_le (weigh u h) (weigh v h) (kids t) each)

-- ---- as many nodes as numbers

-- how many numbers below n are y
abbrev seen : ℕ → ℕ → ℕ
seen zero y = 0
seen (suc n) y = same n y + seen n y

seen_once : (n y : ℕ) → y < n → 1 ≤ seen n y
seen_once zero y l = absurd (omega arith)
seen_once (suc n) y l =
    ⊎_elim (λ (e : n ≡ y). rw e (omega (arith, same_self y))) (λ (e : n ≡ y → ⊥). omega (arith, seen_once n y (omega arith))) (cases_eq n y)

module _ {E : Type 0} where
  seen_few : (n h : ℕ) (t : Tree E) → Distinct h t → weigh (seen n) h t ≤ n
  seen_few zero h t d = omega (arith, weigh_none h t)
  seen_few (suc n) h t d = omega (arith, weigh_add (same n) (seen n) h t, d n, seen_few n h t d)

  pub few_nodes : FewNodes E
  few_nodes N h t d i = omega (arith, weigh_le (λ _. 1) (seen N) h t (λ x l. seen_once N x (i x l)), seen_few N h t d)

  pub low : Low E
  low N zero t w d i m = omega arith
  low N (suc h) t w d i m =
      ⊎_elim (λ (l : h < 5). omega arith) (λ (l : 5 ≤ h). absurd (omega (arith, many_nodes h t w, fewest_five h l, few_nodes N (suc h) t d i))) (cases_lt h 5)
