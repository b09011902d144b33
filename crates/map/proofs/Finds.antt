-- What a lookup finds in the list of a tree. Assumes nothing.
use Rattle.node.proofs.Weaves.{all_back}
use Rattle.rules.proofs.Searches.{first_is, made_le}
use Rattle.rules.proofs.Sorts.{sorted_parts}
use Rattle.std.proofs.Common.{◌≡◌, ℕ, zero, suc, ◌+◌, ◌*◌, ◌≤◌, Bool, true, false, cond, List, [], ◌∷◌, ◌++◌, map, length, take, drop, Some, None, All, Contains, Option, Ordering, Less, Equal, Greater, sym, refl, ap, subst, arith, take-append-drop}
use Rattle.std.specs.Ordering.{is_lt, is_le, is_gt}
use Rattle.std.proofs.lemmas.List.Elements.{All-append, All-weaker, Contains-get_or, Contains-append_left, Contains-append_right, All-nil, All-cons, All-head}
use Rattle.order.specs.Found.{passed, first_not_below, found_at, comparisons}
use Rattle.node.specs.Shape.{Tree, row, kids, kid, flat, before, after, weave, Within, root_least}
use Rattle.node.specs.Sorted.{Sorted, Downward, Rising}
use Rattle.node.specs.Store.{first}
use Rattle.node.proofs.Sorting.{sorted_rises}
use Rattle.rules.proofs.Nodes.{flat_open, within_fan, within_kid, within_most}
use Rattle.rules.proofs.Ways.{index_le, index_yes, before_yes}
use Rattle.map.specs.Lookup.{nth, seek, looks, Sought, LookupFinds, LookupAlone, LookupBound}

module _ {E : Type 0} (place : E → Ordering) where
  -- below the query
  abbrev b : E → Bool
  b e = is_gt (place e)

  abbrev pub Not : List E → Type 0
  Not l = All (λ e. place e ≡ Equal → ⊥) l

  -- where the search in a node stops
  abbrev pub at : Tree E → ℕ
  at t = first_not_below place (row t)

  pub at_le : (t : Tree E) → at t ≤ length (row t)
  at_le t = omega (arith, first_is place (row t), index_le b (row t))

  -- the first that is not below is above, where none was found
  abbrev pub Above : List E → Type 0
  Above [] = Unit {0}
  Above (e ∷ es) = place e ≡ Less

  pub stops_above : (es : List E) → found_at place es ≡ false → Above (drop (first_not_below place es) es)
  stops_above [] f = tt
  stops_above (e ∷ es) f = go (place e) refl f (λ q. stops_above es q)
    where
      go : (o : Ordering) → place e ≡ o → passed o false true (found_at place es) ≡ false → (found_at place es ≡ false → Above (drop (first_not_below place es) es))
          → Above (drop (passed o 0 0 (first_not_below place es + 1)) (e ∷ es))
      go Less p q ih = p
      go Equal p q ih = let z : ◌≡◌ {A = ℕ} 0 1 = cc in absurd (omega arith)
      go Greater p q ih = let z : first_not_below place es + 1 ≡ suc (first_not_below place es) = omega arith in rw z (ih q)

  -- the one that was found
  pub record Hit (es : List E) : Type 0 where
    pub entry : E
    pub rest : List E
    pub there : drop (first_not_below place es) es ≡ entry ∷ rest
    pub nth_is : nth es (first_not_below place es) ≡ Some entry
    pub same : place entry ≡ Equal

  pub hit : (es : List E) → found_at place es ≡ true → Hit es
  hit [] f = let z : ◌≡◌ {A = ℕ} 0 1 = cc in absurd (omega arith)
  hit (e ∷ es) f =
      let r = go (place e) refl f (λ q. hit es q) in
      record { entry = r.0; rest = r.1; there = r.2; nth_is = r.3; same = r.4 }
    where
      go : (o : Ordering) → place e ≡ o → passed o false true (found_at place es) ≡ true → (found_at place es ≡ true → Hit es)
          → (x : E) × (xs : List E) × (drop (passed o 0 0 (first_not_below place es + 1)) (e ∷ es) ≡ x ∷ xs) × (nth (e ∷ es) (passed o 0 0 (first_not_below place es + 1)) ≡ Some x) × (place x ≡ Equal)
      go Less p q ih = let z : ◌≡◌ {A = ℕ} 0 1 = cc in absurd (omega arith)
      go Equal p q ih = (e, es, refl, refl, p)
      go Greater p q ih =
          let z : first_not_below place es + 1 ≡ suc (first_not_below place es) = omega arith in
          let r = ih q in
          (r.entry, r.rest, rw z r.there, rw z r.nth_is, r.same)

  -- what is in order behind one that is above the query is above it
  module _ (le : E → E → Bool) (up : (x y : E) → le x y ≡ true → place x ≡ Less → place y ≡ Less) (down : Downward le b) where
    above_all : (es : List E) → Above es → Sorted le es → All (λ e. place e ≡ Less) es
    above_all [] a s = All-nil (λ e. place e ≡ Less)
    above_all (e ∷ es) a s = All-cons (λ y. place y ≡ Less) e es a (All-weaker (λ y. le e y ≡ true) (λ y. place y ≡ Less) (λ y l. up e y l a) es s.0)

    pub above_not : (es : List E) → Above es → Sorted le es → Not es
    above_not es a s = All-weaker (λ e. place e ≡ Less) (λ e. place e ≡ Equal → ⊥) (λ e l q. let z : ◌≡◌ {A = ℕ} 0 1 = cc in omega arith) es (above_all es a s)

    pub below_not : (es : List E) → All (λ e. b e ≡ true) es → Not es
    below_not es y = All-weaker (λ e. b e ≡ true) (λ e. place e ≡ Equal → ⊥) (λ e l q. let z : is_gt (place e) ≡ false = ap is_gt q in let y : ◌≡◌ {A = ℕ} 0 1 = cc in omega arith) es y

    -- the entry behind a child, and what follows it
    pub after_above : (ls : List (List E)) (es : List E) → Above es → Above (after ls es)
    after_above ls [] a = tt
    after_above ls (e ∷ es) a = a

    pub front_below : (t : Tree E) → All (λ e. b e ≡ true) (take (at t) (row t))
    front_below t = subst (λ i. All (λ e. b e ≡ true) (take i (row t))) (sym (first_is place (row t))) (index_yes b (row t))

    leaf_not : (t : Tree E) → Sorted le (row t) → found_at place (row t) ≡ false → Not (row t)
    leaf_not t s f =
        let e : take (at t) (row t) ++ drop (at t) (row t) ≡ row t = take-append-drop (at t) (row t) in
        let p = sorted_parts le (take (at t) (row t)) (drop (at t) (row t)) (subst (Sorted le) (sym e) s) in
        subst Not e
        (All-append (λ e. place e ≡ Equal → ⊥) (take (at t) (row t)) (drop (at t) (row t)) (below_not (take (at t) (row t)) (front_below t))
        (above_not (drop (at t) (row t)) (stops_above (row t) f) p.1))

    module _ (least h : ℕ) (t : Tree E) (w : Within least (suc h) t) where
      ante : List E
      ante = before (map (flat h) (take (at t) (kids t))) (take (at t) (row t))

      post : List E
      post = after (map (flat h) (drop (suc (at t)) (kids t))) (drop (at t) (row t))

      open_at : flat (suc h) t ≡ ante ++ (flat h (kid t (at t)) ++ post)
      unfolding ante post
      open_at = flat_open h t (at t) (at_le t) (within_fan least (suc h) t w)

      inner_not : Sorted le (flat (suc h) t) → found_at place (row t) ≡ false → Not (flat h (kid t (at t))) → Not (flat (suc h) t)
      unfolding ante post
      inner_not s f k =
          let s' : Sorted le (ante ++ (flat h (kid t (at t)) ++ post)) = subst (Sorted le) open_at s in
          let p = sorted_parts le ante (flat h (kid t (at t)) ++ post) s' in
          let q = sorted_parts le (flat h (kid t (at t))) post p.1 in
          let r : Rising b ante = sorted_rises le b down ante p.0 in
          subst Not (sym open_at)
          (All-append (λ e. place e ≡ Equal → ⊥) ante (flat h (kid t (at t)) ++ post)
          (below_not ante (before_yes b (map (flat h) (take (at t) (kids t))) (take (at t) (row t)) (front_below t) r))
          (All-append (λ e. place e ≡ Equal → ⊥) (flat h (kid t (at t))) post k
          (above_not post (after_above (map (flat h) (drop (suc (at t)) (kids t))) (drop (at t) (row t)) (stops_above (row t) f)) q.1)))

      inner_sorted : Sorted le (flat (suc h) t) → Sorted le (flat h (kid t (at t)))
      inner_sorted s =
          let p = sorted_parts le ante (flat h (kid t (at t)) ++ post) (subst (Sorted le) open_at s) in (sorted_parts le (flat h (kid t (at t))) post p.1).0

      inner_has : (e : E) → Contains (flat h (kid t (at t))) e → Contains (flat (suc h) t) e
      inner_has e k = subst (λ l. Contains l e) (sym open_at) (Contains-append_right ante (flat h (kid t (at t)) ++ post) e (Contains-append_left (flat h (kid t (at t))) post e k))

      hit_has : (x : Hit (row t)) → Contains (flat (suc h) t) x.entry
      unfolding ante post
      hit_has x =
          let rest : List E = weave (map (flat h) (drop (suc (at t)) (kids t))) x.rest in
          let e : post ≡ x.entry ∷ rest = ap (after (map (flat h) (drop (suc (at t)) (kids t)))) x.there in
          subst (λ l. Contains l x.entry) (sym open_at)
          (Contains-append_right ante (flat h (kid t (at t)) ++ post) x.entry
          (Contains-append_right (flat h (kid t (at t))) post x.entry (subst (λ l. Contains l x.entry) (sym e) (Contains-get_or (x.entry ∷ rest) 0 x.entry (omega arith)))))

    leaf_has : (t : Tree E) (x : Hit (row t)) → Contains (row t) x.entry
    leaf_has t x =
        subst (λ l. Contains l x.entry) (take-append-drop (at t) (row t))
        (Contains-append_right (take (at t) (row t)) (drop (at t) (row t)) x.entry (subst (λ l. Contains l x.entry) (sym x.there) (Contains-get_or (x.entry ∷ x.rest) 0 x.entry (omega arith))))

    lifted : (l m : List E) (r : Option E) → (Not m → Not l) → ((e : E) → Contains m e → Contains l e) → Sought place m r → Sought place l r
    lifted l m None f g s = f s
    lifted l m (Some e) f g s = (g e s.0, s.1)

    finds : (least h : ℕ) (t : Tree E) → Within least h t → Sorted le (flat h t) → Sought place (flat h t) (seek place h t)
    unfolding seek flat
    finds least zero t w s = go (found_at place (row t)) refl
      where
        go : (f : Bool) → found_at place (row t) ≡ f → Sought place (row t) (cond f (nth (row t) (at t)) None)
        go true f = let x = hit (row t) f in subst (Sought place (row t)) (sym x.nth_is) (leaf_has t x, x.same)
        go false f = leaf_not t s f
    finds least (suc h) t w s =
        let ih = finds 4 h (kid t (at t)) (within_kid least h t (at t) w (at_le t)) (inner_sorted least h t w s) in
        go (found_at place (row t)) refl ih
      where
        go : (f : Bool) → found_at place (row t) ≡ f → Sought place (flat h (kid t (at t))) (seek place h (kid t (at t)))
            → Sought place (flat (suc h) t) (cond f (nth (row t) (at t)) (seek place h (kid t (at t))))
        go true f ih = let x = hit (row t) f in subst (Sought place (flat (suc h) t)) (sym x.nth_is) (hit_has least h t w x, x.same)
        go false f ih = lifted (flat (suc h) t) (flat h (kid t (at t))) (seek place h (kid t (at t))) (inner_not least h t w s f) (inner_has least h t w) ih

pub lookup_finds : {K V Q : Type 0} → LookupFinds K V Q
lookup_finds compares places q h t p w s =
    finds (λ e. places q (first e)) (λ x y. is_lt (compares (first x) (first y)))
    (λ x y l u. p.under q (first x) (first y) (less_le (compares (first x) (first y)) l) u)
    (λ x y l u. let g : places q (first y) ≡ Greater = gt_is (places q (first y)) u in ap is_gt (p.over q (first x) (first y) (less_le (compares (first x) (first y)) l) g))
    (root_least h) h t w s
  where
    less_le : (o : Ordering) → is_lt o ≡ true → is_le o ≡ true
    less_le Less e = refl
    less_le Equal e = let z : ◌≡◌ {A = ℕ} 0 1 = cc in absurd (omega arith)
    less_le Greater e = let z : ◌≡◌ {A = ℕ} 0 1 = cc in absurd (omega arith)

    gt_is : (o : Ordering) → is_gt o ≡ true → o ≡ Greater
    gt_is Less e = let z : ◌≡◌ {A = ℕ} 0 1 = cc in absurd (omega arith)
    gt_is Equal e = let z : ◌≡◌ {A = ℕ} 0 1 = cc in absurd (omega arith)
    gt_is Greater e = refl

-- ---- there is no other

module _ {E : Type 0} (le : E → E → Bool) where
  all_mid : (P : E → Type 0) (xs : List E) (e : E) (ys : List E) → All P (xs ++ e ∷ ys) → P e
  all_mid P xs e ys a = All-head P e ys (all_back P xs (e ∷ ys) a)

  sorted_mid : (xs : List E) (e : E) (ys : List E) → Sorted le (xs ++ e ∷ ys) → All (λ x. le x e ≡ true) xs × All (λ y. le e y ≡ true) ys
  sorted_mid [] e ys s = (All-nil (λ x. le x e ≡ true), s.0)
  sorted_mid (x ∷ xs) e ys s = let r = sorted_mid xs e ys s.1 in (All-cons (λ y. le y e ≡ true) x xs (all_mid (λ y. le x y ≡ true) xs e ys s.0) r.0, r.1)

pub lookup_alone : {K V Q : Type 0} → LookupAlone K V Q
lookup_alone {K} {V} {Q} compares places q o p xs e ys s h =
    let r = sorted_mid (λ x y. is_lt (compares (first x) (first y))) xs e ys s in (
      All-weaker (λ x. is_lt (compares (first x) (first e)) ≡ true) (λ x. places q (first x) ≡ Equal → ⊥) (λ x l k. not_both (compares (first x) (first e)) l (p.single q (first x) (first e) k h)) xs r.0,
      All-weaker (λ y. is_lt (compares (first e) (first y)) ≡ true) (λ y. places q (first y) ≡ Equal → ⊥) (λ y l k. not_both (compares (first e) (first y)) l (p.single q (first e) (first y) h k)) ys r.1,
    )
  where
    not_both : (c : Ordering) → is_lt c ≡ true → c ≡ Equal → ⊥
    not_both c l k = let z : is_lt c ≡ false = ap is_lt k in let y : ◌≡◌ {A = ℕ} 0 1 = cc in omega arith

-- ---- how many comparisons

looks_le : {E : Type 0} (place : E → Ordering) (least h : ℕ) (t : Tree E) → Within least h t → looks place h t ≤ 11 * (h + 1)
unfolding looks
looks_le place least zero t w = omega (arith, made_le place (row t), within_most least zero t w)
looks_le place least (suc h) t w =
    let i : ℕ = first_not_below place (row t) in
    let ih = looks_le place 4 h (kid t i) (within_kid least h t i w (omega (arith, first_is place (row t), index_le (b place) (row t)))) in
    let n = made_le place (row t) in
    let m = within_most least (suc h) t w in
    elim (found_at place (row t)) as (λ f. comparisons place (row t) + cond f 0 (looks place h (kid t i)) ≤ 11 * (suc h + 1)) [ true ↦ omega arith | false ↦ omega arith ]

pub lookup_bound : {E : Type 0} → LookupBound E
lookup_bound place h t w = looks_le place (root_least h) h t w
