-- Insertion: what it keeps and what it adds.
use Rattle.std.proofs.Common.{◌≡◌, ℕ, zero, suc, ◌+◌, ◌<◌, ◌≤◌, Bool, cond, ltb, leb, List, [], ◌∷◌, ◌++◌, map, length, get_or, take, drop, All, sym, refl, ap, ◌∙◌, subst, ap₂, append_assoc, arith, length-append, length-drop, take-append-drop, length-take}
use lib.Seq.{split_at}
use Rattle.std.proofs.lemmas.List.Elements.{All-take, All-drop, All-append, All-cons}
use Rattle.std.proofs.lemmas.Bool.{cond_both, cond-true, cond-false, leb-true, leb-false, ltb-true, ltb-false, lt-ltb, le-ltb, le-leb, lt-leb}
use Rattle.node.specs.Shape.{Tree, node, none, number, row, kids, kid, mk, flat, weave, before, after, total, weigh, Within, Formed, root_least}
use Rattle.rules.specs.Rules.{low, high, part, rise, grow, planted, run, upto}
use Rattle.node.specs.Rules.{Grown, whole, parted, settle, put, swap}
use Rattle.node.specs.Sorted.{index}
use Rattle.rules.specs.Laws.{InsertFormed, InsertFlat, InsertNumbers, InsertSize, GrowAgrees}
use Rattle.node.proofs.Weaves.{trees_forest, total_append, flat_mk, all_two}
use Rattle.rules.proofs.Nodes.{fan_out, flats, flat_leaf, flat_patch, weigh_mk, within_mk, within_least, within_most, within_fan, within_limbs, within_kid, Limbs, part_flat, part_weigh, part_within}
use Rattle.rules.proofs.Ways.{index_le}
use Rattle.rules.proofs.Puts.{Fits, part_low, part_high}

module _ {E : Type 0} where
  -- the two outcomes of `settle`: the node with its new entry, whole or parted at 7 or 6
  pub settle_cases : (P : Grown E → Type 0) (fresh m i : ℕ) (es : List E) (ks : List (Tree E)) (x : E) (new : List (Tree E))
      → i ≤ length es → Fits i new ks
      → (length es < 11 → P (whole (mk m (put i x es) (swap i new ks))))
      → ((c : ℕ) → 6 ≤ c → c ≤ 7 → 11 ≤ length es → P (part c fresh m (put i x es) (swap i new ks) x))
      → P (settle fresh m i es ks x new)
  settle_cases P fresh m i es ks x new j f p q =
      cond_both (ltb (length es) 11) _ _ P
      (λ h. p (ltb-true (length es) 11 h))
      (λ h. cond_both (leb i 6) _ _ P
      (λ u. subst P (part_low fresh m i es ks x new (leb-true i 6 u) f) (q 7 (omega arith) (omega arith) (ltb-false (length es) 11 h)))
      (λ u. subst P (part_high fresh m i es ks x new (leb-false i 6 u) j f) (q 6 (omega arith) (omega arith) (ltb-false (length es) 11 h))))

  pub settle_flat : (h fresh m i : ℕ) (es : List E) (ks : List (Tree E)) (x : E) (new : List (Tree E)) → i ≤ length es → Fits i new ks
      → flats h (settle fresh m i es ks x new) ≡ flat h (mk m (put i x es) (swap i new ks))
  settle_flat h fresh m i es ks x new j f =
      settle_cases (λ g. flats h g ≡ flat h (mk m (put i x es) (swap i new ks))) fresh m i es ks x new j f
      (λ _. refl) (λ c p q r. part_flat h c fresh m (put i x es) (swap i new ks) x (simp (length-append, length-take, length-drop) (omega arith)))

  -- how a grown tree is formed
  abbrev pub Withins : ℕ → ℕ → Grown E → Type 0
  Withins least h (whole t) = Within least h t
  Withins least h (parted l x r) = Within 4 h l × Within 4 h r

  pub settle_within : (least h fresh m i : ℕ) (es : List E) (ks : List (Tree E)) (x : E) (new : List (Tree E)) → i ≤ length es → Fits i new ks
      → least ≤ length es → length es ≤ 11 → length (swap i new ks) ≡ fan_out h (suc (length es)) → Limbs h (swap i new ks) → Withins least h (settle fresh m i es ks x new)
  settle_within least h fresh m i es ks x new j fit p q f a =
      let long : length (put i x es) ≡ suc (length es) = simp (length-append, length-take, length-drop) (omega arith) in
      let fan : length (swap i new ks) ≡ fan_out h (length (put i x es)) = subst (λ n. length (swap i new ks) ≡ fan_out h n) (sym long) f in
      settle_cases (Withins least h) fresh m i es ks x new j fit
      (λ r. within_mk least h m (put i x es) (swap i new ks) (omega arith) (omega arith) fan a)
      (λ c s t r. part_within h c fresh m (put i x es) (swap i new ks) x (omega arith) (omega arith) (omega arith) (omega arith) fan a)

  -- a node whose child has grown
  pub rise_flat : (h fresh m i : ℕ) (es : List E) (ks : List (Tree E)) (g : Grown E) → i ≤ length es → length ks ≡ suc (length es)
      → flats (suc h) (rise fresh m i es ks g) ≡ before (map (flat h) (take i ks)) (take i es) ++ (flats h g ++ after (map (flat h) (drop (suc i) ks)) (drop i es))
  rise_flat h fresh m i es ks (whole k) q f =
      flat_mk h m es (take i ks ++ k ∷ drop (suc i) ks)
      ∙ ap (λ r. weave (map (flat h) (take i ks ++ k ∷ drop (suc i) ks)) r) (sym (take-append-drop i es))
      ∙ flat_patch h (whole k) (take i ks) (drop (suc i) ks) (take i es) (drop i es) (simp length-take (omega arith))
  rise_flat h fresh m i es ks (parted l x r) q f =
      settle_flat (suc h) fresh m i es ks x (l ∷ r ∷ []) q (omega arith)
      ∙ flat_mk h m (take i es ++ x ∷ drop i es) (take i ks ++ l ∷ r ∷ drop (suc i) ks)
      ∙ flat_patch h (parted l x r) (take i ks) (drop (suc i) ks) (take i es) (drop i es) (simp length-take (omega arith))

  pub rise_within : (least h fresh m i : ℕ) (es : List E) (ks : List (Tree E)) (g : Grown E) → least ≤ length es → length es ≤ 11 → i ≤ length es
      → length ks ≡ suc (length es) → All (Within 4 h) ks → Withins 4 h g → Withins least (suc h) (rise fresh m i es ks g)
  rise_within least h fresh m i es ks (whole k) p q j f a w =
      within_mk least (suc h) m es (take i ks ++ k ∷ drop (suc i) ks) p q
      (simp (length-append, length-take, length-drop) (omega arith))
      (All-append (Within 4 h) (take i ks) (k ∷ drop (suc i) ks) (All-take (Within 4 h) i ks a) (All-cons (Within 4 h) k (drop (suc i) ks) w (All-drop (Within 4 h) (suc i) ks a)))
  rise_within least h fresh m i es ks (parted l x r) p q j f a w =
      settle_within least (suc h) fresh m i es ks x (l ∷ r ∷ []) j (omega arith) p q
      (simp (length-append, length-take, length-drop) (omega arith))
      (All-append (Within 4 h) (take i ks) (l ∷ r ∷ drop (suc i) ks) (All-take (Within 4 h) i ks a) (All-cons (Within 4 h) l (r ∷ drop (suc i) ks) w.0 (All-cons (Within 4 h) r (drop (suc i) ks) w.1 (All-drop (Within 4 h) (suc i) ks a))))

  pub planted_formed : (top h : ℕ) (g : Grown E) → Withins (root_least h) h g → Formed (planted top h g).0 (planted top h g).1
  planted_formed top h (whole t) w = w
  planted_formed top h (parted l x r) w = within_mk 1 (suc h) top (x ∷ []) (l ∷ r ∷ []) (omega arith) (omega arith) refl
      (all_two (Within 4 h) l r w.0 w.1)

  pub planted_flat : (top h : ℕ) (g : Grown E) → flat (planted top h g).0 (planted top h g).1 ≡ flats h g
  planted_flat top h (whole t) = refl
  planted_flat top h (parted l x r) = flat_mk h top (x ∷ []) (l ∷ r ∷ [])

  module _ (fresh : ℕ → ℕ) (b : E → Bool) (e : E) where
    pub grow_flat : (least h : ℕ) (t : Tree E) → Within least h t → flats h (grow fresh b e h t) ≡ low b h t ++ e ∷ high b h t
    unfolding grow low high
    grow_flat least zero t w =
        let es : List E = take (index b (row t)) (row t) ++ e ∷ drop (index b (row t)) (row t) in
        settle_flat zero (fresh 0) (number t) (index b (row t)) (row t) [] e [] (index_le b (row t)) refl ∙ flat_leaf (mk (number t) es [])
    grow_flat least (suc h) t w =
        let i : ℕ = index b (row t) in
        let ante : List E = before (map (flat h) (take i (kids t))) (take i (row t)) in
        let post : List E = after (map (flat h) (drop (suc i) (kids t))) (drop i (row t)) in
        rise_flat h (fresh (suc h)) (number t) i (row t) (kids t) (grow fresh b e h (kid t i)) (index_le b (row t)) (within_fan least (suc h) t w)
        ∙ ap (λ r. ante ++ (r ++ post)) (grow_flat 4 h (kid t i) (within_kid least h t i w (index_le b (row t))))
        ∙ ap (λ r. ante ++ r) (append_assoc (low b h (kid t i)) (e ∷ high b h (kid t i)) post)
        ∙ sym (append_assoc ante (low b h (kid t i)) (e ∷ (high b h (kid t i) ++ post)))

    pub grow_within : (least h : ℕ) (t : Tree E) → Within least h t → Withins least h (grow fresh b e h t)
    unfolding grow
    grow_within least zero t w =
        settle_within least zero (fresh 0) (number t) (index b (row t)) (row t) [] e [] (index_le b (row t)) refl
        (within_least least zero t w) (within_most least zero t w) refl tt
    grow_within least (suc h) t w =
        let i : ℕ = index b (row t) in
        rise_within least h (fresh (suc h)) (number t) i (row t) (kids t) (grow fresh b e h (kid t i))
        (within_least least (suc h) t w) (within_most least (suc h) t w) (index_le b (row t)) (within_fan least (suc h) t w) (within_limbs least (suc h) t w)
        (grow_within 4 h (kid t i) (within_kid least h t i w (index_le b (row t))))

pub insert_formed : {E : Type 0} → InsertFormed E
insert_formed fresh top b e h t w = planted_formed top h (grow fresh b e h t) (grow_within fresh b e (root_least h) h t w)

pub insert_flat : {E : Type 0} → InsertFlat E
insert_flat fresh top b e h t w = planted_flat top h (grow fresh b e h t) ∙ grow_flat fresh b e (root_least h) h t w

-- the numbers
abbrev weight : (ℕ → ℕ) → (ℕ → ℕ) → ℕ → ℕ
weight w fresh n = upto (λ l. w (fresh l)) n

module _ {E : Type 0} (w fresh : ℕ → ℕ) where
  -- n fresh nodes make of a tree of weight old a grown one
  abbrev Used : ℕ → ℕ → ℕ → Grown E → Type 0
  Used n h old (whole k) = (n ≤ h) × (weigh w h k ≡ old + weight w fresh n)
  Used n h old (parted l x r) = (n ≡ suc h) × (weigh w h l + weigh w h r ≡ old + weight w fresh n)

  -- one part of a sum replaced
  total_patch : (f : Tree E → ℕ) (i : ℕ) (ks mid : List (Tree E)) (d : Tree E) → i < length ks
      → total f (take i ks ++ (mid ++ drop (suc i) ks)) + f (get_or ks i d) ≡ total f ks + total f mid
  total_patch f i ks mid d q =
      omega (arith, total_append f (take i ks) (mid ++ drop (suc i) ks), total_append f mid (drop (suc i) ks), total_append f (take i ks) (get_or ks i d ∷ drop (suc i) ks), ap (total f) (split_at ks i d q))

  rise_used : (b : E → Bool) (h : ℕ) (t : Tree E) (n : ℕ) (g : Grown E) → length (kids t) ≡ suc (length (row t)) → n ≡ run b h (kid t (index b (row t)))
      → Used n h (weigh w h (kid t (index b (row t)))) g
      → Used (run b (suc h) t) (suc h) (weigh w (suc h) t) (rise (fresh (suc h)) (number t) (index b (row t)) (row t) (kids t) g)
  unfolding run weigh
  rise_used b h t n (whole k) f r u =
      let i : ℕ = index b (row t) in
      let j = index_le b (row t) in
      let same : run b (suc h) t ≡ n = cond-true (ltb (run b h (kid t i)) (suc h)) (run b h (kid t i)) _ (lt-ltb (run b h (kid t i)) (suc h) (omega arith)) ∙ sym r in
      let sums = total_patch (weigh w h) i (kids t) (k ∷ []) (node 0 [] none) (omega arith) in
      (rw same (omega arith), simp (trees_forest, same) (omega arith))
  rise_used b h t n (parted l x y) f r u =
      let i : ℕ = index b (row t) in
      let j = index_le b (row t) in
      let es : List E = take i (row t) ++ x ∷ drop i (row t) in
      let ks : List (Tree E) = take i (kids t) ++ l ∷ y ∷ drop (suc i) (kids t) in
      let past : run b (suc h) t ≡ cond (ltb (length (row t)) 11) (suc h) (suc (suc h)) =
      cond-false (ltb (run b h (kid t i)) (suc h)) (run b h (kid t i)) _ (le-ltb (run b h (kid t i)) (suc h) (omega arith)) in
      let sums = total_patch (weigh w h) i (kids t) (l ∷ y ∷ []) (node 0 [] none) (omega arith) in
      let long : length es ≡ suc (length (row t)) = simp (length-append, length-take, length-drop) (omega arith) in
      let up : weight w fresh n ≡ weight w fresh (suc h) = ap (weight w fresh) u.0 in
      settle_cases (Used (run b (suc h) t) (suc h) (weigh w (suc h) t)) (fresh (suc h)) (number t) i (row t) (kids t) x (l ∷ y ∷ []) j (omega arith)
      (λ q.
      let same : run b (suc h) t ≡ suc h = past ∙ cond-true (ltb (length (row t)) 11) (suc h) (suc (suc h)) (lt-ltb (length (row t)) 11 (omega arith)) in
      (rw same (omega arith), simp (trees_forest, same) (omega arith)))
      (λ c _ _ q.
      let same : run b (suc h) t ≡ suc (suc h) = past ∙ cond-false (ltb (length (row t)) 11) (suc h) (suc (suc h)) (le-ltb (length (row t)) 11 (omega arith)) in
      (same, simp same (omega (arith, part_weigh w (suc h) c (fresh (suc h)) (number t) es ks x, weigh_mk w h (number t) es ks))))

  grow_used : (b : E → Bool) (e : E) (least h : ℕ) (t : Tree E) → Within least h t → Used (run b h t) h (weigh w h t) (grow fresh b e h t)
  unfolding run weigh grow
  grow_used b e least zero t v =
      let i : ℕ = index b (row t) in
      let j = index_le b (row t) in
      let es : List E = take i (row t) ++ e ∷ drop i (row t) in
      let long : length es ≡ suc (length (row t)) = simp (length-append, length-take, length-drop) (omega arith) in
      settle_cases (Used (run b zero t) zero (weigh w zero t)) (fresh 0) (number t) i (row t) [] e [] j refl
      (λ q.
      let same : run b zero t ≡ 0 = cond-true (ltb (length (row t)) 11) 0 1 (lt-ltb (length (row t)) 11 (omega arith)) in
      (rw same (omega arith), simp same (omega arith)))
      (λ c _ _ q.
      let same : run b zero t ≡ 1 = cond-false (ltb (length (row t)) 11) 0 1 (le-ltb (length (row t)) 11 (omega arith)) in
      (same, simp same (omega arith)))
  grow_used b e least (suc h) t v =
      let i : ℕ = index b (row t) in
      rise_used b h t (run b h (kid t i)) (grow fresh b e h (kid t i)) (within_fan least (suc h) t v) refl
      (grow_used b e 4 h (kid t i) (within_kid least h t i v (index_le b (row t))))

  planted_used : (top n h old : ℕ) (g : Grown E) → Used n h old g
      → (weigh w (planted top h g).0 (planted top h g).1 ≡ old + (weight w fresh n + cond (leb (suc h) n) (w top) 0)) × (n ≤ suc h)
  planted_used top n h old (whole k) u =
      (rw (cond-false (leb (suc h) n) (w top) 0 (lt-leb (suc h) n (omega arith))) (omega arith), omega arith)
  planted_used top n h old (parted l x r) u =
      (rw (cond-true (leb (suc h) n) (w top) 0 (le-leb (suc h) n (omega arith))) (omega (arith, weigh_mk w h top (x ∷ []) (l ∷ r ∷ []))), omega arith)

pub insert_numbers : {E : Type 0} → InsertNumbers E
insert_numbers w fresh top b e h t v = planted_used w fresh top (run b h t) h (weigh w h t) (grow fresh b e h t) (grow_used w fresh b e (root_least h) h t v)

upto_one : (n : ℕ) → upto (λ _. 1) n ≡ n
upto_one zero = refl
upto_one (suc n) = omega (arith, upto_one n)

pub insert_size : {E : Type 0} → InsertSize E
insert_size fresh top b e h t v = (insert_numbers (λ _. 1) fresh top b e h t v).0 ∙ ap (λ n. weigh (λ _. 1) h t + (n + cond (leb (suc h) (run b h t)) 1 0)) (upto_one (run b h t))

pub grow_agrees : {E : Type 0} → GrowAgrees E
unfolding grow
grow_agrees fresh fresh' b e zero t a = ap (λ n. settle n (number t) (index b (row t)) (row t) [] e []) (a 0 (omega arith))
grow_agrees fresh fresh' b e (suc h) t a =
    ap₂ (λ n g. rise n (number t) (index b (row t)) (row t) (kids t) g) (a (suc h) (omega arith))
    (grow_agrees fresh fresh' b e h (kid t (index b (row t))) (λ l p. a l (omega arith)))
