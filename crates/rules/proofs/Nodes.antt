-- Nodes made by `mk`, and parted ones.
use Rattle.std.proofs.Common.{◌≡◌, ℕ, zero, suc, ◌+◌, ◌<◌, ◌≤◌, List, [], ◌∷◌, ◌++◌, map, length, take, drop, All, sym, refl, ap, ◌∙◌, append_assoc, arith, length-drop, take-append-drop, length-take}
use lib.Seq.{split_at}
use Rattle.std.proofs.lemmas.List.Elements.{All-take, All-drop, All-append, All-get_or}
use Rattle.std.proofs.lemmas.List.{take-map, drop-map, map-append}
use Rattle.node.specs.Shape.{Tree, node, none, row, kids, kid, mk, flat, weave, before, after, total, weigh, Within}
use Rattle.rules.specs.Rules.{weighs, part}
use Rattle.node.specs.Rules.{Grown, whole, parted}
use Rattle.node.proofs.Weaves.{trees_forest, weave_cons, weave_mid, weave_part, total_cut}

-- how many children a node of n entries has
abbrev pub fan_out : ℕ → ℕ → ℕ
fan_out zero n = 0
fan_out (suc h) n = suc n

-- the entries of what grew, in order
abbrev pub flats : {E : Type 0} → ℕ → Grown E → List E
flats h (whole t) = flat h t
flats h (parted l x r) = flat h l ++ x ∷ flat h r

module _ {E : Type 0} where
  pub flat_leaf : (t : Tree E) → flat zero t ≡ row t
  unfolding flat
  flat_leaf t = refl

  pub flat_inner : (h : ℕ) (t : Tree E) → flat (suc h) t ≡ weave (map (flat h) (kids t)) (row t)
  unfolding flat
  flat_inner h t = refl

  pub weigh_mk : (w : ℕ → ℕ) (h m : ℕ) (es : List E) (ks : List (Tree E)) → weigh w (suc h) (mk m es ks) ≡ w m + total (weigh w h) ks
  unfolding weigh
  weigh_mk w h m es ks = ap (λ r. w m + total (weigh w h) r) (trees_forest ks)

  -- the children of a node of height h are formed
  abbrev pub Limbs : ℕ → List (Tree E) → Type 0
  Limbs zero ks = Unit {0}
  Limbs (suc h) ks = All (Within 4 h) ks

  pub limbs_take : (h n : ℕ) (ks : List (Tree E)) → Limbs h ks → Limbs h (take n ks)
  limbs_take zero n ks a = tt
  limbs_take (suc h) n ks a = All-take (Within 4 h) n ks a

  pub limbs_drop : (h n : ℕ) (ks : List (Tree E)) → Limbs h ks → Limbs h (drop n ks)
  limbs_drop zero n ks a = tt
  limbs_drop (suc h) n ks a = All-drop (Within 4 h) n ks a

  pub limbs_append : (h : ℕ) (ks ls : List (Tree E)) → Limbs h ks → Limbs h ls → Limbs h (ks ++ ls)
  limbs_append zero ks ls a c = tt
  limbs_append (suc h) ks ls a c = All-append (Within 4 h) ks ls a c

  pub within_mk : (least h m : ℕ) (es : List E) (ks : List (Tree E)) → least ≤ length es → length es ≤ 11 → length ks ≡ fan_out h (length es) → Limbs h ks → Within least h (mk m es ks)
  unfolding Within
  within_mk least zero m es ks p q r a = (p, q, rw trees_forest r)
  within_mk least (suc h) m es ks p q r a = (p, q, rw trees_forest r, rw trees_forest a)

  pub within_least : (least h : ℕ) (t : Tree E) → Within least h t → least ≤ length (row t)
  unfolding Within
  within_least least zero t w = w.0
  within_least least (suc h) t w = w.0

  pub within_most : (least h : ℕ) (t : Tree E) → Within least h t → length (row t) ≤ 11
  unfolding Within
  within_most least zero t w = w.1
  within_most least (suc h) t w = w.1

  pub within_fan : (least h : ℕ) (t : Tree E) → Within least h t → length (kids t) ≡ fan_out h (length (row t))
  unfolding Within
  within_fan least zero t w = w.2
  within_fan least (suc h) t w = w.2

  pub within_limbs : (least h : ℕ) (t : Tree E) → Within least h t → Limbs h (kids t)
  unfolding Within
  within_limbs least zero t w = tt
  within_limbs least (suc h) t w = w.3

  -- another least number
  pub within_from : (least most h : ℕ) (t : Tree E) → Within least h t → most ≤ length (row t) → Within most h t
  unfolding Within
  within_from least most zero t w q = (q, w.1, w.2)
  within_from least most (suc h) t w q = (q, w.1, w.2, w.3)

  pub within_kid : (least h : ℕ) (t : Tree E) (i : ℕ) → Within least (suc h) t → i ≤ length (row t) → Within 4 h (kid t i)
  within_kid least h t i w q =
      All-get_or (Within 4 h) (kids t) i (node 0 [] none) (omega (arith, within_fan least (suc h) t w)) (within_limbs least (suc h) t w)

  -- one tree or two between what stands left and right in a node
  abbrev pub risen : Grown E → List E
  risen (whole k) = []
  risen (parted l x r) = x ∷ []

  abbrev pub sprung : Grown E → List (Tree E)
  sprung (whole k) = k ∷ []
  sprung (parted l x r) = l ∷ r ∷ []

  pub flat_patch : (h : ℕ) (g : Grown E) (ks ls : List (Tree E)) (es fs : List E) → length ks ≡ length es
      → weave (map (flat h) (ks ++ (sprung g ++ ls))) (es ++ (risen g ++ fs)) ≡ before (map (flat h) ks) es ++ (flats h g ++ after (map (flat h) ls) fs)
  flat_patch h g ks ls es fs q =
      ap (λ r. weave r (es ++ (risen g ++ fs))) (map-append (flat h) ks (sprung g ++ ls))
      ∙ weave_mid (map (flat h) ks) es (map (flat h) (sprung g ++ ls)) (risen g ++ fs) (lib.ListN.length-map ks (flat h) ∙ q)
      ∙ ap (λ r. before (map (flat h) ks) es ++ r) (inside g)
    where
      inside : (g : Grown E) → weave (map (flat h) (sprung g ++ ls)) (risen g ++ fs) ≡ flats h g ++ after (map (flat h) ls) fs
      inside (whole k) = weave_cons (flat h k) (map (flat h) ls) fs
      inside (parted l x r) =
          ap (λ z. flat h l ++ x ∷ z) (weave_cons (flat h r) (map (flat h) ls) fs) ∙ sym (append_assoc (flat h l) (x ∷ flat h r) (after (map (flat h) ls) fs))

  -- the entries around child i
  pub flat_open : (h : ℕ) (t : Tree E) (i : ℕ) → i ≤ length (row t) → length (kids t) ≡ suc (length (row t))
      → flat (suc h) t ≡ before (map (flat h) (take i (kids t))) (take i (row t)) ++ (flat h (kid t i) ++ after (map (flat h) (drop (suc i) (kids t))) (drop i (row t)))
  flat_open h t i q f =
      flat_inner h t
      ∙ ap (λ r. weave (map (flat h) r) (row t)) (split_at (kids t) i (node 0 [] none) (omega arith))
      ∙ ap (λ r. weave (map (flat h) (take i (kids t) ++ kid t i ∷ drop (suc i) (kids t))) r) (sym (take-append-drop i (row t)))
      ∙ flat_patch h (whole (kid t i)) (take i (kids t)) (drop (suc i) (kids t)) (take i (row t)) (drop i (row t)) (simp length-take (omega arith))

  -- a parted node
  pub part_flat : (h c fresh m : ℕ) (es : List E) (ks : List (Tree E)) (d : E) → c < length es → flats h (part c fresh m es ks d) ≡ flat h (mk m es ks)
  unfolding flat
  part_flat zero c fresh m es ks d q = sym (split_at es c d q)
  part_flat (suc h) c fresh m es ks d q =
      simp (trees_forest, ← take-map, ← drop-map) (weave_part c (map (flat h) ks) es d q)

  pub part_weigh : (w : ℕ → ℕ) (h c fresh m : ℕ) (es : List E) (ks : List (Tree E)) (d : E) → weighs w h (part c fresh m es ks d) ≡ weigh w h (mk m es ks) + w fresh
  unfolding weigh
  part_weigh w zero c fresh m es ks d = refl
  part_weigh w (suc h) c fresh m es ks d = simp trees_forest (omega (arith, total_cut (weigh w h) (suc c) ks))

  pub fan_take : (h c : ℕ) (es : List E) (ks : List (Tree E)) → length ks ≡ fan_out h (length es) → length (take (suc c) ks) ≡ fan_out h (length (take c es))
  fan_take zero c es ks f = simp length-take (omega arith)
  fan_take (suc h) c es ks f = simp length-take (omega arith)

  pub fan_drop : (h c : ℕ) (es : List E) (ks : List (Tree E)) → c < length es → length ks ≡ fan_out h (length es) → length (drop (suc c) ks) ≡ fan_out h (length (drop (suc c) es))
  fan_drop zero c es ks q f = simp length-drop (omega arith)
  fan_drop (suc h) c es ks q f = simp length-drop (omega arith)

  pub part_within : (h c fresh m : ℕ) (es : List E) (ks : List (Tree E)) (d : E) → 4 ≤ c → c ≤ 11 → c + 5 ≤ length es → length es ≤ c + 12
      → length ks ≡ fan_out h (length es) → Limbs h ks
      → Within 4 h (mk m (take c es) (take (suc c) ks)) × Within 4 h (mk fresh (drop (suc c) es) (drop (suc c) ks))
  part_within h c fresh m es ks d p q r s f a = (
    within_mk 4 h m (take c es) (take (suc c) ks) (simp length-take (omega arith)) (simp length-take (omega arith)) (fan_take h c es ks f) (limbs_take h (suc c) ks a),
    within_mk 4 h fresh (drop (suc c) es) (drop (suc c) ks) (simp length-drop (omega arith)) (simp length-drop (omega arith)) (fan_drop h c es ks (omega arith) f) (limbs_drop h (suc c) ks a),
  )
