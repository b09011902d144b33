-- The node numbers of the parts of a cut.
use Rattle.std.proofs.Common.{◌≡◌, ℕ, zero, suc, ◌+◌, ◌-◌, ◌<◌, ◌≤◌, Bool, List, [], ◌∷◌, ◌++◌, length, take, drop, sym, refl, ap, subst, arith, length-drop}
use lib.Seq.{split_at}
use Rattle.node.specs.Shape.{Tree, node, none, number, row, kids, kid, mk, weigh, total, Within, root_least}
use Rattle.node.specs.declared.ends.Side.{Side}
use Rattle.node.specs.declared.ends.Side.TheVariants.{First, Last}
use Rattle.node.specs.Ends.{end_index}
use Rattle.node.specs.Rules.{Grown, whole, parted, joint}
use Rattle.node.specs.Sorted.{index}
use Rattle.rules.specs.Rules.{weighs, upto}
use Rattle.parts.specs.Rules.{cut_left, cut_right, beside, onward, mend_at, mend, lifted, fix_top, repair}
use Rattle.parts.specs.Laws.{CutNumbers}
use Rattle.node.proofs.Weaves.{trees_forest, total_append}
use Rattle.rules.proofs.Nodes.{fan_out, weigh_mk, within_fan, within_from, within_kid, part_weigh, risen, sprung}
use Rattle.rules.proofs.Ways.{index_le}
use Rattle.parts.proofs.Borders.{Edge, edge_fan, edge_fringe, around_at}
use Rattle.parts.proofs.Mends.{Pair, Ready, share, joint_cases, joint_ready, fill_is, beside_end, end_none, pair_of, pair_fan, two_at, mend_ok, top_edge, left_edge, right_edge}

module _ {E : Type 0} (w : ℕ → ℕ) where
  merged_weigh : (h : ℕ) (l r : Tree E) (es : List E) → weigh w h (mk (number l) es (kids l ++ kids r)) + w (number r) ≡ weigh w h l + weigh w h r
  unfolding weigh
  merged_weigh zero l r es = refl
  merged_weigh (suc h) l r es = simp trees_forest (omega (arith, total_append (weigh w h) (kids l) (kids r)))

  joint_weigh : (s : Side) (h : ℕ) (l : Tree E) (e : E) (r : Tree E) → length (kids l) ≡ fan_out h (length (row l)) → length (kids r) ≡ fan_out h (length (row r))
      → weighs w h (joint s l e r) ≤ weigh w h l + weigh w h r
  joint_weigh s h l e r fl fr =
      let m = merged_weigh h l r (row l ++ e ∷ row r) in
      joint_cases (λ g. weighs w h g ≤ weigh w h l + weigh w h r) s h l e r fl fr
      (λ _. omega arith)
      (λ _ _. omega (arith, part_weigh w h (share s (length (row l)) (length (row r))) (number r) (number l) (row l ++ e ∷ row r) (kids l ++ kids r) e))
      (λ _ _. omega arith)

  abbrev Lessens : Side → ℕ → (Tree E → Tree E) → Type 0
  Lessens s h f = (k : Tree E) → Edge s h k → weigh w h (f k) ≤ weigh w h k

  onward_weigh : (s : Side) (h : ℕ) (f : Tree E → Tree E) → Lessens s h f → (g : Grown E) → Ready s h g → weighs w h (onward s f g) ≤ weighs w h g
  onward_weigh First h f ih (whole k) a = ih k a.0
  onward_weigh First h f ih (parted l x r) a = omega (arith, ih l a.0)
  onward_weigh Last h f ih (whole k) a = ih k a.0
  onward_weigh Last h f ih (parted l x r) a = omega (arith, ih r a.1)

  total_sprung : (h : ℕ) (g : Grown E) → total (weigh w h) (sprung g) ≡ weighs w h g
  total_sprung h (whole k) = omega arith
  total_sprung h (parted l x r) = omega arith

  mend_at_weigh : (s : Side) (h : ℕ) (f : Tree E → Tree E) → Lessens s h f → (t : Tree E) → Edge s (suc h) t
      → (i : ℕ) → i ≡ beside s (length (row t)) → (fs : List E) → drop i (row t) ≡ fs → weigh w (suc h) (mend_at s f t i fs) ≤ weigh w (suc h) t
  unfolding weigh
  mend_at_weigh s h f ih t a i is [] rest = omega arith
  mend_at_weigh s h f ih t a i is (e ∷ fs) rest =
      let left : length (row t) - i ≡ suc (length fs) = simp length-drop at (ap length rest) in
      let some' : 1 ≤ length (row t) = omega arith in
      let in' = beside_end s (length (row t)) some' in
      let fan = edge_fan s (suc h) t a in
      let ks : List (Tree E) = take i (kids t) in
      let ls : List (Tree E) = drop (suc (suc i)) (kids t) in
      let l : Tree E = kid t i in
      let r : Tree E = kid t (suc i) in
      let g : Grown E = onward s f (joint s l e r) in
      let pair : Pair s h l r = subst (λ j. Pair s h (kid t j) (kid t (suc j))) (sym is) (pair_of s h t a some') in
      let fans = pair_fan s h l r pair in
      let made = ap (weigh w (suc h)) (fill_is (number t) (take i (row t)) fs ks ls g) in
      let summed = weigh_mk w h (number t) (take i (row t) ++ (risen g ++ fs)) (ks ++ (sprung g ++ ls)) in
      let was = ap (total (weigh w h)) (two_at (kids t) i (node 0 [] none) (omega arith)) in
      omega (
        arith,
        made,
        summed,
        was,
        total_append (weigh w h) ks (sprung g ++ ls),
        total_append (weigh w h) (sprung g) ls,
        total_append (weigh w h) ks (l ∷ r ∷ ls),
        total_sprung h g,
        onward_weigh s h f ih (joint s l e r) (joint_ready s h l e r pair),
        joint_weigh s h l e r fans.0 fans.1,
      )

  mend_weigh : (s : Side) (h : ℕ) (t : Tree E) → Edge s h t → weigh w h (mend s h t) ≤ weigh w h t
  unfolding mend
  mend_weigh s zero t a = omega arith
  mend_weigh s (suc h) t a =
      mend_at_weigh s h (mend s h) (λ k v. mend_weigh s h k v) t a (beside s (length (row t))) refl (drop (beside s (length (row t))) (row t)) refl

  kid_weigh : (h i : ℕ) (t : Tree E) → i < length (kids t) → weigh w h (kid t i) ≤ weigh w (suc h) t
  unfolding weigh
  kid_weigh h i t q =
      omega (arith, ap (total (weigh w h)) (split_at (kids t) i (node 0 [] none) q), total_append (weigh w h) (take i (kids t)) (kid t i ∷ drop (suc i) (kids t)))

  top_weigh : (P : ℕ → Tree E → Type 0) → ((h : ℕ) (t : Tree E) → P (suc h) t → length (kids t) ≡ suc (length (row t)))
      → ((h : ℕ) (t : Tree E) → P (suc h) t → length (row t) ≡ 0 → P h (kid t 0))
      → (h : ℕ) (t : Tree E) → P h t → weigh w (fix_top h t).0 (fix_top h t).1 ≤ weigh w h t
  unfolding fix_top
  top_weigh P fan down zero t a = omega arith
  top_weigh P fan down (suc h) t a = go (row t) refl (λ v. top_weigh P fan down h (kid t 0) v)
    where
      go : (es : List E) → row t ≡ es → (P h (kid t 0) → weigh w (fix_top h (kid t 0)).0 (fix_top h (kid t 0)).1 ≤ weigh w h (kid t 0))
          → weigh w (lifted es (fix_top h (kid t 0)) (suc h, t)).0 (lifted es (fix_top h (kid t 0)) (suc h, t)).1 ≤ weigh w (suc h) t
      go [] q ih = omega (arith, ih (down h t a (ap length q)), kid_weigh h 0 t (omega (arith, fan h t a)))
      go (e ∷ es) q ih = omega arith

  done_weigh : (s : Side) (h : ℕ) (t : Tree E) → Edge s h t → root_least h ≤ length (row t) → weigh w (fix_top h (mend s h t)).0 (fix_top h (mend s h t)).1 ≤ weigh w h t
  unfolding mend fix_top
  done_weigh s zero t a q = omega arith
  done_weigh s (suc h) t a q =
      omega (
        arith,
        mend_weigh s (suc h) t a,
        top_weigh (Within 0) (λ h t a. within_fan 0 (suc h) t a) (λ h t a q. within_from 4 0 h (kid t 0) (within_kid 0 h t 0 a (omega arith)) (omega arith))
            (suc h) (mend s (suc h) t) (mend_ok s (suc h) 0 t a q).0,
      )

  repair_weigh : (s : Side) (h : ℕ) (t : Tree E) → Edge s h t → weigh w (repair s h t).0 (repair s h t).1 ≤ weigh w h t
  repair_weigh s h t a =
      let u = top_edge s h t a in
      omega (
        arith,
        done_weigh s (fix_top h t).0 (fix_top h t).1 u.0 u.2,
        top_weigh (Edge s) (λ h t a. edge_fan s (suc h) t a)
            (λ h t a q. subst (λ j. Edge s h (kid t j)) (end_none s (length (row t)) q)
            (around_at (Within 4 h) (Edge s h) (end_index s (length (row t))) (kids t) (node 0 [] none) (edge_fringe s (suc h) t a)))
            h t a,
      )

  -- the cut takes a fresh node for each height
  cut_weigh : (b : E → Bool) (fresh : ℕ → ℕ) (least h : ℕ) (t : Tree E) → Within least h t
      → weigh w h (cut_left b h t) + weigh w h (cut_right fresh b h t) ≡ weigh w h t + upto (λ l. w (fresh l)) (suc h)
  unfolding weigh cut_left cut_right
  cut_weigh b fresh least zero t v = omega arith
  cut_weigh b fresh least (suc h) t v =
      let i : ℕ = index b (row t) in
      let j = index_le b (row t) in
      let fan = within_fan least (suc h) t v in
      omega (
        arith,
        cut_weigh b fresh 4 h (kid t i) (within_kid least h t i v j),
        weigh_mk w h (number t) (take i (row t)) (take i (kids t) ++ cut_left b h (kid t i) ∷ []),
        weigh_mk w h (fresh (suc h)) (drop i (row t)) (cut_right fresh b h (kid t i) ∷ drop (suc i) (kids t)),
        total_append (weigh w h) (take i (kids t)) (cut_left b h (kid t i) ∷ []),
        total_append (weigh w h) (take i (kids t)) (kid t i ∷ drop (suc i) (kids t)),
        ap (total (weigh w h)) (split_at (kids t) i (node 0 [] none) (omega arith)),
      )

pub cut_numbers : {E : Type 0} → CutNumbers E
cut_numbers w fresh b h t v =
    omega (
      arith,
      cut_weigh w b fresh (root_least h) h t v,
      repair_weigh w Last h (cut_left b h t) (left_edge b (root_least h) h t v),
      repair_weigh w First h (cut_right fresh b h t) (right_edge b fresh (root_least h) h t v),
    )
