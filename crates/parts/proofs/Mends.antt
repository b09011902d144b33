-- A cut: its two parts, their borders mended.
use Rattle.std.proofs.Common.{◌≡◌, ℕ, zero, suc, ◌+◌, ◌-◌, ◌<◌, ◌≤◌, Bool, true, false, cond, ltb, leb, List, [], ◌∷◌, ◌++◌, map, length, get_or, take, drop, All, sym, refl, ap, ◌∙◌, subst, append-nil, arith, length-append, length-drop, take-append-drop, length-take, drop-cons, get_or-append-add}
use lib.ListN.{length-map}
use lib.Seq.{split_at, take-nil, drop-nil, take-append-le, drop-append-le, take-append-add, drop-append-add}
use Rattle.std.proofs.lemmas.List.Elements.{All-take, All-drop, All-append, All-nil}
use Rattle.std.proofs.lemmas.List.{map-append, nil_from_length, get_or_append_left}
use Rattle.std.proofs.lemmas.Bool.{cond_both, leb-true, leb-false, ltb-true, ltb-false}
use Rattle.node.specs.Shape.{Tree, node, none, number, row, kids, kid, mk, flat, weave, before, after, Within, Formed, root_least}
use Rattle.node.specs.declared.ends.Side.{Side}
use Rattle.node.specs.declared.ends.Side.TheVariants.{First, Last}
use Rattle.node.specs.Ends.{end_index}
use Rattle.node.specs.declared.choice.Choice.{Choice}
use Rattle.node.specs.declared.choice.Choice.TheVariants.{Merge, Move, Leave}
use Rattle.node.specs.Rules.{Grown, whole, parted, at_side, moved, chosen, joint}
use Rattle.node.specs.Sorted.{Sorted, index}
use Rattle.rules.specs.Rules.{low, high, part}
use Rattle.parts.specs.Rules.{cut_left, cut_right, beside, onward, fill, mend_at, mend, lifted, fix_top, repair, left_part, right_part}
use Rattle.parts.specs.Laws.{CutFormed, CutFlat, CutParts, CutSorted}
use Rattle.node.proofs.Weaves.{weave_cons, weave_join, flat_mk, all_one, all_two}
use Rattle.rules.proofs.Nodes.{fan_out, flats, flat_leaf, flat_inner, flat_patch, within_mk, within_least, within_most, within_fan, within_limbs, within_from, within_kid, part_flat, risen, sprung, fan_take, fan_drop}
use Rattle.rules.proofs.Sorts.{sorted_parts}
use Rattle.rules.proofs.Ways.{index_le, way_flat, way_sides}
use Rattle.parts.proofs.Borders.{around_right, around_take, around_drop, around_at, around_off, Edge, Fringe, edge_mk, edge_most, edge_fan, edge_fringe, edge_leaf, fringe_last, fringe_first, fringe_last_part, fringe_first_part}

-- what the left one of two neighbours has, if the border one is raised to 6
abbrev pub share : Side → ℕ → ℕ → ℕ
share First a b = 6
share Last a b = a + b - 6

pub share_lt : (s : Side) (a c : ℕ) → 11 < a + c + 1 → share s a c < a + suc c
share_lt First a c q = omega arith
share_lt Last a c q = omega arith

pub beside_end : (s : Side) (n : ℕ) → 1 ≤ n → (beside s n < n) × (beside s n ≤ end_index s n) × (end_index s n < suc (suc (beside s n)))
beside_end First n q = (omega arith, omega arith, omega arith)
beside_end Last n q = (omega arith, omega arith, omega arith)

pub end_none : (s : Side) (n : ℕ) → n ≡ 0 → end_index s n ≡ 0
end_none First n q = refl
end_none Last n q = q

module _ {E : Type 0} where
  -- two neighbours
  abbrev pub Pair : Side → ℕ → Tree E → Tree E → Type 0
  Pair First h l r = Edge First h l × Within 4 h r
  Pair Last h l r = Within 4 h l × Edge Last h r

  -- with entries enough at the border to give one up
  abbrev pub Ready : Side → ℕ → Grown E → Type 0
  Ready First h (whole k) = Edge First h k × (5 ≤ length (row k))
  Ready First h (parted l x r) = Edge First h l × (5 ≤ length (row l)) × Within 4 h r
  Ready Last h (whole k) = Edge Last h k × (5 ≤ length (row k))
  Ready Last h (parted l x r) = Within 4 h l × Edge Last h r × (5 ≤ length (row r))

  -- moving is merging and parting anew
  pub moved_is : (s : Side) (h : ℕ) (l : Tree E) (e : E) (r : Tree E) → length (kids l) ≡ fan_out h (length (row l)) → length (kids r) ≡ fan_out h (length (row r))
      → 11 < length (row l) + length (row r) + 1 → at_side s (length (row l)) (length (row r)) < 6
      → part (share s (length (row l)) (length (row r))) (number r) (number l) (row l ++ e ∷ row r) (kids l ++ kids r) e ≡ moved s (6 - at_side s (length (row l)) (length (row r))) l e r
  moved_is First h l e r fl fr p q =
      let a : ℕ = length (row l) in
      let e₁ : take 6 (row l ++ e ∷ row r) ≡ row l ++ e ∷ take ((6 - a) - 1) (row r) =
      ap (λ n. take n (row l ++ e ∷ row r)) (let z : 6 ≡ a + suc ((6 - a) - 1) = omega arith in z) ∙ take-append-add (row l) (e ∷ row r) (suc ((6 - a) - 1)) in
      let e₂ : get_or (row l ++ e ∷ row r) 6 e ≡ get_or (row r) ((6 - a) - 1) e =
      ap (λ n. get_or (row l ++ e ∷ row r) n e) (let z : 6 ≡ a + suc ((6 - a) - 1) = omega arith in z) ∙ get_or-append-add (row l) (e ∷ row r) (suc ((6 - a) - 1)) e in
      let e₃ : drop 7 (row l ++ e ∷ row r) ≡ drop (6 - a) (row r) =
      ap (λ n. drop n (row l ++ e ∷ row r)) (let z : 7 ≡ a + suc (6 - a) = omega arith in z) ∙ drop-append-add (row l) (e ∷ row r) (suc (6 - a)) in
      let e₄ : take 7 (kids l ++ kids r) ≡ kids l ++ take (6 - a) (kids r) = taken h fl fr in
      let e₅ : drop 7 (kids l ++ kids r) ≡ drop (6 - a) (kids r) = dropped h fl fr in
      cc
    where
      taken : (h : ℕ) → length (kids l) ≡ fan_out h (length (row l)) → length (kids r) ≡ fan_out h (length (row r)) → take 7 (kids l ++ kids r) ≡ kids l ++ take (6 - length (row l)) (kids r)
      taken zero fl fr =
          let u = nil_from_length (kids l) fl in
          let v = nil_from_length (kids r) fr in
          let w = take-nil {A = Tree E} (6 - length (row l)) in
          cc
      taken (suc h) fl fr =
          ap (λ n. take n (kids l ++ kids r)) (let z : 7 ≡ length (kids l) + (6 - length (row l)) = omega arith in z) ∙ take-append-add (kids l) (kids r) (6 - length (row l))

      dropped : (h : ℕ) → length (kids l) ≡ fan_out h (length (row l)) → length (kids r) ≡ fan_out h (length (row r)) → drop 7 (kids l ++ kids r) ≡ drop (6 - length (row l)) (kids r)
      dropped zero fl fr =
          let u = nil_from_length (kids l) fl in
          let v = nil_from_length (kids r) fr in
          let w = drop-nil {A = Tree E} (6 - length (row l)) in
          cc
      dropped (suc h) fl fr =
          ap (λ n. drop n (kids l ++ kids r)) (let z : 7 ≡ length (kids l) + (6 - length (row l)) = omega arith in z) ∙ drop-append-add (kids l) (kids r) (6 - length (row l))
  moved_is Last h l e r fl fr p q =
      let c : ℕ = length (row l) + length (row r) - 6 in
      let e₀ : length (row l) - (6 - length (row r)) ≡ length (row l) + length (row r) - 6 = omega arith in
      let e₁ = take-append-le c (row l) (e ∷ row r) (omega arith) in
      let e₂ = get_or_append_left (row l) (e ∷ row r) e c (omega arith) in
      let e₃ = drop-append-le (suc c) (row l) (e ∷ row r) (omega arith) in
      let e₄ : take (suc c) (kids l ++ kids r) ≡ take (suc c) (kids l) = taken h fl fr in
      let e₅ : drop (suc c) (kids l ++ kids r) ≡ drop (suc c) (kids l) ++ kids r = dropped h fl fr in
      cc
    where
      taken : (h : ℕ) → length (kids l) ≡ fan_out h (length (row l)) → length (kids r) ≡ fan_out h (length (row r)) → take (suc (length (row l) + length (row r) - 6)) (kids l ++ kids r) ≡ take (suc (length (row l) + length (row r) - 6)) (kids l)
      taken zero fl fr =
          let v = nil_from_length (kids r) fr in
          let w = append-nil (kids l) in
          cc
      taken (suc h) fl fr = take-append-le (suc (length (row l) + length (row r) - 6)) (kids l) (kids r) (omega arith)

      dropped : (h : ℕ) → length (kids l) ≡ fan_out h (length (row l)) → length (kids r) ≡ fan_out h (length (row r)) → drop (suc (length (row l) + length (row r) - 6)) (kids l ++ kids r) ≡ drop (suc (length (row l) + length (row r) - 6)) (kids l) ++ kids r
      dropped zero fl fr =
          let v = nil_from_length (kids r) fr in
          let w = append-nil (kids l) in
          let u = append-nil (drop (suc (length (row l) + length (row r) - 6)) (kids l)) in
          cc
      dropped (suc h) fl fr = drop-append-le (suc (length (row l) + length (row r) - 6)) (kids l) (kids r) (omega arith)

  pub joint_cases : (P : Grown E → Type 0) (s : Side) (h : ℕ) (l : Tree E) (e : E) (r : Tree E)
      → length (kids l) ≡ fan_out h (length (row l)) → length (kids r) ≡ fan_out h (length (row r))
      → (length (row l) + length (row r) + 1 ≤ 11 → P (whole (mk (number l) (row l ++ e ∷ row r) (kids l ++ kids r))))
      → (11 < length (row l) + length (row r) + 1 → at_side s (length (row l)) (length (row r)) < 6
      → P (part (share s (length (row l)) (length (row r))) (number r) (number l) (row l ++ e ∷ row r) (kids l ++ kids r) e))
      → (11 < length (row l) + length (row r) + 1 → 6 ≤ at_side s (length (row l)) (length (row r)) → P (parted l e r))
      → P (joint s l e r)
  joint_cases P s h l e r fl fr p q k =
      let a : ℕ = length (row l) in
      let c : ℕ = length (row r) in
      let d : Choice → Type 0 = λ z. P (chosen s z l e r) in
      cond_both (leb (a + c + 1) 11) Merge (cond (ltb (at_side s a c) 6) (Move (6 - at_side s a c)) Leave) d
      (λ x. p (leb-true (a + c + 1) 11 x))
      (λ x. cond_both (ltb (at_side s a c) 6) (Move (6 - at_side s a c)) Leave d
      (λ y.
      let u = leb-false (a + c + 1) 11 x in
      let v = ltb-true (at_side s a c) 6 y in
      subst P (moved_is s h l e r fl fr u v) (q u v))
      (λ y. k (leb-false (a + c + 1) 11 x) (ltb-false (at_side s a c) 6 y)))

  pub merged_flat : (h m : ℕ) (l : Tree E) (e : E) (r : Tree E) → length (kids l) ≡ fan_out h (length (row l))
      → flat h (mk m (row l ++ e ∷ row r) (kids l ++ kids r)) ≡ flat h l ++ e ∷ flat h r
  unfolding flat
  merged_flat zero m l e r f = refl
  merged_flat (suc h) m l e r f =
      flat_mk h m (row l ++ e ∷ row r) (kids l ++ kids r)
      ∙ ap (λ z. weave z (row l ++ e ∷ row r)) (map-append (flat h) (kids l) (kids r))
      ∙ weave_join (map (flat h) (kids l)) (row l) e (map (flat h) (kids r)) (row r) (length-map (kids l) (flat h) ∙ f)

  pub joint_flat : (s : Side) (h : ℕ) (l : Tree E) (e : E) (r : Tree E) → length (kids l) ≡ fan_out h (length (row l)) → length (kids r) ≡ fan_out h (length (row r))
      → flats h (joint s l e r) ≡ flat h l ++ e ∷ flat h r
  joint_flat s h l e r f fr =
      joint_cases (λ g. flats h g ≡ flat h l ++ e ∷ flat h r) s h l e r f fr
      (λ _. merged_flat h (number l) l e r f)
      (λ p _. part_flat h (share s (length (row l)) (length (row r))) (number r) (number l) (row l ++ e ∷ row r) (kids l ++ kids r) e
      (simp length-append (share_lt s (length (row l)) (length (row r)) p))
      ∙ merged_flat h (number l) l e r f)
      (λ _ _. refl)

  pub merged_fan : (h : ℕ) (l : Tree E) (e : E) (r : Tree E) → length (kids l) ≡ fan_out h (length (row l)) → length (kids r) ≡ fan_out h (length (row r))
      → length (kids l ++ kids r) ≡ fan_out h (length (row l ++ e ∷ row r))
  merged_fan zero l e r p q = simp length-append (omega arith)
  merged_fan (suc h) l e r p q = simp length-append (omega arith)

  pub joint_ready : (s : Side) (h : ℕ) (l : Tree E) (e : E) (r : Tree E) → Pair s h l r → Ready s h (joint s l e r)
  joint_ready First h l e r p =
      let es : List E = row l ++ e ∷ row r in
      let ks : List (Tree E) = kids l ++ kids r in
      let long : length es ≡ length (row l) + suc (length (row r)) = length-append (row l) (e ∷ row r) in
      let least = within_least 4 h r p.1 in
      let most = within_most 4 h r p.1 in
      let fan : length ks ≡ fan_out h (length es) = merged_fan h l e r (edge_fan First h l p.0) (within_fan 4 h r p.1) in
      let fringe : Fringe First h (length es) ks =
      subst (λ n. Fringe First h n ks) (sym long)
      (fringe_first h (length (row l)) (length (row r)) (kids l) (kids r) (edge_fringe First h l p.0) (within_limbs 4 h r p.1)) in
      joint_cases (Ready First h) First h l e r (edge_fan First h l p.0) (within_fan 4 h r p.1)
      (λ q. (edge_mk First h (number l) es ks (omega arith) fan fringe, omega arith))
      (λ q a.
      let cut = fringe_first_part h 6 (length es) (length (take 6 es)) ks fringe in (
        edge_mk First h (number l) (take 6 es) (take 7 ks) (simp length-take (omega arith)) (fan_take h 6 es ks fan) cut.0,
        simp length-take (omega arith),
        within_mk 4 h (number r) (drop 7 es) (drop 7 ks) (simp length-drop (omega arith)) (simp length-drop (omega arith)) (fan_drop h 6 es ks (omega arith) fan) cut.1,
      ))
      (λ q a. (p.0, omega arith, p.1))
  joint_ready Last h l e r p =
      let es : List E = row l ++ e ∷ row r in
      let ks : List (Tree E) = kids l ++ kids r in
      let long : length es ≡ length (row l) + suc (length (row r)) = length-append (row l) (e ∷ row r) in
      let least = within_least 4 h l p.0 in
      let most = within_most 4 h l p.0 in
      let fan : length ks ≡ fan_out h (length es) = merged_fan h l e r (within_fan 4 h l p.0) (edge_fan Last h r p.1) in
      let fringe : Fringe Last h (length es) ks =
      subst (λ n. Fringe Last h n ks) (sym long)
      (fringe_last h (length (row l)) (length (row r)) (kids l) (kids r) (within_fan 4 h l p.0) (within_limbs 4 h l p.0) (edge_fringe Last h r p.1)) in
      joint_cases (Ready Last h) Last h l e r (within_fan 4 h l p.0) (edge_fan Last h r p.1)
      (λ q. (edge_mk Last h (number l) es ks (omega arith) fan fringe, omega arith))
      (λ q a.
      let c : ℕ = length (row l) + length (row r) - 6 in
      let cut = fringe_last_part h c (length es) (length (drop (suc c) es)) ks (simp length-drop (omega arith)) fringe in (
        within_mk 4 h (number l) (take c es) (take (suc c) ks) (simp length-take (omega arith)) (simp length-take (omega arith)) (fan_take h c es ks fan) cut.0,
        edge_mk Last h (number r) (drop (suc c) es) (drop (suc c) ks) (simp length-drop (omega arith)) (fan_drop h c es ks (omega arith) fan) cut.1,
        simp length-drop (omega arith),
      ))
      (λ q a. (p.0, p.1, omega arith))

  -- what mending a child does
  abbrev pub Mends : Side → ℕ → (Tree E → Tree E) → Type 0
  Mends s h f = (k : Tree E) → Edge s h k → 5 ≤ length (row k) → Within 4 h (f k) × (flat h (f k) ≡ flat h k)

  pub onward_ok : (s : Side) (h : ℕ) (f : Tree E → Tree E) → Mends s h f → (g : Grown E) → Ready s h g
      → All (Within 4 h) (sprung (onward s f g)) × (flats h (onward s f g) ≡ flats h g)
  onward_ok First h f ih (whole k) a = (all_one (Within 4 h) (f k) (ih k a.0 a.1).0, (ih k a.0 a.1).1)
  onward_ok First h f ih (parted l x r) a = (all_two (Within 4 h) (f l) r (ih l a.0 a.1).0 a.2, ap (λ z. z ++ x ∷ flat h r) (ih l a.0 a.1).1)
  onward_ok Last h f ih (whole k) a = (all_one (Within 4 h) (f k) (ih k a.0 a.1).0, (ih k a.0 a.1).1)
  onward_ok Last h f ih (parted l x r) a = (all_two (Within 4 h) l (f r) a.0 (ih r a.1 a.2).0, ap (λ z. flat h l ++ x ∷ z) (ih r a.1 a.2).1)

  pub fill_is : (m : ℕ) (es fs : List E) (ks ls : List (Tree E)) (g : Grown E) → fill m es fs ks ls g ≡ mk m (es ++ (risen g ++ fs)) (ks ++ (sprung g ++ ls))
  fill_is m es fs ks ls (whole k) = refl
  fill_is m es fs ks ls (parted l x r) = refl

  pub risen_le : (g : Grown E) → length (risen g) ≤ 1
  risen_le (whole k) = omega arith
  risen_le (parted l x r) = omega arith

  pub sprung_is : (g : Grown E) → length (sprung g) ≡ suc (length (risen g))
  sprung_is (whole k) = refl
  sprung_is (parted l x r) = refl

  pub pair_of : (s : Side) (h : ℕ) (t : Tree E) → Edge s (suc h) t → 1 ≤ length (row t) → Pair s h (kid t (beside s (length (row t)))) (kid t (suc (beside s (length (row t)))))
  pair_of First h t a q =
      let fan = edge_fan First (suc h) t a in (
        around_at (Within 4 h) (Edge First h) 0 (kids t) (node 0 [] none) (edge_fringe First (suc h) t a),
        around_off (Within 4 h) (Edge First h) 1 0 (kids t) (node 0 [] none) (λ e. omega arith) (omega arith) (edge_fringe First (suc h) t a),
      )
  pair_of Last h t a q =
      let fan = edge_fan Last (suc h) t a in
      let n : ℕ = length (row t) in (
        around_off (Within 4 h) (Edge Last h) (n - 1) n (kids t) (node 0 [] none) (λ e. omega arith) (omega arith) (edge_fringe Last (suc h) t a),
        subst (λ j. Edge Last h (kid t j)) (omega arith) (around_at (Within 4 h) (Edge Last h) n (kids t) (node 0 [] none) (edge_fringe Last (suc h) t a)),
      )

  pub pair_fan : (s : Side) (h : ℕ) (l r : Tree E) → Pair s h l r → (length (kids l) ≡ fan_out h (length (row l))) × (length (kids r) ≡ fan_out h (length (row r)))
  pair_fan First h l r p = (edge_fan First h l p.0, within_fan 4 h r p.1)
  pair_fan Last h l r p = (within_fan 4 h l p.0, edge_fan Last h r p.1)

  pub two_at : (ks : List (Tree E)) (i : ℕ) (d : Tree E) → suc i < length ks → ks ≡ take i ks ++ get_or ks i d ∷ get_or ks (suc i) d ∷ drop (suc (suc i)) ks
  two_at ks i d q = split_at ks i d (omega arith) ∙ ap (λ r. take i ks ++ get_or ks i d ∷ r) (drop-cons ks (suc i) d q)

  pub mend_at_ok : (s : Side) (h : ℕ) (f : Tree E → Tree E) → Mends s h f → (least : ℕ) (t : Tree E) → Edge s (suc h) t → suc least ≤ length (row t)
      → (i : ℕ) → i ≡ beside s (length (row t)) → (fs : List E) → drop i (row t) ≡ fs
      → Within least (suc h) (mend_at s f t i fs) × (flat (suc h) (mend_at s f t i fs) ≡ flat (suc h) t)
  mend_at_ok s h f ih least t a q i is [] rest =
      let in' = beside_end s (length (row t)) (omega arith) in
      absurd (omega (arith, simp length-drop at (ap length rest)))
  mend_at_ok s h f ih least t a q i is (e ∷ fs) rest =
      let es : List E = take i (row t) in
      let ks : List (Tree E) = take i (kids t) in
      let ls : List (Tree E) = drop (suc (suc i)) (kids t) in
      let l : Tree E = kid t i in
      let r : Tree E = kid t (suc i) in
      let g : Grown E = onward s f (joint s l e r) in
      let in' = beside_end s (length (row t)) (omega arith) in
      let fan = edge_fan s (suc h) t a in
      let most = edge_most s (suc h) t a in
      let left : length (row t) - i ≡ suc (length fs) = simp length-drop at (ap length rest) in
      let pair : Pair s h l r = subst (λ j. Pair s h (kid t j) (kid t (suc j))) (sym is) (pair_of s h t a (omega arith)) in
      let went : All (Within 4 h) (sprung g) × (flats h g ≡ flats h (joint s l e r)) = onward_ok s h f ih (joint s l e r) (joint_ready s h l e r pair) in
      let one = risen_le g in
      let two = sprung_is g in
      let made : fill (number t) es fs ks ls g ≡ mk (number t) (es ++ (risen g ++ fs)) (ks ++ (sprung g ++ ls)) = fill_is (number t) es fs ks ls g in
      let even : length ks ≡ length es = simp length-take (omega arith) in (
        subst (λ z. Within least (suc h) z) (sym made)
            (within_mk least (suc h) (number t) (es ++ (risen g ++ fs)) (ks ++ (sprung g ++ ls))
            (simp (length-append, length-take) (omega arith))
            (simp (length-append, length-take) (omega arith))
            (simp (length-append, length-take, length-drop) (omega arith))
            (All-append (Within 4 h) ks (sprung g ++ ls)
            (around_take (Within 4 h) (Edge s h) i (end_index s (length (row t))) (kids t) (omega arith) (edge_fringe s (suc h) t a))
            (All-append (Within 4 h) (sprung g) ls went.0
            (around_drop (Within 4 h) (Edge s h) (suc (suc i)) (end_index s (length (row t))) (kids t) (omega arith) (edge_fringe s (suc h) t a))))),
        ap (flat (suc h)) made
            ∙ flat_mk h (number t) (es ++ (risen g ++ fs)) (ks ++ (sprung g ++ ls))
            ∙ flat_patch h g ks ls es fs even
            ∙ ap (λ z. before (map (flat h) ks) es ++ (z ++ after (map (flat h) ls) fs)) (went.1 ∙ joint_flat s h l e r (pair_fan s h l r pair).0 (pair_fan s h l r pair).1)
            ∙ sym (flat_patch h (parted l e r) ks ls es fs even)
            ∙ ap (λ z. weave (map (flat h) z) (es ++ e ∷ fs)) (sym (two_at (kids t) i (node 0 [] none) (omega arith)))
            ∙ ap (λ z. weave (map (flat h) (kids t)) z) (sym (ap (λ z. es ++ z) rest) ∙ take-append-drop i (row t))
            ∙ sym (flat_inner h t),
      )

  pub mend_ok : (s : Side) (h : ℕ) (least : ℕ) (t : Tree E) → Edge s h t → suc least ≤ length (row t) → Within least h (mend s h t) × (flat h (mend s h t) ≡ flat h t)
  unfolding mend
  mend_ok s zero least t a q = (edge_leaf least s t a (omega arith), refl)
  mend_ok s (suc h) least t a q =
      mend_at_ok s h (mend s h) (λ k v w. mend_ok s h 4 k v w) least t a q (beside s (length (row t))) refl (drop (beside s (length (row t))) (row t)) refl

  -- a root with no entries
  pub only : (h : ℕ) (ks : List (Tree E)) (es : List E) (d : Tree E) → length ks ≡ 1 → es ≡ [] → weave (map (flat h) ks) es ≡ flat h (get_or ks 0 d)
  only h [] es d p q = absurd (omega arith)
  only h (k ∷ []) es d p q = ap (λ z. weave (flat h k ∷ []) z) q
  only h (k ∷ (l ∷ ks)) es d p q = absurd (omega arith)

  abbrev pub Topped : (ℕ → Tree E → Type 0) → ℕ → Tree E → ℕ × Tree E → Type 0
  Topped P h t p = P p.0 p.1 × (flat p.0 p.1 ≡ flat h t) × (root_least p.0 ≤ length (row p.1))

  pub top_any : (P : ℕ → Tree E → Type 0) → ((h : ℕ) (t : Tree E) → P (suc h) t → length (kids t) ≡ suc (length (row t)))
      → ((h : ℕ) (t : Tree E) → P (suc h) t → length (row t) ≡ 0 → P h (kid t 0))
      → (h : ℕ) (t : Tree E) → P h t → Topped P h t (fix_top h t)
  unfolding fix_top
  top_any P fan down zero t a = (a, refl, omega arith)
  top_any P fan down (suc h) t a = go (row t) refl (λ v. top_any P fan down h (kid t 0) v)
    where
      go : (es : List E) → row t ≡ es → (P h (kid t 0) → Topped P h (kid t 0) (fix_top h (kid t 0))) → Topped P (suc h) t (lifted es (fix_top h (kid t 0)) (suc h, t))
      go [] q ih =
          let v = ih (down h t a (ap length q)) in
          (v.0, v.1 ∙ sym (flat_inner h t ∙ only h (kids t) (row t) (node 0 [] none) (fan h t a ∙ ap suc (ap length q)) q), v.2)
      go (e ∷ es) q ih = (a, refl, omega (arith, ap length q))

  pub top_edge : (s : Side) (h : ℕ) (t : Tree E) → Edge s h t → Topped (Edge s) h t (fix_top h t)
  top_edge s =
      top_any (Edge s) (λ h t a. edge_fan s (suc h) t a)
      (λ h t a q. subst (λ j. Edge s h (kid t j)) (end_none s (length (row t)) q)
      (around_at (Within 4 h) (Edge s h) (end_index s (length (row t))) (kids t) (node 0 [] none) (edge_fringe s (suc h) t a)))

  pub top_within : (h : ℕ) (t : Tree E) → Within 0 h t → Topped (Within 0) h t (fix_top h t)
  top_within =
      top_any (Within 0) (λ h t a. within_fan 0 (suc h) t a) (λ h t a q. within_from 4 0 h (kid t 0) (within_kid 0 h t 0 a (omega arith)) (omega arith))

  -- mended, and a root again
  pub done : (s : Side) (h : ℕ) (t : Tree E) → Edge s h t → root_least h ≤ length (row t)
      → Formed (fix_top h (mend s h t)).0 (fix_top h (mend s h t)).1 × (flat (fix_top h (mend s h t)).0 (fix_top h (mend s h t)).1 ≡ flat h t)
  unfolding mend fix_top
  done s zero t a q = (edge_leaf 0 s t a q, refl)
  done s (suc h) t a q =
      let m = mend_ok s (suc h) 0 t a q in
      let u = top_within (suc h) (mend s (suc h) t) m.0 in
      (within_from 0 (root_least (fix_top (suc h) (mend s (suc h) t)).0) (fix_top (suc h) (mend s (suc h) t)).0 (fix_top (suc h) (mend s (suc h) t)).1 u.0 u.2, u.1 ∙ m.1)

  pub repair_ok : (s : Side) (h : ℕ) (t : Tree E) → Edge s h t → Formed (repair s h t).0 (repair s h t).1 × (flat (repair s h t).0 (repair s h t).1 ≡ flat h t)
  repair_ok s h t a =
      let u = top_edge s h t a in
      let v = done s (fix_top h t).0 (fix_top h t).1 u.0 u.2 in
      (v.0, v.1 ∙ u.1)

  -- the cut
  module _ (b : E → Bool) where
    pub left_edge : (least h : ℕ) (t : Tree E) → Within least h t → Edge Last h (cut_left b h t)
    unfolding cut_left
    left_edge least zero t w =
        let most = within_most least zero t w in
        edge_mk Last zero (number t) (take (index b (row t)) (row t)) [] (simp length-take (omega arith)) refl tt
    left_edge least (suc h) t w =
        let i : ℕ = index b (row t) in
        let most = within_most least (suc h) t w in
        let fan = within_fan least (suc h) t w in
        let j = index_le b (row t) in
        edge_mk Last (suc h) (number t) (take i (row t)) (take i (kids t) ++ cut_left b h (kid t i) ∷ [])
        (simp length-take (omega arith))
        (simp (length-append, length-take) (omega arith))
        (around_right (Within 4 h) (Edge Last h) (length (take i (row t))) 0 (take i (kids t)) (cut_left b h (kid t i) ∷ [])
        (simp length-take (omega arith))
        (All-take (Within 4 h) i (kids t) (within_limbs least (suc h) t w))
        (left_edge 4 h (kid t i) (within_kid least h t i w j), All-nil (Within 4 h)))

    pub left_flat : (least h : ℕ) (t : Tree E) → Within least h t → flat h (cut_left b h t) ≡ low b h t
    unfolding cut_left low
    left_flat least zero t w = flat_leaf (mk (number t) (take (index b (row t)) (row t)) [])
    left_flat least (suc h) t w =
        let i : ℕ = index b (row t) in
        let fan = within_fan least (suc h) t w in
        let j = index_le b (row t) in
        let c : Tree E = cut_left b h (kid t i) in
        flat_mk h (number t) (take i (row t)) (take i (kids t) ++ c ∷ [])
        ∙ ap (λ z. weave (map (flat h) (take i (kids t) ++ c ∷ [])) z) (sym (append-nil (take i (row t))))
        ∙ flat_patch h (whole c) (take i (kids t)) [] (take i (row t)) [] (simp length-take (omega arith))
        ∙ ap (λ z. before (map (flat h) (take i (kids t))) (take i (row t)) ++ z) (append-nil (flat h c) ∙ left_flat 4 h (kid t i) (within_kid least h t i w j))

    module _ (fresh : ℕ → ℕ) where
      pub right_edge : (least h : ℕ) (t : Tree E) → Within least h t → Edge First h (cut_right fresh b h t)
      unfolding cut_right
      right_edge least zero t w =
          let most = within_most least zero t w in
          edge_mk First zero (fresh 0) (drop (index b (row t)) (row t)) [] (simp length-drop (omega arith)) refl tt
      right_edge least (suc h) t w =
          let i : ℕ = index b (row t) in
          let most = within_most least (suc h) t w in
          let fan = within_fan least (suc h) t w in
          let j = index_le b (row t) in
          edge_mk First (suc h) (fresh (suc h)) (drop i (row t)) (cut_right fresh b h (kid t i) ∷ drop (suc i) (kids t))
          (simp length-drop (omega arith))
          (simp length-drop (omega arith))
          (right_edge 4 h (kid t i) (within_kid least h t i w j), All-drop (Within 4 h) (suc i) (kids t) (within_limbs least (suc h) t w))

      pub right_flat : (least h : ℕ) (t : Tree E) → Within least h t → flat h (cut_right fresh b h t) ≡ high b h t
      unfolding cut_right high
      right_flat least zero t w = flat_leaf (mk (fresh 0) (drop (index b (row t)) (row t)) [])
      right_flat least (suc h) t w =
          let i : ℕ = index b (row t) in
          let c : Tree E = cut_right fresh b h (kid t i) in
          flat_mk h (fresh (suc h)) (drop i (row t)) (c ∷ drop (suc i) (kids t))
          ∙ weave_cons (flat h c) (map (flat h) (drop (suc i) (kids t))) (drop i (row t))
          ∙ ap (λ z. z ++ after (map (flat h) (drop (suc i) (kids t))) (drop i (row t))) (right_flat 4 h (kid t i) (within_kid least h t i w (index_le b (row t))))

pub cut_formed : {E : Type 0} → CutFormed E
cut_formed fresh b h t w = (
  (repair_ok Last h (cut_left b h t) (left_edge b (root_least h) h t w)).0,
  (repair_ok First h (cut_right fresh b h t) (right_edge b fresh (root_least h) h t w)).0,
)

pub cut_flat : {E : Type 0} → CutFlat E
cut_flat fresh b h t w = (
  (repair_ok Last h (cut_left b h t) (left_edge b (root_least h) h t w)).1 ∙ left_flat b (root_least h) h t w,
  (repair_ok First h (cut_right fresh b h t) (right_edge b fresh (root_least h) h t w)).1 ∙ right_flat b fresh (root_least h) h t w,
)

pub cut_parts : {E : Type 0} → CutParts E
cut_parts fresh b h t w =
    let f = cut_flat fresh b h t w in (
      simp (f.0, f.1) (sym (way_flat b (root_least h) h t w)),
      λ r.
          let s = way_sides b (root_least h) h t w r in (
            subst (λ l. All (λ x. b x ≡ true) l) (sym f.0) s.0,
            subst (λ l. All (λ x. b x ≡ false) l) (sym f.1) s.1,
          ),
    )

pub cut_sorted : {E : Type 0} → CutSorted E
cut_sorted le fresh b h t w s =
    let l : List _ = flat (left_part b h t).0 (left_part b h t).1 in
    let r : List _ = flat (right_part fresh b h t).0 (right_part fresh b h t).1 in
    sorted_parts le l r (subst (λ z. Sorted le z) (sym (cut_parts fresh b h t w).0) s)
