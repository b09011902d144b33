-- One level of the descent of a cut, and what the recursion did below it. Assumes nothing.
use Rattle.map.proofs.Seeking.{index_is, made_is}
use Rattle.rules.proofs.Searches.{first_is}
use Rattle.std.proofs.Common.{◌≡◌, ℕ, zero, suc, ◌+◌, ◌-◌, ◌<◌, ◌≤◌, Bool, List, [], ◌∷◌, ◌++◌, map, length, get_or, take, drop, Ok, Err, All, Result, Ordering, sym, refl, ap, ◌∙◌, subst, ap₂, ⊎_elim, append_assoc, arith, length-append, length-drop, take-append-drop, length-take}
use lib.ListN.{length-map}
use lib.Seq.{split_at}
use Rattle.std.proofs.lemmas.List.Elements.{All-nil, All-cons, All-append, All-take, All-drop}
use Rattle.std.proofs.lemmas.List.{map-append, get_or-append-add}
use Rattle.std.proofs.lemmas.Bool.{cases_eq}
use Rattle.supply.specs.declared.faults.Fault.{Fault}
use Rattle.supply.specs.Stocks.{Stock}
use Rattle.order.specs.Found.{first_not_below, comparisons}
use Rattle.node.specs.declared.head.Head.{Head}
use Rattle.node.specs.declared.nodes.NodeRef.{NodeRef}
use Rattle.node.specs.Links.{edge}
use Rattle.node.specs.Shape.{Tree, node, none, number, row, kids, kid, mk, total}
use Rattle.node.specs.Sorted.{index}
use Rattle.node.specs.Store.{Tables, Sized, Node, Linked, Holds, SameLink, Changed, head_at, numbers, times, first}
use Rattle.node.specs.Laws.{occurs, below, same}
use Rattle.node.specs.Balance.{mark, Beside}
use Rattle.node.specs.Operations.{MovesSuffix}
use Rattle.node.proofs.Adopts.{times_append}
use Rattle.node.proofs.Balances.{mark_most, guard_most, balanced_none, beside_both, beside_more, beside_changed, beside_holds, beside_sized}
use Rattle.node.proofs.Frames.{height_suc, holds_node, holds_leaf, holds_fan, holds_linked, holds_kids, holds_kid, holds_from, holds_from_leaf, linked_append, linked_parts, node_same, linked_same, all_kept}
use Rattle.node.proofs.Numbers.{same_self, same_other, same_at, occurs_parts, occurs_mk, tops_occur}
use Rattle.node.proofs.Runs.{edge_is}
use Rattle.node.proofs.Tabled.{ok_same, err_not_ok}
use Rattle.node.proofs.Weaves.{total_around}
use Rattle.rules.proofs.Branches.{tops_inside, tops_parts}
use Rattle.rules.proofs.Ways.{index_le}
use Rattle.parts.specs.Rules.{cut_left, cut_right, spine, cuts}
use Rattle.repair.proofs.Mending.{beside_all}
use Rattle.repair.proofs.Tops.{ref_is}
use Rattle.cut.specs.Descent.{Stops, beneath, Parted, Cuts}
use Rattle.cut.proofs.Spines.{spine_inner}

-- ---- trees

module _ {E : Type 0} where
  pub left_number : (b : E → Bool) (h : ℕ) (t : Tree E) → number (cut_left b h t) ≡ number t
  unfolding cut_left
  left_number b zero t = refl
  left_number b (suc h) t = refl

  pub right_number : (fresh : ℕ → ℕ) (b : E → Bool) (h : ℕ) (t : Tree E) → number (cut_right fresh b h t) ≡ number (spine {E = E} fresh h)
  unfolding cut_right spine
  right_number fresh b zero t = refl
  right_number fresh b (suc h) t = refl

-- ---- a spine in the tables

module _ {K V : Type 0} (T : Tables K V) (fresh : ℕ → ℕ) where
  spine_node_leaf : Holds T zero (spine fresh zero) → Node T (number (spine {E = K × V} fresh zero)) [] []
  unfolding spine
  spine_node_leaf w = (holds_leaf T (spine fresh zero) w).0

  module _ (h : ℕ) (w : Holds T (suc h) (spine fresh (suc h))) where
    spine_node : Node T (number (spine {E = K × V} fresh (suc h))) [] (number (spine {E = K × V} fresh h) ∷ [])
    unfolding spine
    spine_node = holds_node T (suc h) (spine fresh (suc h)) w

    spine_linked : Linked T (number (spine {E = K × V} fresh (suc h))) 0 (number (spine {E = K × V} fresh h) ∷ [])
    unfolding spine
    spine_linked = holds_linked T h (spine fresh (suc h)) w

    spine_below : Holds T h (spine fresh h)
    unfolding spine
    spine_below = holds_kid T h (spine fresh (suc h)) 0 w (omega arith)

pub spine_occurs : (E : Type 0) (fresh : ℕ → ℕ) (x h : ℕ) → occurs x (suc h) (spine {E = E} fresh (suc h)) ≡ same x (number (spine {E = E} fresh (suc h))) + occurs x h (spine {E = E} fresh h)
spine_occurs E fresh x h =
    omega (arith, ap (occurs x (suc h)) (spine_inner {E = E} fresh h), occurs_mk {E = E} x h (fresh (suc h)) [] (spine fresh h ∷ []), ap (λ t. same x (number t)) (spine_inner {E = E} fresh h))

-- ---- where the search stops

module _ {K V : Type 0} (place : K → Ordering) (T : Tables K V) (h m i made : ℕ) (v : Stops place T m i made) (t : Tree (K × V)) (w : Holds T h t) (at-m : number t ≡ m) where
  abbrev pl : K × V → Ordering
  pl e = place (first e)

  pub stop_first : i ≡ first_not_below pl (row t)
  stop_first = v.here ∙ index_is place T h m t w at-m

  pub stop_index : i ≡ index (beneath place) (row t)
  stop_index = stop_first ∙ first_is pl (row t)

  pub stop_made : made ≡ comparisons pl (row t)
  stop_made = v.count ∙ made_is place T h m t w at-m

-- ---- at a leaf

module _ {K V : Type 0} (T T₁ : Tables K V) (fresh : ℕ → ℕ) (t : Tree (K × V)) (i : ℕ) (r : Result (Unit {0}) Fault) (S : Stock) (sized : Sized T) (w : Holds T zero t) (z : Holds T zero (spine fresh zero))
    (apart : (x : ℕ) → occurs x zero t + occurs x zero (spine {E = K × V} fresh zero) ≤ mark S x) (within : i ≤ length (row t))
    (c : MovesSuffix T T₁ zero (number t) i (number (spine {E = K × V} fresh zero)) r) where
  abbrev m₀ : ℕ
  m₀ = number t

  abbrev n₀ : ℕ
  n₀ = number (spine {E = K × V} fresh zero)

  sum₀ : (x : ℕ) → same x m₀ + same x n₀ ≤ mark S x
  sum₀ x = omega (arith, apart x, occurs_parts x zero t, occurs_parts {E = K × V} x zero (spine fresh zero))

  other₀ : n₀ ≡ m₀ → ⊥
  other₀ e = omega (arith, sum₀ m₀, same_self m₀, ap (same m₀) e, mark_most S m₀)

  pub leaf_moved : (r ≡ Ok tt) × Node T₁ m₀ (take i (row t)) [] × Node T₁ n₀ (drop i (row t)) [] × Linked T₁ n₀ 0 [] × Changed T T₁ (n₀ ∷ m₀ ∷ []) []
  unfolding MovesSuffix
  leaf_moved =
      c (take i (row t)) (drop i (row t)) [] [] [] sized (subst (λ es. Node T m₀ es []) (sym (take-append-drop i (row t))) (holds_leaf T t w).0) (spine_node_leaf T fresh z)
      (simp length-take (omega arith))
      (record { leaf = λ _. refl; inner = λ l. absurd (omega arith) })
      (λ _. refl) (λ l. absurd (omega arith))
      (record { leaf = λ _. refl; inner = λ l. absurd (omega arith) })
      other₀
      (record { inside = All-nil (λ c'. c' < length T.heads); once = λ x. omega arith })

module _ {K V : Type 0} (place : K → Ordering) (T T₁ : Tables K V) (S : Stock) (fresh : ℕ → ℕ) (t : Tree (K × V)) (i : ℕ) (sized : Sized T) (w : Holds T zero t) (z : Holds T zero (spine fresh zero))
    (apart : (x : ℕ) → occurs x zero t + occurs x zero (spine {E = K × V} fresh zero) ≤ mark S x) (at_i : i ≡ index (beneath place) (row t))
    (r : Result (Unit {0}) Fault) (c : MovesSuffix T T₁ zero (number t) i (number (spine {E = K × V} fresh zero)) r) where
  pub leaf_parted : Parted place T T₁ S zero t fresh
  unfolding cut_left cut_right spine
  leaf_parted =
      let d = leaf_moved T T₁ fresh t i r S sized w z apart (omega (arith, at_i, index_le (beneath place) (row t))) c in
      let f : (x : ℕ) → same x (number t) + same x (fresh 0) ≤ occurs x zero t + occurs x zero (spine {E = K × V} fresh zero) =
      λ x. omega (arith, occurs_parts x zero t, occurs_parts {E = K × V} x zero (spine fresh zero)) in
      record {
        left = subst (λ j. Holds T₁ zero (mk (number t) (take j (row t)) [])) at_i (holds_from_leaf T₁ (number t) (take i (row t)) d.1);
        right = subst (λ j. Holds T₁ zero (mk (fresh 0) (drop j (row t)) [])) at_i (holds_from_leaf T₁ (fresh 0) (drop i (row t)) d.2);
        left_link = d.4.links (number t) refl;
        right_link = d.4.links (fresh 0) refl;
        beside = beside_changed T T₁ S (λ x. occurs x zero t + occurs x zero (spine {E = K × V} fresh zero)) (fresh 0 ∷ number t ∷ []) [] d.4
            (λ x l. omega (arith, f x, guard_most S x)) (λ x l. refl);
      }

-- ---- above the leaves

module _ {K V : Type 0} (T : Tables K V) (S : Stock) (fresh : ℕ → ℕ) (h : ℕ) (t : Tree (K × V)) (i : ℕ) (sized : Sized T) (w : Holds T (suc h) t) (z : Holds T (suc h) (spine fresh (suc h)))
    (apart : (x : ℕ) → occurs x (suc h) t + occurs x (suc h) (spine {E = K × V} fresh (suc h)) ≤ mark S x) (within : i ≤ length (row t)) where
  abbrev m : ℕ
  m = number t

  abbrev n : ℕ
  n = number (spine {E = K × V} fresh (suc h))

  abbrev v : Tree (K × V)
  v = spine fresh h

  abbrev A : List (Tree (K × V))
  A = take i (kids t)

  abbrev k : Tree (K × V)
  k = kid t i

  abbrev B : List (Tree (K × V))
  B = drop (suc i) (kids t)

  abbrev ks : List ℕ
  ks = map number A ++ number k ∷ []

  abbrev ls : List ℕ
  ls = map number B

  inside : i < length (kids t)
  inside = omega (arith, holds_fan T h t w)

  numbers_parts : numbers t ≡ ks ++ ls
  numbers_parts =
      ap (map number) (split_at (kids t) i (node 0 [] none) inside) ∙ map-append number A (k ∷ B) ∙ sym (append_assoc (map number A) (number k ∷ []) ls)

  -- each number stands once in both trees
  sum : (x : ℕ) → same x m + (total (occurs x h) A + (occurs x h k + total (occurs x h) B)) + (same x n + occurs x h v) ≤ mark S x
  sum x = omega (arith, apart x, occurs_parts x (suc h) t, total_around (occurs x h) (kids t) i (node 0 [] none) inside, spine_occurs (K × V) fresh x h)

  whole : (x : ℕ) → same x m + (total (occurs x h) A + (occurs x h k + total (occurs x h) B)) + (same x n + occurs x h v) ≡ occurs x (suc h) t + occurs x (suc h) (spine {E = K × V} fresh (suc h))
  whole x = omega (arith, occurs_parts x (suc h) t, total_around (occurs x h) (kids t) i (node 0 [] none) inside, spine_occurs (K × V) fresh x h)

  other : n ≡ m → ⊥
  other e = omega (arith, sum m, same_self m, ap (same m) e, mark_most S m)

  length_a : length (map number A) ≡ i
  length_a = length-map A number ∙ simp length-take (omega (arith, inside))

  length_ks : length ks ≡ i + 1
  length_ks = omega (arith, length-append (map number A) (number k ∷ []), length_a)

  length_ls : length ls ≡ length (drop i (row t))
  length_ls = omega (arith, length-map B number, length-drop (suc i) (kids t), length-drop i (row t), holds_fan T h t w)

  module _ (T₁ : Tables K V) (r : Result (Unit {0}) Fault) (c : MovesSuffix T T₁ (suc h) m i n r) where
    pub inner_moved : (r ≡ Ok tt) × Node T₁ m (take i (row t)) ks × Node T₁ n (drop i (row t)) (number v ∷ ls) × Linked T₁ n 1 ls × Changed T T₁ (n ∷ m ∷ []) ls
    unfolding MovesSuffix
    inner_moved =
        c (take i (row t)) (drop i (row t)) ks ls (number v ∷ []) sized
        (subst (λ es. Node T m es (ks ++ ls)) (sym (take-append-drop i (row t))) (subst (λ ns. Node T m (row t) ns) numbers_parts (holds_node T (suc h) t w)))
        (spine_node T fresh h z)
        (simp length-take (omega arith))
        (record { leaf = λ l. absurd (omega arith); inner = λ _. length_ks ∙ simp length-take (omega arith) })
        (λ l. absurd (omega arith)) (λ _. length_ls)
        (record { leaf = λ l. absurd (omega arith); inner = λ _. refl })
        other
        (record {
          inside = tops_inside T h B (All-drop (Holds T h) (suc i) (kids t) (holds_kids T h t w));
          once = λ x. omega (arith, tops_occur x h B, sum x, mark_most S x);
        })

    changed : Changed T T₁ (n ∷ m ∷ []) ls
    changed = inner_moved.4

    abbrev f₁ : ℕ → ℕ
    f₁ x = same x n + (same x m + times x ls)

    one : Beside T T₁ S f₁
    one = beside_changed T T₁ S f₁ (n ∷ m ∷ []) ls changed (λ x l. omega (arith, guard_most S x)) (λ x l. omega (arith, guard_most S x))

    pub sized_below : Sized T₁
    sized_below = beside_sized T T₁ S f₁ one sized

    pub left_below : Holds T₁ h k
    left_below = beside_holds T T₁ S f₁ h k one (λ x. omega (arith, sum x, tops_occur x h B)) (holds_kid T h t i w inside)

    pub right_below : Holds T₁ h v
    right_below = beside_holds T T₁ S f₁ h v one (λ x. omega (arith, sum x, tops_occur x h B)) (spine_below T fresh h z)

    pub apart_below : (x : ℕ) → occurs x h k + occurs x h v ≤ mark S x
    apart_below x = omega (arith, sum x)

    pub left_edge : edge T₁.heads m i ≡ number k
    left_edge =
        edge_is (head_at T₁ m).edges [] ks 0 i i inner_moved.1.edges_are refl (omega (arith, length_ks)) (omega arith)
        ∙ ap (λ j. get_or ks j 0) (let e : i ≡ length (map number A) + 0 = omega (arith, length_a) in e)
        ∙ get_or-append-add (map number A) (number k ∷ []) 0 0

    pub right_edge : edge T₁.heads n 0 ≡ number v
    right_edge = edge_is (head_at T₁ n).edges [] (number v ∷ ls) 0 0 0 inner_moved.2.edges_are refl (omega arith) (omega arith)

    pub left_inside : m < length T₁.heads
    left_inside = inner_moved.1.inside

    pub right_inside : n < length T₁.heads
    right_inside = inner_moved.2.inside

    -- what the recursion did
    module _ (place : K → Ordering) (at_i : i ≡ index (beneath place) (row t)) (T₂ : Tables K V) (D : Parted place T₁ T₂ S h k fresh) where
      abbrev b : K × V → Bool
      b = beneath place

      abbrev f₂ : ℕ → ℕ
      f₂ x = occurs x h k + occurs x h v

      k' : Tree (K × V)
      k' = cut_left b h k

      -- the links of what stays: those of A, and of k by the recursion
      stays : (x : ℕ) → 0 < times x ks → SameLink T₁ T₂ x
      stays x l =
          ⊎_elim
          (λ (e : x ≡ number k). subst (λ y. SameLink T₁ T₂ y) (sym e) D.left_link)
          (λ (e : x ≡ number k → ⊥). D.beside.links x (omega (arith, sum x, times_append x (map number A) (number k ∷ []), same_other x (number k) e, tops_occur x h A, mark_most S x)))
          (cases_eq x (number k))

      left_linked : Linked T₂ m 0 ks
      left_linked =
          linked_same T₁ T₂ m 0 ks stays
          (linked_same T T₁ m 0 ks (λ x l. one.links x (omega (arith, sum x, times_append x (map number A) (number k ∷ []), tops_occur x h A, occurs_parts x h k, tops_occur x h B, mark_most S x)))
          (linked_parts T m 0 ks ls (subst (λ ns. Linked T m 0 ns) numbers_parts (holds_linked T h t w))).0)

      left_numbers : map number (A ++ k' ∷ []) ≡ ks
      unfolding k'
      left_numbers = map-append number A (k' ∷ []) ∙ ap (λ j. map number A ++ j ∷ []) (left_number b h k)

      left_held : Holds T₂ (suc h) (mk m (take i (row t)) (A ++ k' ∷ []))
      unfolding k'
      left_held =
          holds_from T₂ h m (take i (row t)) (A ++ k' ∷ [])
          (subst (λ ns. Node T₂ m (take i (row t)) ns) (sym left_numbers)
          (node_same T₁ T₂ m (take i (row t)) ks D.beside.heads_len (D.beside.bodies m (omega (arith, sum m, same_self m, mark_most S m))) inner_moved.1))
          (simp (length-append, length-take) (omega (arith, inside)))
          (subst (λ ns. Linked T₂ m 0 ns) (sym left_numbers) left_linked)
          (All-append (Holds T₂ h) A (k' ∷ [])
          (beside_all T₁ T₂ S f₂ h D.beside A (λ x. omega (arith, sum x))
          (beside_all T T₁ S f₁ h one A (λ x. omega (arith, sum x, tops_occur x h B)) (All-take (Holds T h) i (kids t) (holds_kids T h t w))))
          (All-cons (Holds T₂ h) k' [] D.left (All-nil (Holds T₂ h))))

      r' : Tree (K × V)
      r' = cut_right fresh b h k

      right_numbers : map number (r' ∷ B) ≡ number v ∷ ls
      unfolding r'
      right_numbers = ap (λ j. j ∷ ls) (right_number fresh b h k)

      first_linked : Linked T₂ n 0 (number v ∷ [])
      first_linked =
          linked_same T₁ T₂ n 0 (number v ∷ []) (λ x l. subst (λ y. SameLink T₁ T₂ y) (sym (same_at x (number v) (omega arith))) D.right_link)
          (linked_same T T₁ n 0 (number v ∷ []) (λ x l. one.links x (omega (arith, sum x, occurs_parts x h v, tops_occur x h B, mark_most S x))) (spine_linked T fresh h z))

      rest_linked : Linked T₂ n 1 ls
      rest_linked = linked_same T₁ T₂ n 1 ls (λ x l. D.beside.links x (omega (arith, sum x, tops_occur x h B, mark_most S x))) inner_moved.3

      rest_held : All (Holds T₂ h) B
      rest_held =
          beside_all T₁ T₂ S f₂ h D.beside B (λ x. omega (arith, sum x))
          (all_kept T T₁ (n ∷ m ∷ []) ls h B changed
          (λ x l. omega (arith, sum x, mark_most S x))
          (λ x l. omega (arith, sum x, tops_parts x h B, mark_most S x))
          (All-drop (Holds T h) (suc i) (kids t) (holds_kids T h t w)))

      right_held : Holds T₂ (suc h) (mk n (drop i (row t)) (r' ∷ B))
      unfolding r'
      right_held =
          holds_from T₂ h n (drop i (row t)) (r' ∷ B)
          (subst (λ ns. Node T₂ n (drop i (row t)) ns) (sym right_numbers)
          (node_same T₁ T₂ n (drop i (row t)) (number v ∷ ls) D.beside.heads_len (D.beside.bodies n (omega (arith, sum n, same_self n, mark_most S n))) inner_moved.2))
          (ap suc (sym (length-map B number) ∙ length_ls))
          (subst (λ ns. Linked T₂ n 0 ns) (sym right_numbers) (linked_append T₂ n 0 (number v ∷ []) ls first_linked rest_linked))
          (All-cons (Holds T₂ h) r' B D.right rest_held)

      root_link : (x : ℕ) → 0 < same x m + same x n → SameLink T T₂ x
      root_link x l =
          let p = changed.links x (omega (arith, sum x, tops_occur x h B, mark_most S x)) in
          let q = D.beside.links x (omega (arith, sum x, mark_most S x)) in
          record { parent_same = q.parent_same ∙ p.parent_same; place_same = q.place_same ∙ p.place_same }

      pub inner_parted : Parted place T T₂ S (suc h) t fresh
      unfolding cut_left cut_right spine k' r'
      inner_parted =
          let F : ℕ → ℕ = λ x. occurs x (suc h) t + occurs x (suc h) (spine {E = K × V} fresh (suc h)) in
          record {
            left = subst (λ j. Holds T₂ (suc h) (mk m (take j (row t)) (take j (kids t) ++ cut_left b h (kid t j) ∷ []))) at_i left_held;
            right = subst (λ j. Holds T₂ (suc h) (mk (fresh (suc h)) (drop j (row t)) (cut_right fresh b h (kid t j) ∷ drop (suc j) (kids t)))) at_i right_held;
            left_link = root_link m (omega (arith, same_self m));
            right_link = root_link n (omega (arith, same_self n));
            beside = beside_both T T₁ T₂ S S F F (balanced_none S F)
                (beside_more T T₁ S f₁ F (λ x. omega (arith, whole x, tops_occur x h B)) one)
                (beside_more T₁ T₂ S f₂ F (λ x. omega (arith, whole x)) D.beside);
          }

-- ---- for the code

-- an edge of a node in the table is read
pub no_edge : (H : List Head) (k l j : ℕ) → k ≡ l → l < length H → j < 12 → (k < length H → j < 12 → ⊥) → ⊥
no_edge H k l j e inside few refused = refused (omega (arith, e)) few

-- what a caller of the cut gives
pub record Ready {K V : Type 0} (T : Tables K V) (S : Stock) (h m n : ℕ) (t : Tree (K × V)) (fresh : ℕ → ℕ) : Type 0 where
  pub sized : Sized T
  pub left : Holds T h t
  pub right : Holds T h (spine fresh h)
  pub at_left : number t ≡ m
  pub at_right : number (spine {E = K × V} fresh h) ≡ n
  pub apart : (x : ℕ) → occurs x h t + occurs x h (spine {E = K × V} fresh h) ≤ mark S x

module _ {K V : Type 0} (place : K → Ordering) (T T₁ : Tables K V) (m i made n : ℕ) (v : Stops place T m i made) (r : Result (Unit {0}) Fault) where
  module _ (h : ℕ) (S : Stock) (t : Tree (K × V)) (fresh : ℕ → ℕ) (g : Ready T S h m n t fresh) where
    stopped : i ≡ index (beneath place) (row t)
    stopped = stop_index place T h m i made v t g.left g.at_left

    within : i ≤ length (row t)
    within = omega (arith, stopped, index_le (beneath place) (row t))

    turned : MovesSuffix T T₁ h m i n r → MovesSuffix T T₁ h (number t) i (number (spine {E = K × V} fresh h)) r
    turned c = subst (λ x. MovesSuffix T T₁ h x i (number (spine {E = K × V} fresh h)) r) (sym g.at_left) (subst (λ y. MovesSuffix T T₁ h m i y r) (sym g.at_right) c)

  -- the entries move, and both nodes lie in the table
  pub moves : (h : ℕ) → MovesSuffix T T₁ h m i n r → (S : Stock) (t : Tree (K × V)) (fresh : ℕ → ℕ) → Ready T S h m n t fresh → (r ≡ Ok tt) × (n < length T₁.heads) × (m < length T₁.heads)
  moves zero c S t fresh g =
      let d = leaf_moved T T₁ fresh t i r S g.sized g.left g.right g.apart (within zero S t fresh g) (turned zero S t fresh g c) in
      (d.0, subst (λ y. y < length T₁.heads) g.at_right d.2.inside, subst (λ y. y < length T₁.heads) g.at_left d.1.inside)
  moves (suc h) c S t fresh g =
      let d = inner_moved T S fresh h t i g.sized g.left g.right g.apart (within (suc h) S t fresh g) T₁ r (turned (suc h) S t fresh g c) in
      (d.0, subst (λ y. y < length T₁.heads) g.at_right d.2.inside, subst (λ y. y < length T₁.heads) g.at_left d.1.inside)

  cut_leaf₀ : MovesSuffix T T₁ zero m i n r → Cuts place T T₁ zero m n (Ok made)
  unfolding Cuts cuts
  cut_leaf₀ c S t fresh sized w z em en apart =
      let g : Ready T S zero m n t fresh = record { sized = sized; left = w; right = z; at_left = em; at_right = en; apart = apart } in (
        ap Ok (stop_made place T zero m i made v t w em),
        leaf_parted place T T₁ S fresh t i sized w z apart (stopped zero S t fresh g) r (turned zero S t fresh g c),
      )

  pub cut_leaf : (h : ℕ) → h ≡ 0 → MovesSuffix T T₁ h m i n r → Cuts place T T₁ h m n (Ok made)
  cut_leaf h e c = subst (λ k. Cuts place T T₁ k m n (Ok made)) (sym e) (cut_leaf₀ (subst (λ k. MovesSuffix T T₁ k m i n r) e c))

  module _ {U : Tables K V} (same : U ≡ T₁) (T₂ : Tables K V) (k x y : ℕ) (is_k : k ≡ m) (at_k : x ≡ edge U.heads k i) (at_n : y ≡ edge U.heads n 0) where
    at_x : x ≡ edge T₁.heads m i
    at_x = at_k ∙ ap (λ (t : Tables K V). edge t.heads k i) same ∙ ap (λ c. edge T₁.heads c i) is_k

    at_y : y ≡ edge T₁.heads n 0
    at_y = at_n ∙ ap (λ (t : Tables K V). edge t.heads n 0) same

    -- the recursion is called on the child and on the spine below
    calls : (h : ℕ) → MovesSuffix T T₁ (suc h) m i n r → (q : Result ℕ Fault) → Cuts place T₁ T₂ h x y q → (S : Stock) (t : Tree (K × V)) (fresh : ℕ → ℕ) → Ready T S (suc h) m n t fresh
        → (q ≡ Ok (cuts (λ e. place (first e)) h (kid t i))) × Parted place T₁ T₂ S h (kid t i) fresh
    unfolding Cuts
    calls h c q ih S t fresh g =
        let a : i ≤ length (row t) = within (suc h) S t fresh g in
        let c' = turned (suc h) S t fresh g c in
        let ex : number (kid t i) ≡ x = sym (left_edge T S fresh h t i g.sized g.left g.right g.apart a T₁ r c') ∙ ap (λ j. edge T₁.heads j i) g.at_left ∙ sym at_x in
        let ey : number (spine {E = K × V} fresh h) ≡ y = sym (right_edge T S fresh h t i g.sized g.left g.right g.apart a T₁ r c') ∙ ap (λ j. edge T₁.heads j 0) g.at_right ∙ sym at_y in
        ih S (kid t i) fresh
        (sized_below T S fresh h t i g.sized g.left g.right g.apart a T₁ r c')
        (left_below T S fresh h t i g.sized g.left g.right g.apart a T₁ r c')
        (right_below T S fresh h t i g.sized g.left g.right g.apart a T₁ r c')
        ex ey
        (apart_below T S fresh h t i g.sized g.left g.right g.apart a T₁ r c')

    cut_inner₁ : (h below : ℕ) → MovesSuffix T T₁ (suc h) m i n r → Cuts place T₁ T₂ h x y (Ok below) → Cuts place T T₂ (suc h) m n (Ok (made + below))
    unfolding Cuts cuts
    cut_inner₁ h below c ih S t fresh sized w z em en apart =
        let g : Ready T S (suc h) m n t fresh = record { sized = sized; left = w; right = z; at_left = em; at_right = en; apart = apart } in
        let d = calls h c (Ok below) ih S t fresh g in
        let pl : K × V → Ordering = λ e. place (first e) in (
          ap₂ (λ a b. Ok (a + b)) (stop_made place T (suc h) m i made v t w em) (ok_same _ _ d.0 ∙ ap (λ j. cuts pl h (kid t j)) (stop_first place T (suc h) m i made v t w em)),
          inner_parted T S fresh h t i sized w z apart (within (suc h) S t fresh g) T₁ r (turned (suc h) S t fresh g c) place (stopped (suc h) S t fresh g) T₂ d.1,
        )

    module _ (h : ℕ) (up : 0 < h) (c : MovesSuffix T T₁ h m i n r) (low : NodeRef) (is_x : low.node ≡ x) (lower : low.height ≡ h - 1) where
      called : (q : Result ℕ Fault) → Cuts place T₁ T₂ low.height low.node y q → Cuts place T₁ T₂ (h - 1) x y q
      called q ih = subst (λ (k : NodeRef). Cuts place T₁ T₂ k.height k.node y q) (ref_is low x (h - 1) is_x lower) ih

      pub cut_inner : (below : ℕ) → Cuts place T₁ T₂ low.height low.node y (Ok below) → Cuts place T T₂ h m n (Ok (made + below))
      cut_inner below ih =
          subst (λ k. Cuts place T T₂ k m n (Ok (made + below))) (sym (height_suc h up)) (cut_inner₁ (h - 1) below (subst (λ k. MovesSuffix T T₁ k m i n r) (height_suc h up) c) (called (Ok below) ih))

      -- and it is not refused
      pub not_refused : (f : Fault) → Cuts place T₁ T₂ low.height low.node y (Err f) → (S : Stock) (t : Tree (K × V)) (fresh : ℕ → ℕ) → Ready T S h m n t fresh → ⊥
      not_refused f ih S t fresh g =
          err_not_ok _ _ (calls (h - 1) (subst (λ k. MovesSuffix T T₁ k m i n r) (height_suc h up) c) (Err f) (called (Err f) ih) S t fresh (subst (λ k. Ready T S k m n t fresh) (height_suc h up) g)).0
