-- Two neighbours and the entry between them in one node. Assumes nothing.
use Rattle.node.proofs.Weaves.{all_front, all_back}
use Rattle.std.proofs.Common.{◌≡◌, ℕ, ◌+◌, ◌-◌, ◌*◌, ◌<◌, ◌≤◌, List, [], ◌∷◌, ◌++◌, map, length, Ok, All, Result, sym, refl, ap, ◌∙◌, subst, ap₂, arith, length-append}
use Rattle.std.proofs.lemmas.List.Elements.{All-weaker}
use Rattle.std.proofs.lemmas.List.{map-append, append_assoc}
use Rattle.supply.specs.declared.faults.Fault.{Fault}
use Rattle.node.specs.declared.head.Head.{Head}
use Rattle.node.specs.declared.rows.Pair.{Pair}
use Rattle.node.specs.Cells.{span, Put, Run}
use Rattle.node.specs.Store.{tables, Node, Linked, Changed, head_in, first, second, itself}
use Rattle.node.specs.Links.{Adopted}
use Rattle.node.specs.Rows.{MergedRow}
use Rattle.node.specs.Operations.{Pairs, Children, Fan}
use Rattle.node.proofs.Adopts.{times_append, times_one}
use Rattle.node.proofs.Runs.{run_parts, run_three, edges_remove, edges_tail, edges_part, edges_part_of}
use Rattle.node.proofs.Tabled.{Rewritten, Relinked, Kept, rewritten_none, rewritten_set, refit, refit_same, refit_other, relinked_none, relinked_adopted, relinked_both, changed_of, node_of, linked_of, linked_at}

-- one table: the rows of the parent and of the left child
module _ {X E : Type 0} (f : E → X) (xs xs' : List X) (p i l r : ℕ) (us : List E) (e : E) (ws es fs : List E) (here : length us ≡ i)
    (row-p : Run f xs (11 * p) (us ++ e ∷ ws)) (row-l : Run f xs (11 * l) es) (row_r : Run f xs (11 * r) fs)
    (m : MergedRow xs xs' p i (length (us ++ e ∷ ws)) l (length es) r (length fs)) where
  long : length (us ++ e ∷ ws) ≡ i + (1 + length ws)
  long = omega (arith, length-append us (e ∷ ws))

  behind : Run f xs (11 * p + i) (e ∷ ws)
  behind = subst (λ k. Run f xs (11 * p + k) (e ∷ ws)) here (run_parts f xs (11 * p) us (e ∷ ws) row-p).1

  cell : span xs (11 * p + i) 1 ≡ f e ∷ []
  cell = (run_parts f xs (11 * p + i) (e ∷ []) ws behind).0

  pub merged_left : Run f xs' (11 * l) (es ++ e ∷ fs)
  merged_left =
      run_three f xs' (11 * l) (span xs (11 * l) (length es)) (span xs (11 * p + i) 1) (span xs (11 * r) (length fs)) es e fs (length es + (1 + length fs)) refl m.left row-l cell row_r

  pub merged_parent : Run f xs' (11 * p) (us ++ ws)
  merged_parent =
      let k : ℕ = length (us ++ e ∷ ws) in
      let n : k - i - 1 ≡ length ws = omega (arith, long) in
      let z : length (us ++ ws) ≡ i + (k - i - 1) = omega (arith, length-append us ws, long) in
      let front : span xs (11 * p) i ≡ map f us = ap (span xs (11 * p)) (sym here) ∙ (run_parts f xs (11 * p) us (e ∷ ws) row-p).0 in
      let back : span xs (11 * p + i + 1) (k - i - 1) ≡ map f ws = ap (span xs (11 * p + i + 1)) n ∙ (run_parts f xs (11 * p + i) (e ∷ []) ws behind).1 in
      ap (span xs' (11 * p)) z ∙ m.parent ∙ ap₂ (λ u v. u ++ v) front back ∙ sym (map-append f us ws)

module _ {K V : Type 0} (H : List Head) (ks ks' : List K) (vs vs' : List V) (h p i l r : ℕ) (us : List (K × V)) (e : K × V) (ws es fs : List (K × V)) (as' bs kk ll : List ℕ)
    (q : Pairs (tables H ks vs) p i l r us e ws es fs as' bs kk ll) (f1 : Fan h (length es) (length kk)) (f2 : Fan h (length fs) (length ll)) (fits : length es + length fs + 1 ≤ 11)
    (kids : Children (tables H ks vs) (bs ++ ll)) (count : ℕ) (cf : Fan h (length fs) count) (own below : List ℕ)
    (w1 : Put (head_in H p).edges own (i + 1) (span (head_in H p).edges (i + 1 + 1) (length (us ++ e ∷ ws) - i - 1)))
    (w2 : Put (head_in H l).edges below (length es + 1) (span (head_in H r).edges 0 count)) where
  abbrev k : ℕ
  k = length (us ++ e ∷ ws)

  abbrev G1 : List Head
  G1 = refit H p (k - 1) own

  abbrev G : List Head
  G = refit G1 l (length es + 1 + length fs) below

  r1 : Rewritten H G1 (p ∷ [])
  r1 = rewritten_set H H [] (rewritten_none H) p (k - 1) own q.parent.inside

  r2 : Rewritten H G (l ∷ p ∷ [])
  r2 = rewritten_set H G1 (p ∷ []) r1 l (length es + 1 + length fs) below q.left.inside

  wide : length us + (1 + length ws) ≡ k
  wide = omega (arith, length-append us (e ∷ ws))

  own_p : ((head_in G p).len ≡ k - 1) × ((head_in G p).edges ≡ own)
  own_p =
      let s = refit_same H p (k - 1) own q.parent.inside in
      let o = refit_other G1 l (length es + 1 + length fs) below p (λ z. q.left_other (sym z)) in
      (ap (λ x. x.len) o ∙ s.0, ap (λ x. x.edges) o ∙ s.1)

  own_l : ((head_in G l).len ≡ length es + 1 + length fs) × ((head_in G l).edges ≡ below)
  own_l = refit_same G1 l (length es + 1 + length fs) below (omega (arith, q.left.inside, r1.size))

  -- the parent's edges after the one to the right child is gone
  run_own : Run itself own 0 (as' ++ l ∷ bs)
  run_own =
      subst (λ (x : List ℕ). Run itself own 0 x) (append_assoc as' (l ∷ []) bs)
      (edges_remove (head_in H p).edges own (as' ++ l ∷ []) r bs (i + 1) (k - i - 1)
      (subst (λ (x : List ℕ). Run itself (head_in H p).edges 0 x) (sym (append_assoc as' (l ∷ []) (r ∷ bs))) q.parent.edges_are)
      (omega (arith, length-append as' (l ∷ []), q.edges_here)) (omega (arith, q.edges_rest, q.here, wide)) w1)

  part_p : span (head_in G p).edges (i + 1) (k - (i + 1)) ≡ bs
  part_p =
      ap (λ x. span x (i + 1) (k - (i + 1))) own_p.1
      ∙ edges_part own (as' ++ l ∷ []) bs (i + 1) (k - (i + 1)) (subst (λ (x : List ℕ). Run itself own 0 x) (sym (append_assoc as' (l ∷ []) bs)) run_own)
      (omega (arith, length-append as' (l ∷ []), q.edges_here)) (omega (arith, q.edges_rest, q.here, wide))

  -- the left child's edges with those of the right one behind them
  source : span (head_in H r).edges 0 count ≡ ll
  source = edges_part_of (head_in H r).edges h 0 count [] ll q.right.edges_are (λ z. (f2.leaf z, cf.leaf z)) (λ z. (refl, f2.inner z ∙ sym (cf.inner z)))

  run_below : Run itself below 0 (kk ++ ll)
  run_below =
      edges_tail (head_in H l).edges below h (length es + 1) kk ll (span (head_in H r).edges 0 count) q.left.edges_are (λ z. (f1.leaf z, f2.leaf z)) (λ z. f1.inner z) source w2

  part_l : (F : List Head) (bs' : List ℕ) → Relinked G F bs' → span (head_in F l).edges (length es + 1) (length es + 1 + count - (length es + 1)) ≡ ll
  part_l F bs' x =
      let z : length es + 1 + count - (length es + 1) ≡ count = omega arith in
      ap₂ (λ u n. span u (length es + 1) n) (x.edges l ∙ own_l.1) z
      ∙ edges_part_of below h (length es + 1) count kk ll run_below (λ y. (f2.leaf y, cf.leaf y)) (λ y. (f1.inner y, f2.inner y ∙ sym (cf.inner y)))

  kids_p : All (λ x. x < length H) bs
  kids_p = all_front (λ x. x < length H) bs ll kids.inside

  kids_l_lem : All (λ x. x < length H) ll
  kids_l_lem = all_back (λ x. x < length H) bs ll kids.inside

  pub merge_inside_p : All (λ x. x < length G) (span (head_in G p).edges (i + 1) (k - (i + 1)))
  merge_inside_p =
      subst (λ (xs : List ℕ). All (λ x. x < length G) xs) (sym part_p) (All-weaker (λ x. x < length H) (λ x. x < length G) (λ x z. omega (arith, r2.size)) bs kids_p)

  module _ (F1 : List Head) (a1 : Adopted G F1 p (i + 1) (span (head_in G p).edges (i + 1) (k - (i + 1)))) where
    adopted_p : Adopted G F1 p (i + 1) bs
    adopted_p = subst (λ (xs : List ℕ). Adopted G F1 p (i + 1) xs) part_p a1

    x1 : Relinked G F1 bs
    x1 = relinked_adopted G F1 p (i + 1) bs adopted_p

    pub merge_inside_l : All (λ x. x < length F1) (span (head_in F1 l).edges (length es + 1) (length es + 1 + count - (length es + 1)))
    merge_inside_l =
        subst (λ (xs : List ℕ). All (λ x. x < length F1) xs) (sym (part_l F1 bs x1))
        (All-weaker (λ x. x < length H) (λ x. x < length F1) (λ x z. omega (arith, r2.size, x1.size)) ll kids_l_lem)

    module _ (F : List Head) (a2 : Adopted F1 F l (length es + 1) (span (head_in F1 l).edges (length es + 1) (length es + 1 + count - (length es + 1))))
        (mk : MergedRow ks ks' p i k l (length es) r (length fs)) (mv : MergedRow vs vs' p i k l (length es) r (length fs)) where
      adopted_l : Adopted F1 F l (length es + 1) ll
      adopted_l = subst (λ (xs : List ℕ). Adopted F1 F l (length es + 1) xs) (part_l F1 bs x1) a2

      x2 : Relinked F1 F ll
      x2 = relinked_adopted F1 F l (length es + 1) ll adopted_l

      x : Relinked G F (bs ++ ll)
      x = relinked_both G F1 F bs ll x1 x2

      kept : {X : Type 0} (xs xs' : List X) → MergedRow xs xs' p i k l (length es) r (length fs) → Kept xs xs' (l ∷ p ∷ [])
      kept xs xs' m = record {
        size = m.size;
        cells = λ y z. m.others y (times_one y p (omega (arith, times_append y (l ∷ []) (p ∷ [])))) (times_one y l (omega (arith, times_append y (l ∷ []) (p ∷ []))));
      }

      linked_l : Linked (tables F ks' vs') l (length kk) ll
      linked_l =
          linked_at (tables F ks' vs') l h (length es + 1) (length kk) ll f2.leaf (λ z. sym (f1.inner z))
          (linked_of F1 F F ks' vs' l (length es + 1) ll [] adopted_l (relinked_none F) (λ y. omega (arith, kids.once y, times_append y bs ll, times_append y ll [])))

      pub merged : Node (tables F ks' vs') p (us ++ ws) (as' ++ l ∷ bs) × Node (tables F ks' vs') l (es ++ e ∷ fs) (kk ++ ll) × Linked (tables F ks' vs') p (i + 1) bs
          × Linked (tables F ks' vs') l (length kk) ll × Changed (tables H ks vs) (tables F ks' vs') (l ∷ p ∷ []) (bs ++ ll)
      merged = (
        node_of H G F ks ks' vs vs' (bs ++ ll) x p (us ++ ws) (as' ++ l ∷ bs) (omega (arith, q.parent.inside, r2.size)) (omega (arith, q.parent.few, length-append us ws, wide))
            (own_p.0 ∙ omega (arith, length-append us ws, wide)) (subst (λ (z : List ℕ). Run itself z 0 (as' ++ l ∷ bs)) (sym own_p.1) run_own)
            (merged_parent first ks ks' p i l r us e ws es fs q.here q.parent.keys_are q.left.keys_are q.right.keys_are mk)
            (merged_parent second vs vs' p i l r us e ws es fs q.here q.parent.values_are q.left.values_are q.right.values_are mv),
        node_of H G F ks ks' vs vs' (bs ++ ll) x l (es ++ e ∷ fs) (kk ++ ll) (omega (arith, q.left.inside, r2.size)) (omega (arith, fits, length-append es (e ∷ fs)))
            (own_l.0 ∙ omega (arith, length-append es (e ∷ fs))) (subst (λ (z : List ℕ). Run itself z 0 (kk ++ ll)) (sym own_l.1) run_below)
            (merged_left first ks ks' p i l r us e ws es fs q.here q.parent.keys_are q.left.keys_are q.right.keys_are mk)
            (merged_left second vs vs' p i l r us e ws es fs q.here q.parent.values_are q.left.values_are q.right.values_are mv),
        linked_of G F1 F ks' vs' p (i + 1) bs ll adopted_p x2 kids.once,
        linked_l,
        changed_of H G F ks ks' vs vs' (l ∷ p ∷ []) (bs ++ ll) r2 x (kept ks ks' mk) (kept vs vs' mv),
      )

-- the same, in the words of the code: a pair that is what the tables hold
module _ {K V : Type 0} (H : List Head) (ks ks' : List K) (vs vs' : List V) (h p i l r : ℕ) (us : List (K × V)) (e : K × V) (ws es fs : List (K × V)) (as' bs kk ll : List ℕ)
    (q : Pairs (tables H ks vs) p i l r us e ws es fs as' bs kk ll) (f1 : Fan h (length es) (length kk)) (f2 : Fan h (length fs) (length ll)) (fits : length es + length fs + 1 ≤ 11)
    (kids : Children (tables H ks vs) (bs ++ ll)) (count : ℕ) (own below : List ℕ) where
  -- the heads before links are corrected
  abbrev heads_of : Pair → List Head
  heads_of x = refit (refit H p (x.len - 1) own) x.left (x.left_len + 1 + x.right_len) below

  pub record Moved (x : Pair) : Type 0 where
    pub fan : Fan h x.right_len count
    pub put_own : Put (head_in H p).edges own (i + 1) (span (head_in H p).edges (i + 1 + 1) (x.len - i - 1))
    pub put_below : Put (head_in H x.left).edges below (x.left_len + 1) (span (head_in H x.right).edges 0 count)

  abbrev InsideP : Pair → Type 0
  InsideP x = Moved x → All (λ c. c < length (heads_of x)) (span (head_in (heads_of x) p).edges (i + 1) (x.len - (i + 1)))

  abbrev InsideL : Pair → Type 0
  InsideL x =
      Moved x → (F1 : List Head) → Adopted (heads_of x) F1 p (i + 1) (span (head_in (heads_of x) p).edges (i + 1) (x.len - (i + 1)))
      → All (λ c. c < length F1) (span (head_in F1 x.left).edges (x.left_len + 1) (x.left_len + 1 + count - (x.left_len + 1)))

  abbrev Whole : Pair → Type 0
  Whole x =
      Moved x → (F1 : List Head) → Adopted (heads_of x) F1 p (i + 1) (span (head_in (heads_of x) p).edges (i + 1) (x.len - (i + 1)))
      → (F : List Head) → Adopted F1 F x.left (x.left_len + 1) (span (head_in F1 x.left).edges (x.left_len + 1) (x.left_len + 1 + count - (x.left_len + 1)))
      → MergedRow ks ks' x.node x.idx x.len x.left x.left_len x.right x.right_len → MergedRow vs vs' x.node x.idx x.len x.left x.left_len x.right x.right_len
      → (◌≡◌ {A = Result (ℕ × ℕ) Fault} (Ok (x.left, x.right)) (Ok (l, r))) × Node (tables F ks' vs') p (us ++ ws) (as' ++ l ∷ bs) × Node (tables F ks' vs') l (es ++ e ∷ fs) (kk ++ ll)
      × Linked (tables F ks' vs') p (i + 1) bs × Linked (tables F ks' vs') l (length kk) ll × Changed (tables H ks vs) (tables F ks' vs') (l ∷ p ∷ []) (bs ++ ll)

  module _ (x : Pair) (eq : x ≡ record { node = p; idx = i; len = length (us ++ e ∷ ws); left = l; left_len = length es; right = r; right_len = length fs }) where
    pub pair_inside_p : InsideP x
    pair_inside_p = subst InsideP (sym eq) (λ m. merge_inside_p H ks ks' vs vs' h p i l r us e ws es fs as' bs kk ll q f1 f2 fits kids count m.fan own below m.put_own m.put_below)

    pub pair_inside_l : InsideL x
    pair_inside_l = subst InsideL (sym eq) (λ m F1 a1. merge_inside_l H ks ks' vs vs' h p i l r us e ws es fs as' bs kk ll q f1 f2 fits kids count m.fan own below m.put_own m.put_below F1 a1)

    pub pair_merged : Whole x
    pair_merged =
        subst Whole (sym eq)
        (λ m F1 a1 F a2 mk mv.
        let d = merged H ks ks' vs vs' h p i l r us e ws es fs as' bs kk ll q f1 f2 fits kids count m.fan own below m.put_own m.put_below F1 a1 F a2 mk mv in
        (refl, d.0, d.1, d.2, d.3, d.4))
