-- The back part of a node moved to another. Assumes nothing.
use Rattle.std.proofs.Common.{◌≡◌, ℕ, ◌+◌, ◌-◌, ◌*◌, ◌<◌, ◌≤◌, ◌⊎◌, List, [], ◌∷◌, ◌++◌, length, All, sym, refl, ap, ◌∙◌, subst, inl, inr, ⊎_elim, arith, length-append}
use Rattle.std.proofs.lemmas.List.Elements.{All-weaker}
use Rattle.std.proofs.lemmas.List.{nil_from_length}
use Rattle.std.proofs.lemmas.Bool.{cases_lt}
use Rattle.node.specs.declared.head.Head.{Head}
use Rattle.node.specs.Cells.{span, Put, Run}
use Rattle.node.specs.Store.{tables, Node, Linked, Changed, head_in, first, second, itself}
use Rattle.node.specs.Links.{Adopted}
use Rattle.node.specs.Operations.{Children, Fan}
use Rattle.node.proofs.Spans.{span_len}
use Rattle.node.proofs.Adopts.{times_append}
use Rattle.node.proofs.Runs.{run_parts, run_append, run_before, run_tail, put_run, edges_part, itself_map}
use Rattle.node.proofs.Tabled.{Rewritten, Kept, rewritten_none, rewritten_set, refit, refit_same, refit_other, relinked_none, relinked_adopted, kept_none, kept_put, kept_as, changed_of, node_of, linked_of}

-- node m, with c + i + s entries, keeps i of them, passes over s and gives c to node n; the edges of n become edges
module _ {K V : Type 0} (H : List Head) (ks ks' : List K) (vs vs' : List V) (h m n i s c : ℕ) (es gs fs : List (K × V)) (as' ls cs : List ℕ)
    (node : Node (tables H ks vs) m (es ++ (gs ++ fs)) (as' ++ ls)) (there : n < length H) (front : Run itself (head_in H n).edges 0 cs)
    (p1 : length es ≡ i) (p2 : length gs ≡ s) (p3 : length fs ≡ c) (other : n ≡ m → ⊥)
    (f1 : Fan h (length es) (length as')) (l1 : h ≡ 0 → length ls ≡ 0) (l2 : 0 < h → length ls ≡ length fs + s) (f2 : Fan h (length fs) (length (cs ++ ls)))
    (first' count : ℕ) (q1 : first' ≡ 1 - s) (q2 : 0 < h → length cs ≡ first') (q3 : h ≡ 0 → count ≡ 0) (q4 : 0 < h → count ≡ length ls)
    (edges : List ℕ) (put : Put (head_in H n).edges edges first' (span (head_in H m).edges (i + 1) count)) where
  abbrev G : List Head
  G = refit (refit H m i (head_in H m).edges) n c edges

  low_or_high : (h ≡ 0) ⊎ (0 < h)
  low_or_high = ⊎_elim (λ (l : h < 1). inl (omega arith)) (λ (l : 1 ≤ h). inr (omega arith)) (cases_lt h 1)

  same_count : count ≡ length ls
  same_count = ⊎_elim (λ (z : h ≡ 0). q3 z ∙ sym (l1 z)) (λ (z : 0 < h). q4 z) low_or_high

  -- the edges that are copied
  source : span (head_in H m).edges (i + 1) count ≡ ls
  source =
      ⊎_elim
      (λ (z : h ≡ 0). subst (λ k. span (head_in H m).edges (i + 1) k ≡ ls) (sym (q3 z)) (sym (nil_from_length ls (l1 z))))
      (λ (z : 0 < h). edges_part (head_in H m).edges as' ls (i + 1) count node.edges_are (omega (arith, f1.inner z)) (sym same_count))
      low_or_high

  kept_front : Run itself edges 0 cs
  kept_front =
      ⊎_elim
      (λ (z : h ≡ 0). none cs (omega (arith, f2.leaf z, length-append cs ls)))
      (λ (z : 0 < h). run_before itself (head_in H n).edges edges first' (span (head_in H m).edges (i + 1) count) 0 cs put (omega (arith, q2 z)) front)
      low_or_high
    where
      none : (xs : List ℕ) → length xs ≡ 0 → Run itself edges 0 xs
      none [] e = refl
      none (x ∷ xs) e = absurd (omega arith)

  run_edges : Run itself edges 0 (cs ++ ls)
  run_edges =
      run_append itself edges 0 cs ls kept_front
      (⊎_elim
      (λ (z : h ≡ 0). none ls (l1 z))
      (λ (z : 0 < h).
      let e : first' ≡ 0 + length cs = omega (arith, q2 z) in
      subst (λ k. Run itself edges k ls) e (put_run itself (head_in H n).edges edges first' (span (head_in H m).edges (i + 1) count) ls put (source ∙ sym (itself_map ls))))
      low_or_high)
    where
      none : (xs : List ℕ) → length xs ≡ 0 → Run itself edges (0 + length cs) xs
      none [] e = refl
      none (x ∷ xs) e = absurd (omega arith)

  rewritten : Rewritten H G (n ∷ m ∷ [])
  rewritten =
      rewritten_set H (refit H m i (head_in H m).edges) (m ∷ []) (rewritten_set H H [] (rewritten_none H) m i (head_in H m).edges node.inside) n c edges there

  there' : n < length (refit H m i (head_in H m).edges)
  there' = omega (arith, (rewritten_set H H [] (rewritten_none H) m i (head_in H m).edges node.inside).size)

  -- the edges whose children are corrected
  moved : span (head_in G n).edges first' count ≡ ls
  moved =
      ap (λ x. span x first' count) (refit_same (refit H m i (head_in H m).edges) n c edges there').1
      ∙ ⊎_elim
      (λ (z : h ≡ 0). subst (λ k. span edges first' k ≡ ls) (sym (q3 z)) (sym (nil_from_length ls (l1 z))))
      (λ (z : 0 < h). edges_part edges cs ls first' count run_edges (q2 z) (sym same_count))
      low_or_high

  module _ (kids : Children (tables H ks vs) ls) where
    pub tail_inside : All (λ x. x < length G) (span (head_in G n).edges first' count)
    tail_inside =
        let size = rewritten.size in
        subst (λ (xs : List ℕ). All (λ x. x < length G) xs) (sym moved) (All-weaker (λ x. x < length H) (λ x. x < length G) (λ x l. omega arith) ls kids.inside)

    module _ (F : List Head) (a : Adopted G F n first' (span (head_in G n).edges first' count))
        (p : Put ks ks' (11 * n) (span ks (11 * m + i + s) c)) (q : Put vs vs' (11 * n) (span vs (11 * m + i + s) c)) where
      adopted : Adopted G F n first' ls
      adopted = subst (λ (xs : List ℕ). Adopted G F n first' xs) moved a

      few : length (es ++ (gs ++ fs)) ≤ 11
      few = node.few

      keys : Run first ks' (11 * m) es × Run first ks' (11 * n) fs
      keys = run_tail first ks ks' m n i s c es gs fs node.keys_are few p1 p2 p3 other p

      values : Run second vs' (11 * m) es × Run second vs' (11 * n) fs
      values = run_tail second vs vs' m n i s c es gs fs node.values_are few p1 p2 p3 other q

      long : length es + (length gs + length fs) ≤ 11
      long = omega (arith, few, length-append es (gs ++ fs), length-append gs fs)

      pub tail_moved : Node (tables F ks' vs') m es as' × Node (tables F ks' vs') n fs (cs ++ ls) × Linked (tables F ks' vs') n (length cs) ls × Changed (tables H ks vs) (tables F ks' vs') (n ∷ m ∷ []) ls
      tail_moved =
          let r = relinked_adopted G F n first' ls adopted in
          let one = refit_same H m i (head_in H m).edges node.inside in
          let two = refit_same (refit H m i (head_in H m).edges) n c edges there' in
          let mine = refit_other (refit H m i (head_in H m).edges) n c edges m (λ e. other (sym e)) in
          let l : Linked (tables F ks' vs') n first' ls =
          linked_of G F F ks' vs' n first' ls [] adopted (relinked_none F) (λ x. omega (arith, kids.once x, times_append x ls [])) in (
            node_of H G F ks ks' vs vs' ls r m es as' (omega (arith, node.inside, rewritten.size)) (omega (arith, long)) (ap (λ h. h.len) mine ∙ one.0 ∙ sym p1)
                (subst (λ (x : List ℕ). Run itself x 0 as') (sym (ap (λ h. h.edges) mine ∙ one.1)) (run_parts itself (head_in H m).edges 0 as' ls node.edges_are).0) keys.0 values.0,
            node_of H G F ks ks' vs vs' ls r n fs (cs ++ ls) (omega (arith, there, rewritten.size)) (omega (arith, long)) (two.0 ∙ sym p3)
                (subst (λ (x : List ℕ). Run itself x 0 (cs ++ ls)) (sym two.1) run_edges) keys.1 values.1,
            (⊎_elim
                (λ (z : h ≡ 0). λ j b. absurd (omega (arith, l1 z)))
                (λ (z : 0 < h). subst (λ k. Linked (tables F ks' vs') n k ls) (sym (q2 z)) l)
                low_or_high),
            changed_of H G F ks ks' vs vs' (n ∷ m ∷ []) ls rewritten r
                (cells ks ks' p) (cells vs vs' q),
          )
        where
          cells : {X : Type 0} (xs xs' : List X) → Put xs xs' (11 * n) (span xs (11 * m + i + s) c) → Kept xs xs' (n ∷ m ∷ [])
          cells xs xs' w =
              kept_as xs xs' (n ∷ []) (n ∷ m ∷ []) (λ x z. omega (arith, times_append x (n ∷ []) (m ∷ [])))
              (kept_put xs xs xs' [] (11 * n) (span xs (11 * m + i + s) c) n (kept_none xs) w (omega arith) (omega (arith, span_len xs (11 * m + i + s) c, long)))
