-- An entry put into a node with its children, which is split where it is full. Assumes nothing.
use Rattle.node.proofs.Weaves.{all_front, all_back}
use Rattle.std.proofs.Common.{◌≡◌, ℕ, ◌+◌, ◌-◌, ◌<◌, ◌≤◌, cond, List, [], ◌∷◌, ◌++◌, map, length, Ok, All, Result, sym, ap, ◌∙◌, subst, arith, length-append}
use Rattle.std.specs.Prelude.{nat_lt}
use lib.ListN.{length-map}
use Rattle.std.proofs.lemmas.List.{map-append}
use Rattle.std.proofs.lemmas.List.Elements.{All-append}
use Rattle.supply.specs.declared.faults.Fault.{Fault}
use Rattle.node.specs.Shape.{Tree, number, total}
use Rattle.node.specs.Store.{Tables, Sized, Node, Linked, Changed, Holds, times}
use Rattle.node.specs.Operations.{Fan}
use Rattle.node.specs.Laws.{occurs, below, same}
use Rattle.node.proofs.Adopts.{times_append}
use Rattle.node.proofs.Frames.{all_kept, linked_kept, linked_parts, linked_append}
use Rattle.node.proofs.Numbers.{tops_occur}
use Rattle.rules.specs.Held.{Held}
use Rattle.rules.proofs.Branches.{tops_parts, tops_inside}
use Rattle.map.specs.Inserts.{Edges, InsertsIn, InsertsLeft, InsertsRight}

-- how many nodes it takes to put an entry into a node with these
abbrev pub cost : {E : Type 0} → List E → ℕ
cost es = cond (nat_lt (length es) 11) 0 1

times_same : (x m : ℕ) → times x (m ∷ []) ≡ same x m
times_same x m = omega arith

module _ {K V : Type 0} (T T' : Tables K V) (h m i : ℕ) (e : K × V) (c : ℕ) where
  abbrev Kids : Type 0
  Kids = List (Tree (K × V))

  abbrev occ : ℕ → Kids → ℕ
  occ x ts = total (occurs x (h - 1)) ts

  -- one edge comes with an entry above the leaves
  edges_one : (rs : Kids) → Edges h c (map number rs) → (h ≡ 0 → length rs ≡ 0) × (0 < h → length rs ≡ 1)
  edges_one rs ed = (
    (λ z. sym (length-map rs number) ∙ ap length (ed.leaf z)),
    (λ z. sym (length-map rs number) ∙ ap length (ed.inner z)),
  )

  module _ (r : Result (Unit {0}) Fault) (es fs : List (K × V)) (us ws rs : Kids) (sized : Sized T) (w : Held T h m (es ++ fs) (us ++ ws)) (new : All (Holds T (h - 1)) rs)
      (at : length es ≡ i) (fan : Fan h (length es) (length us)) (ed : Edges h c (map number rs)) (room : length (es ++ fs) < 11)
      (one : (x : ℕ) → same x m + (occ x us + (occ x rs + occ x ws)) ≤ 1) (did : InsertsIn T T' h m i e c r) where
    abbrev ns : List ℕ
    ns = map number rs ++ map number ws

    lengths : (h ≡ 0 → (length us ≡ 0) × (length ws ≡ 0)) × (0 < h → length ws ≡ length fs)
    lengths = (
      (λ z. (fan.leaf z, omega (arith, w.fan.leaf z, length-append us ws))),
      (λ z. omega (arith, w.fan.inner z, fan.inner z, length-append us ws, length-append es fs)),
    )

    abbrev Done : Type 0
    Done = (r ≡ Ok tt) × Node T' m (es ++ e ∷ fs) (map number us ++ ns) × Linked T' m (length (map number us)) ns × Changed T T' (m ∷ []) ns

    done : Done
    unfolding InsertsIn
    done =
        did es fs (map number us) (map number ws) (map number rs) sized
        (subst (λ ks. Node T m (es ++ fs) ks) (map-append number us ws) w.body) at
        (record { leaf = λ z. length-map us number ∙ fan.leaf z; inner = λ z. length-map us number ∙ fan.inner z })
        (λ z. length-map ws number ∙ (lengths.0 z).1) (λ z. length-map ws number ∙ lengths.1 z) ed room
        (record {
          inside = All-append (λ x. x < length T.heads) (map number rs) (map number ws) (tops_inside T (h - 1) rs new) (tops_inside T (h - 1) ws (all_back (Holds T (h - 1)) us ws w.all));
          once = λ x. omega (arith, one x, times_append x (map number rs) (map number ws), tops_occur x (h - 1) rs, tops_occur x (h - 1) ws);
        })

    stays : (ts : Kids) → ((x : ℕ) → occ x ts ≤ occ x us + (occ x rs + occ x ws)) → ((x : ℕ) → 0 < total (below x (h - 1)) ts → times x ns ≡ 0) → All (Holds T (h - 1)) ts → All (Holds T' (h - 1)) ts
    stays ts le off a =
        all_kept T T' (m ∷ []) ns (h - 1) ts done.3 (λ x p. omega (arith, one x, le x, times_same x m)) off a

    pub fit_held : (r ≡ Ok tt) × Held T' h m (es ++ e ∷ fs) (us ++ (rs ++ ws)) × Changed T T' (m ∷ []) ns
    fit_held =
        let joined : map number us ++ ns ≡ map number (us ++ (rs ++ ws)) = ap (λ z. map number us ++ z) (sym (map-append number rs ws)) ∙ sym (map-append number us (rs ++ ws)) in
        let o = edges_one rs ed in
        let k = w.all in (
          done.0,
          record {
            body = subst (λ ks. Node T' m (es ++ e ∷ fs) ks) joined done.1;
            fan = record {
              leaf = λ z. omega (arith, length-append us (rs ++ ws), length-append rs ws, (lengths.0 z).0, (lengths.0 z).1, o.0 z);
              inner = λ z. omega (arith, length-append us (rs ++ ws), length-append rs ws, fan.inner z, lengths.1 z, o.1 z, length-append es (e ∷ fs));
            };
            linked = subst (λ ks. Linked T' m 0 ks) joined (
                linked_append T' m 0 (map number us) ns
                (linked_kept T T' (m ∷ []) ns m 0 (map number us) done.3
                (λ x p. omega (arith, one x, tops_occur x (h - 1) us, times_append x (map number rs) (map number ws), tops_occur x (h - 1) rs, tops_occur x (h - 1) ws))
                (linked_parts T m 0 (map number us) (map number ws) (subst (λ ks. Linked T m 0 ks) (map-append number us ws) w.linked)).0)
                (subst (λ n. Linked T' m n ns) (let z : length (map number us) ≡ 0 + length (map number us) = omega arith in z) done.2)
                );
            all = All-append (Holds T' (h - 1)) us (rs ++ ws)
                (stays us (λ x. omega arith) (λ x p. omega (arith, one x, tops_parts x (h - 1) us, times_append x (map number rs) (map number ws), tops_occur x (h - 1) rs, tops_occur x (h - 1) ws)) (all_front (Holds T (h - 1)) us ws k))
                (All-append (Holds T' (h - 1)) rs ws
                (stays rs (λ x. omega arith) (λ x p. omega (arith, one x, tops_parts x (h - 1) rs, times_append x (map number rs) (map number ws), tops_occur x (h - 1) ws)) new)
                (stays ws (λ x. omega arith) (λ x p. omega (arith, one x, tops_parts x (h - 1) ws, times_append x (map number rs) (map number ws), tops_occur x (h - 1) rs)) (all_back (Holds T (h - 1)) us ws k)));
          },
          done.3,
        )

  -- ---- a full node, which is split: the entry goes into the left half, or into the right one

  module _ (n : ℕ) (r : Result (K × V) Fault) (x : K × V) (rs : Kids) (sized : Sized T) (new : All (Holds T (h - 1)) rs) (ed : Edges h c (map number rs))
      (there : n < length T.heads) (other : n ≡ m → ⊥) where
    module _ (as' bs fs : List (K × V)) (us vs ws : Kids) (w : Held T h m ((as' ++ bs) ++ x ∷ fs) ((us ++ vs) ++ ws)) (at : length as' ≡ i) (six : length (as' ++ bs) ≡ 6)
        (fan : Fan h (length as') (length us)) (mid : (h ≡ 0 → length vs ≡ 0) × (0 < h → length vs ≡ length bs))
        (one : (y : ℕ) → same y n + (same y m + (occ y us + (occ y rs + (occ y vs + occ y ws)))) ≤ 1) (did : InsertsLeft T T' h m i e c n r) where
      abbrev ns_l : List ℕ
      ns_l = map number ws ++ (map number rs ++ map number vs)

      kids_l : map number ((us ++ vs) ++ ws) ≡ (map number us ++ map number vs) ++ map number ws
      kids_l = map-append number (us ++ vs) ws ∙ ap (λ z. z ++ map number ws) (map-append number us vs)

      lengths_l : (h ≡ 0 → length ws ≡ 0) × (0 < h → length ws ≡ length fs + 1)
      lengths_l = (
        (λ z. omega (arith, w.fan.leaf z, length-append (us ++ vs) ws)),
        (λ z. omega (arith, w.fan.inner z, fan.inner z, mid.1 z, length-append (us ++ vs) ws, length-append us vs, length-append (as' ++ bs) (x ∷ fs), length-append as' bs)),
      )

      done_l : (r ≡ Ok x) × Node T' m (as' ++ e ∷ bs) (map number us ++ (map number rs ++ map number vs)) × Node T' n fs (map number ws)
          × Linked T' m (length (map number us)) (map number rs ++ map number vs) × Linked T' n 0 (map number ws) × Changed T T' (n ∷ m ∷ []) ns_l
      unfolding InsertsLeft
      done_l =
          let k = w.all in
          let kv = all_back (Holds T (h - 1)) us vs (all_front (Holds T (h - 1)) (us ++ vs) ws k) in
          let kw = all_back (Holds T (h - 1)) (us ++ vs) ws k in
          did as' bs x fs (map number us) (map number vs) (map number ws) (map number rs) sized
          (subst (λ ks. Node T m ((as' ++ bs) ++ x ∷ fs) ks) kids_l w.body) at six
          (record { leaf = λ z. length-map us number ∙ fan.leaf z; inner = λ z. length-map us number ∙ fan.inner z })
          (λ z. length-map vs number ∙ mid.0 z) (λ z. length-map vs number ∙ mid.1 z)
          (record { leaf = λ z. length-map ws number ∙ lengths_l.0 z; inner = λ z. length-map ws number ∙ lengths_l.1 z })
          ed there other
          (record {
            inside = All-append (λ y. y < length T.heads) (map number rs) (map number vs ++ map number ws) (tops_inside T (h - 1) rs new)
                (All-append (λ y. y < length T.heads) (map number vs) (map number ws) (tops_inside T (h - 1) vs kv) (tops_inside T (h - 1) ws kw));
            once = λ y.
                omega (arith, one y, times_append y (map number rs) (map number vs ++ map number ws), times_append y (map number vs) (map number ws), tops_occur y (h - 1) rs, tops_occur y (h - 1) vs, tops_occur y (h - 1) ws);
          })

      times_l : (y : ℕ) → times y ns_l ≡ times y (map number ws) + (times y (map number rs) + times y (map number vs))
      times_l y = omega (arith, times_append y (map number ws) (map number rs ++ map number vs), times_append y (map number rs) (map number vs))

      times_b : (y : ℕ) → times y (n ∷ m ∷ []) ≡ same y n + same y m
      times_b y = omega arith

      stays_l : (ts : Kids) → ((y : ℕ) → occ y ts ≤ occ y us + (occ y rs + (occ y vs + occ y ws))) → ((y : ℕ) → 0 < total (below y (h - 1)) ts → times y ns_l ≡ 0) → All (Holds T (h - 1)) ts → All (Holds T' (h - 1)) ts
      stays_l ts le off a = all_kept T T' (n ∷ m ∷ []) ns_l (h - 1) ts done_l.5 (λ y p. omega (arith, one y, le y, times_b y)) off a

      -- which numbers stand where
      sums : (y : ℕ) → (total (occurs y (h - 1)) us ≡ times y (map number us) + total (below y (h - 1)) us) × (total (occurs y (h - 1)) rs ≡ times y (map number rs) + total (below y (h - 1)) rs)
          × (total (occurs y (h - 1)) vs ≡ times y (map number vs) + total (below y (h - 1)) vs) × (total (occurs y (h - 1)) ws ≡ times y (map number ws) + total (below y (h - 1)) ws)
      sums y = (tops_parts y (h - 1) us, tops_parts y (h - 1) rs, tops_parts y (h - 1) vs, tops_parts y (h - 1) ws)

      pub left_held : (r ≡ Ok x) × Held T' h m (as' ++ e ∷ bs) (us ++ (rs ++ vs)) × Held T' h n fs ws × Changed T T' (n ∷ m ∷ []) ns_l
      left_held =
          let joined : map number us ++ (map number rs ++ map number vs) ≡ map number (us ++ (rs ++ vs)) = ap (λ z. map number us ++ z) (sym (map-append number rs vs)) ∙ sym (map-append number us (rs ++ vs)) in
          let o = edges_one rs ed in
          let k = w.all in
          let kuv = all_front (Holds T (h - 1)) (us ++ vs) ws k in
          let links = (linked_parts T m 0 (map number us ++ map number vs) (map number ws) (subst (λ ks. Linked T m 0 ks) kids_l w.linked)).0 in (
            done_l.0,
            record {
              body = subst (λ ks. Node T' m (as' ++ e ∷ bs) ks) joined done_l.1;
              fan = record {
                leaf = λ z. omega (arith, length-append us (rs ++ vs), length-append rs vs, fan.leaf z, mid.0 z, o.0 z);
                inner = λ z. omega (arith, length-append us (rs ++ vs), length-append rs vs, fan.inner z, mid.1 z, o.1 z, length-append as' (e ∷ bs));
              };
              linked = subst (λ ks. Linked T' m 0 ks) joined (
                  linked_append T' m 0 (map number us) (map number rs ++ map number vs)
                  (linked_kept T T' (n ∷ m ∷ []) ns_l m 0 (map number us) done_l.5 (λ y p. omega (arith, one y, times_l y, sums y)) (linked_parts T m 0 (map number us) (map number vs) links).0)
                  (subst (λ k. Linked T' m k (map number rs ++ map number vs)) (let z : length (map number us) ≡ 0 + length (map number us) = omega arith in z) done_l.3)
                  );
              all = All-append (Holds T' (h - 1)) us (rs ++ vs)
                  (stays_l us (λ y. omega arith) (λ y p. omega (arith, one y, times_l y, sums y)) (all_front (Holds T (h - 1)) us vs kuv))
                  (All-append (Holds T' (h - 1)) rs vs
                  (stays_l rs (λ y. omega arith) (λ y p. omega (arith, one y, times_l y, sums y)) new)
                  (stays_l vs (λ y. omega arith) (λ y p. omega (arith, one y, times_l y, sums y)) (all_back (Holds T (h - 1)) us vs kuv)));
            },
            record {
              body = done_l.2;
              fan = record { leaf = lengths_l.0; inner = lengths_l.1 };
              linked = done_l.4;
              all = stays_l ws (λ y. omega arith) (λ y p. omega (arith, one y, times_l y, sums y)) (all_back (Holds T (h - 1)) (us ++ vs) ws k);
            },
            done_l.5,
          )

    module _ (es as' bs : List (K × V)) (us vs ws : Kids) (w : Held T h m (es ++ x ∷ (as' ++ bs)) (us ++ (vs ++ ws))) (six : length es ≡ 6) (at : length as' + 7 ≡ i)
        (fan : Fan h (length es) (length us)) (mid : Fan h (length as') (length vs))
        (one : (y : ℕ) → same y n + (same y m + (occ y us + (occ y rs + (occ y vs + occ y ws)))) ≤ 1) (did : InsertsRight T T' h m i e c n r) where
      abbrev ns_r : List ℕ
      ns_r = (map number vs ++ map number ws) ++ (map number rs ++ map number ws)

      kids_r : map number (us ++ (vs ++ ws)) ≡ map number us ++ (map number vs ++ map number ws)
      kids_r = map-append number us (vs ++ ws) ∙ ap (λ z. map number us ++ z) (map-append number vs ws)

      lengths_r : (h ≡ 0 → length ws ≡ 0) × (0 < h → length ws ≡ length bs)
      lengths_r = (
        (λ z. omega (arith, w.fan.leaf z, length-append us (vs ++ ws), length-append vs ws)),
        (λ z. omega (arith, w.fan.inner z, fan.inner z, mid.inner z, length-append us (vs ++ ws), length-append vs ws, length-append es (x ∷ (as' ++ bs)), length-append as' bs)),
      )

      done_r : (r ≡ Ok x) × Node T' m es (map number us) × Node T' n (as' ++ e ∷ bs) (map number vs ++ (map number rs ++ map number ws)) × Linked T' n 0 (map number vs)
          × Linked T' n (length (map number vs)) (map number rs ++ map number ws) × Changed T T' (n ∷ m ∷ []) ns_r
      unfolding InsertsRight
      done_r =
          let k = all_back (Holds T (h - 1)) us (vs ++ ws) w.all in
          let kv = all_front (Holds T (h - 1)) vs ws k in
          let kw = all_back (Holds T (h - 1)) vs ws k in
          did es x as' bs (map number us) (map number vs) (map number ws) (map number rs) sized
          (subst (λ ks. Node T m (es ++ x ∷ (as' ++ bs)) ks) kids_r w.body) six at
          (record { leaf = λ z. length-map us number ∙ fan.leaf z; inner = λ z. length-map us number ∙ fan.inner z })
          (record { leaf = λ z. length-map vs number ∙ mid.leaf z; inner = λ z. length-map vs number ∙ mid.inner z })
          (λ z. length-map ws number ∙ lengths_r.0 z) (λ z. length-map ws number ∙ lengths_r.1 z)
          ed there other
          (record {
            inside = All-append (λ y. y < length T.heads) (map number rs) (map number vs ++ map number ws) (tops_inside T (h - 1) rs new)
                (All-append (λ y. y < length T.heads) (map number vs) (map number ws) (tops_inside T (h - 1) vs kv) (tops_inside T (h - 1) ws kw));
            once = λ y.
                omega (arith, one y, times_append y (map number rs) (map number vs ++ map number ws), times_append y (map number vs) (map number ws), tops_occur y (h - 1) rs, tops_occur y (h - 1) vs, tops_occur y (h - 1) ws);
          })

      times_r : (y : ℕ) → times y ns_r ≡ (times y (map number vs) + times y (map number ws)) + (times y (map number rs) + times y (map number ws))
      times_r y = omega (arith, times_append y (map number vs ++ map number ws) (map number rs ++ map number ws), times_append y (map number rs) (map number ws), times_append y (map number vs) (map number ws))

      times_d : (y : ℕ) → times y (n ∷ m ∷ []) ≡ same y n + same y m
      times_d y = omega arith

      stays_r : (ts : Kids) → ((y : ℕ) → occ y ts ≤ occ y us + (occ y rs + (occ y vs + occ y ws))) → ((y : ℕ) → 0 < total (below y (h - 1)) ts → times y ns_r ≡ 0) → All (Holds T (h - 1)) ts → All (Holds T' (h - 1)) ts
      stays_r ts le off a = all_kept T T' (n ∷ m ∷ []) ns_r (h - 1) ts done_r.5 (λ y p. omega (arith, one y, le y, times_d y)) off a

      sums_r : (y : ℕ) → (total (occurs y (h - 1)) us ≡ times y (map number us) + total (below y (h - 1)) us) × (total (occurs y (h - 1)) rs ≡ times y (map number rs) + total (below y (h - 1)) rs)
          × (total (occurs y (h - 1)) vs ≡ times y (map number vs) + total (below y (h - 1)) vs) × (total (occurs y (h - 1)) ws ≡ times y (map number ws) + total (below y (h - 1)) ws)
      sums_r y = (tops_parts y (h - 1) us, tops_parts y (h - 1) rs, tops_parts y (h - 1) vs, tops_parts y (h - 1) ws)

      pub right_held : (r ≡ Ok x) × Held T' h m es us × Held T' h n (as' ++ e ∷ bs) (vs ++ (rs ++ ws)) × Changed T T' (n ∷ m ∷ []) ns_r
      right_held =
          let joined : map number vs ++ (map number rs ++ map number ws) ≡ map number (vs ++ (rs ++ ws)) = ap (λ z. map number vs ++ z) (sym (map-append number rs ws)) ∙ sym (map-append number vs (rs ++ ws)) in
          let o = edges_one rs ed in
          let k = all_back (Holds T (h - 1)) us (vs ++ ws) w.all in (
            done_r.0,
            record {
              body = done_r.1;
              fan = fan;
              linked = linked_kept T T' (n ∷ m ∷ []) ns_r m 0 (map number us) done_r.5 (λ y p. omega (arith, one y, times_r y, sums_r y))
                  (linked_parts T m 0 (map number us) (map number vs ++ map number ws) (subst (λ ks. Linked T m 0 ks) kids_r w.linked)).0;
              all = stays_r us (λ y. omega arith) (λ y p. omega (arith, one y, times_r y, sums_r y)) (all_front (Holds T (h - 1)) us (vs ++ ws) w.all);
            },
            record {
              body = subst (λ ks. Node T' n (as' ++ e ∷ bs) ks) joined done_r.2;
              fan = record {
                leaf = λ z. omega (arith, length-append vs (rs ++ ws), length-append rs ws, mid.leaf z, lengths_r.0 z, o.0 z);
                inner = λ z. omega (arith, length-append vs (rs ++ ws), length-append rs ws, mid.inner z, lengths_r.1 z, o.1 z, length-append as' (e ∷ bs));
              };
              linked = subst (λ ks. Linked T' n 0 ks) joined (
                  linked_append T' n 0 (map number vs) (map number rs ++ map number ws) done_r.3
                  (subst (λ k. Linked T' n k (map number rs ++ map number ws)) (let z : length (map number vs) ≡ 0 + length (map number vs) = omega arith in z) done_r.4)
                  );
              all = All-append (Holds T' (h - 1)) vs (rs ++ ws)
                  (stays_r vs (λ y. omega arith) (λ y p. omega (arith, one y, times_r y, sums_r y)) (all_front (Holds T (h - 1)) vs ws k))
                  (All-append (Holds T' (h - 1)) rs ws
                  (stays_r rs (λ y. omega arith) (λ y p. omega (arith, one y, times_r y, sums_r y)) new)
                  (stays_r ws (λ y. omega arith) (λ y p. omega (arith, one y, times_r y, sums_r y)) (all_back (Holds T (h - 1)) vs ws k)));
            },
            done_r.5,
          )
