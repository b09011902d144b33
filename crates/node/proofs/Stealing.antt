-- Entries that go over between two neighbours, through the entry between them. Assumes nothing.
use Rattle.node.proofs.Weaves.{all_front, all_back}
use Rattle.std.proofs.Common.{◌≡◌, ℕ, ◌+◌, ◌-◌, ◌*◌, ◌<◌, ◌≤◌, List, [], ◌∷◌, ◌++◌, length, All, sym, refl, ap, ◌∙◌, subst, ap₂, ⊎_elim, arith, length-append}
use Rattle.std.proofs.lemmas.Bool.{cases_lt}
use Rattle.std.proofs.lemmas.List.Elements.{All-weaker}
use Rattle.node.specs.declared.head.Head.{Head}
use Rattle.node.specs.declared.rows.Pair.{Pair}
use Rattle.node.specs.Cells.{span, Put, Run}
use Rattle.node.specs.Rows.{StolenLeft, StolenRight}
use Rattle.node.specs.Store.{tables, Node, Linked, Changed, head_in, first, second, itself, times}
use Rattle.node.specs.Links.{Adopted}
use Rattle.node.specs.Operations.{Pairs, Children, Fan}
use Rattle.node.proofs.Adopts.{times_append, times_one}
use Rattle.node.proofs.Runs.{run_three, run_next, run_changed, run_same, run_parts, run_append, run_behind, put_run, edges_tail, edges_part, edges_part_of, itself_map}
use Rattle.node.proofs.Tabled.{Rewritten, Relinked, Kept, refit, refit_other, rewritten_as, both_rewritten, both_first, both_second, relinked_none, relinked_adopted, relinked_both, changed_of, node_of, linked_of, linked_at}

-- one table, from the left: l holds es, x and gs
module _ {X E : Type 0} (f : E → X) (xs xs' : List X) (p i l a n r : ℕ) (us : List E) (e : E) (ws es : List E) (x : E) (gs fs : List E)
    (here : length us ≡ i) (pa : length es ≡ a) (pn : length gs ≡ n) (few-p : length (us ++ e ∷ ws) ≤ 11) (few-l : length (es ++ x ∷ gs) ≤ 11)
    (lp : l ≡ p → ⊥) (lr : l ≡ r → ⊥)
    (row-p : Run f xs (11 * p) (us ++ e ∷ ws)) (row-l : Run f xs (11 * l) (es ++ x ∷ gs)) (row_r : Run f xs (11 * r) fs) (m : StolenLeft xs xs' p i l a n r (length fs)) where
  pub left_right : Run f xs' (11 * r) (gs ++ e ∷ fs)
  left_right =
      let s = run_next f xs (11 * l) es x gs a pa row-l in
      let t = run_next f xs (11 * p) us e ws i here row-p in
      run_three f xs' (11 * r) (span xs (11 * l + a + 1) n) (span xs (11 * p + i) 1) (span xs (11 * r) (length fs)) gs e fs (n + (1 + length fs)) (omega arith) m.right
      (ap (span xs (11 * l + a + 1)) (sym pn) ∙ s.2) t.1 row_r

  pub left_parent : Run f xs' (11 * p) (us ++ x ∷ ws)
  left_parent =
      let s = run_next f xs (11 * l) es x gs a pa row-l in
      run_changed f xs xs' (11 * p) us e x ws i here row-p m.before (m.parent ∙ s.1) (m.behind (length ws) (omega (arith, length-append us (e ∷ ws))))

  pub left_left : Run f xs' (11 * l) es
  left_left = (run_parts f xs' (11 * l) es (x ∷ gs) (run_same f xs xs' (11 * l) (es ++ x ∷ gs) (m.others l lp lr) few-l row-l)).0

-- from the right: r holds gs, x and fs
module _ {X E : Type 0} (f : E → X) (xs xs' : List X) (p i l n r b : ℕ) (us : List E) (e : E) (ws es gs : List E) (x : E) (fs : List E)
    (here : length us ≡ i) (pn : length gs ≡ n) (pb : length fs ≡ b) (few-p : length (us ++ e ∷ ws) ≤ 11)
    (row-p : Run f xs (11 * p) (us ++ e ∷ ws)) (row-l : Run f xs (11 * l) es) (row_r : Run f xs (11 * r) (gs ++ x ∷ fs)) (m : StolenRight xs xs' p i l (length es) n r b) where
  pub right_left : Run f xs' (11 * l) (es ++ e ∷ gs)
  right_left =
      let s = run_next f xs (11 * r) gs x fs n pn row_r in
      let t = run_next f xs (11 * p) us e ws i here row-p in
      run_three f xs' (11 * l) (span xs (11 * l) (length es)) (span xs (11 * p + i) 1) (span xs (11 * r) n) es e gs (length es + (1 + n)) (omega arith) m.left
      row-l t.1 (ap (span xs (11 * r)) (sym pn) ∙ s.0)

  pub right_parent : Run f xs' (11 * p) (us ++ x ∷ ws)
  right_parent =
      let s = run_next f xs (11 * r) gs x fs n pn row_r in
      run_changed f xs xs' (11 * p) us e x ws i here row-p m.before (m.parent ∙ s.1) (m.behind (length ws) (omega (arith, length-append us (e ∷ ws))))

  pub right_right : Run f xs' (11 * r) fs
  right_right =
      let s = run_next f xs (11 * r) gs x fs n pn row_r in
      ap (span xs' (11 * r)) pb ∙ m.right ∙ ap (span xs (11 * r + n + 1)) (sym pb) ∙ s.2

-- edges of the left node put before those of the right one: first room is made, then they are copied
edges_before : (es fs room all : List ℕ) (h keep moved rest : ℕ) (ks qs ls : List ℕ) → Run itself es 0 (ks ++ qs) → Run itself fs 0 ls → (h ≡ 0 → (length qs ≡ 0) × (length ls ≡ 0)) → (0 < h → (length ks ≡ keep + 1) × (length qs ≡ moved) × (length ls ≡ rest))
    → Put fs room moved (span fs 0 rest) → Put room all 0 (span es (keep + 1) moved) → Run itself all 0 (qs ++ ls)
edges_before es fs room all h keep moved rest ks qs ls r s low high w v =
    ⊎_elim
    (λ (z : h < 1). let y = low (omega arith) in none (qs ++ ls) (omega (arith, length-append qs ls)))
    (λ (z : 1 ≤ h).
    let y = high (omega arith) in
    let qs-are : span es (keep + 1) moved ≡ qs = edges_part es ks qs (keep + 1) moved r y.0 y.1 in
    let ls-are : span fs 0 rest ≡ ls = edges_part fs [] ls 0 rest s refl y.2 in
    let e : moved ≡ 0 + length qs = omega (arith, y.1) in
    let there : Run itself room moved ls = put_run itself fs room moved (span fs 0 rest) ls w (ls-are ∙ sym (itself_map ls)) in
    run_append itself all 0 qs ls (put_run itself room all 0 (span es (keep + 1) moved) qs v (qs-are ∙ sym (itself_map qs)))
    (subst (λ k. Run itself all k ls) e (run_behind itself room all 0 (span es (keep + 1) moved) moved ls v (omega (arith, ap length qs-are, y.1)) there)))
    (cases_lt h 1)
  where
    none : (xs : List ℕ) → length xs ≡ 0 → Run itself all 0 xs
    none [] z = refl
    none (x ∷ xs) z = absurd (omega arith)

three_off : (x r l p : ℕ) → times x (r ∷ l ∷ p ∷ []) ≡ 0 → (x ≡ r → ⊥) × (x ≡ l → ⊥) × (x ≡ p → ⊥)
three_off x r l p z =
    let s = times_append x (r ∷ []) (l ∷ p ∷ []) in
    let t = times_append x (l ∷ []) (p ∷ []) in
    (times_one x r (omega arith), times_one x l (omega arith), times_one x p (omega arith))

module _ {K V : Type 0} (H : List Head) (ks ks' : List K) (vs vs' : List V) (h p i l r : ℕ) (us : List (K × V)) (e : K × V) (ws es : List (K × V)) (x : K × V) (gs fs : List (K × V)) (as' bs kk qs ll : List ℕ)
    (q : Pairs (tables H ks vs) p i l r us e ws (es ++ x ∷ gs) fs as' bs (kk ++ qs) ll) (f1 : Fan h (length es) (length kk)) (f2 : Fan h (length gs) (length qs)) (f3 : Fan h (length fs) (length ll))
    (fits : length gs + 1 + length fs ≤ 11) (kids : Children (tables H ks vs) (qs ++ ll)) (keep new moved rest : ℕ) (pk : keep ≡ length es) (pn : new ≡ length gs + 1 + length fs)
    (mf : Fan h (length gs) moved) (rf : Fan h (length fs) rest) (room all : List ℕ)
    (w1 : Put (head_in H r).edges room moved (span (head_in H r).edges 0 rest)) (w2 : Put room all 0 (span (head_in H l).edges (keep + 1) moved)) where
  abbrev G : List Head
  G = refit (refit H l keep (head_in H l).edges) r new all

  w : Rewritten H G (r ∷ l ∷ [])
  w = both_rewritten H l r keep new (head_in H l).edges all q.left.inside q.right.inside q.differ

  own_l : ((head_in G l).len ≡ keep) × ((head_in G l).edges ≡ (head_in H l).edges)
  own_l = both_first H l r keep new (head_in H l).edges all q.left.inside q.right.inside q.differ

  own_r : ((head_in G r).len ≡ new) × ((head_in G r).edges ≡ all)
  own_r = both_second H l r keep new (head_in H l).edges all q.left.inside q.right.inside q.differ

  run_all : Run itself all 0 (qs ++ ll)
  run_all =
      edges_before (head_in H l).edges (head_in H r).edges room all h keep moved rest kk qs ll q.left.edges_are q.right.edges_are
      (λ z. (f2.leaf z, f3.leaf z)) (λ z. (omega (arith, f1.inner z), f2.inner z ∙ sym (mf.inner z), f3.inner z ∙ sym (rf.inner z))) w1 w2

  part_r : span (head_in G r).edges 0 (moved + rest - 0) ≡ qs ++ ll
  part_r =
      let z : moved + rest - 0 ≡ moved + rest = omega arith in
      ap₂ (λ u n. span u 0 n) own_r.1 z
      ∙ edges_part_of all h 0 (moved + rest) [] (qs ++ ll) run_all (λ y. (omega (arith, f2.leaf y, f3.leaf y, length-append qs ll), omega (arith, mf.leaf y, rf.leaf y)))
      (λ y. (refl, omega (arith, f2.inner y, f3.inner y, mf.inner y, rf.inner y, length-append qs ll)))

  left_inside : All (λ c. c < length G) (span (head_in G r).edges 0 (moved + rest - 0))
  left_inside =
      subst (λ (xs : List ℕ). All (λ c. c < length G) xs) (sym part_r) (All-weaker (λ c. c < length H) (λ c. c < length G) (λ c z. omega (arith, w.size)) (qs ++ ll) kids.inside)

  module _ (F : List Head) (a : Adopted G F r 0 (span (head_in G r).edges 0 (moved + rest - 0))) (sk : StolenLeft ks ks' p i l (length es) (length gs) r (length fs)) (sv : StolenLeft vs vs' p i l (length es) (length gs) r (length fs)) where
    adopted : Adopted G F r 0 (qs ++ ll)
    adopted = subst (λ (xs : List ℕ). Adopted G F r 0 xs) part_r a

    y : Relinked G F (qs ++ ll)
    y = relinked_adopted G F r 0 (qs ++ ll) adopted

    kept : {X : Type 0} (xs xs' : List X) → StolenLeft xs xs' p i l (length es) (length gs) r (length fs) → Kept xs xs' (r ∷ l ∷ p ∷ [])
    kept xs xs' m = record { size = m.size; cells = λ z o. let t = three_off z r l p o in m.others z t.2 t.0 }

    same_p : head_in G p ≡ head_in H p
    same_p =
        refit_other (refit H l keep (head_in H l).edges) r new all p (λ z. q.right_other (sym z)) ∙ refit_other H l keep (head_in H l).edges p (λ z. q.left_other (sym z))

    len_p : length (us ++ x ∷ ws) ≡ length (us ++ e ∷ ws)
    len_p = length-append us (x ∷ ws) ∙ sym (length-append us (e ∷ ws))

    stole_left : Node (tables F ks' vs') p (us ++ x ∷ ws) (as' ++ l ∷ r ∷ bs) × Node (tables F ks' vs') l es kk × Node (tables F ks' vs') r (gs ++ e ∷ fs) (qs ++ ll) × Linked (tables F ks' vs') r 0 (qs ++ ll)
        × Changed (tables H ks vs) (tables F ks' vs') (r ∷ l ∷ p ∷ []) (qs ++ ll)
    stole_left = (
      node_of H G F ks ks' vs vs' (qs ++ ll) y p (us ++ x ∷ ws) (as' ++ l ∷ r ∷ bs) (omega (arith, q.parent.inside, w.size)) (omega (arith, q.parent.few, len_p)) (ap (λ z. z.len) same_p ∙ q.parent.len_is ∙ sym len_p)
          (subst (λ (z : List ℕ). Run itself z 0 (as' ++ l ∷ r ∷ bs)) (sym (ap (λ z. z.edges) same_p)) q.parent.edges_are)
          (left_parent first ks ks' p i l (length es) (length gs) r us e ws es x gs fs q.here refl refl q.parent.few q.left.few q.left_other q.differ q.parent.keys_are q.left.keys_are q.right.keys_are sk)
          (left_parent second vs vs' p i l (length es) (length gs) r us e ws es x gs fs q.here refl refl q.parent.few q.left.few q.left_other q.differ q.parent.values_are q.left.values_are q.right.values_are sv),
      node_of H G F ks ks' vs vs' (qs ++ ll) y l es kk (omega (arith, q.left.inside, w.size)) (omega (arith, q.left.few, length-append es (x ∷ gs))) (own_l.0 ∙ pk)
          (subst (λ (z : List ℕ). Run itself z 0 kk) (sym own_l.1) (run_parts itself (head_in H l).edges 0 kk qs q.left.edges_are).0)
          (left_left first ks ks' p i l (length es) (length gs) r us e ws es x gs fs q.here refl refl q.parent.few q.left.few q.left_other q.differ q.parent.keys_are q.left.keys_are q.right.keys_are sk)
          (left_left second vs vs' p i l (length es) (length gs) r us e ws es x gs fs q.here refl refl q.parent.few q.left.few q.left_other q.differ q.parent.values_are q.left.values_are q.right.values_are sv),
      node_of H G F ks ks' vs vs' (qs ++ ll) y r (gs ++ e ∷ fs) (qs ++ ll) (omega (arith, q.right.inside, w.size)) (omega (arith, fits, length-append gs (e ∷ fs))) (own_r.0 ∙ omega (arith, pn, length-append gs (e ∷ fs)))
          (subst (λ (z : List ℕ). Run itself z 0 (qs ++ ll)) (sym own_r.1) run_all)
          (left_right first ks ks' p i l (length es) (length gs) r us e ws es x gs fs q.here refl refl q.parent.few q.left.few q.left_other q.differ q.parent.keys_are q.left.keys_are q.right.keys_are sk)
          (left_right second vs vs' p i l (length es) (length gs) r us e ws es x gs fs q.here refl refl q.parent.few q.left.few q.left_other q.differ q.parent.values_are q.left.values_are q.right.values_are sv),
      linked_of G F F ks' vs' r 0 (qs ++ ll) [] adopted (relinked_none F) (λ z. omega (arith, kids.once z, times_append z (qs ++ ll) [])),
      changed_of H G F ks ks' vs vs' (r ∷ l ∷ p ∷ []) (qs ++ ll)
          (rewritten_as H G (r ∷ l ∷ []) (r ∷ l ∷ p ∷ []) (λ z o. omega (arith, times_append z (r ∷ l ∷ []) (p ∷ []))) w) y (kept ks ks' sk) (kept vs vs' sv),
    )

stolen_left_at : {X : Type 0} (xs xs' : List X) (p i l a a' n n' r b : ℕ) → a ≡ a' → n ≡ n' → StolenLeft xs xs' p i l a n r b → StolenLeft xs xs' p i l a' n' r b
stolen_left_at xs xs' p i l a a' n n' r b u v m = subst (λ k. StolenLeft xs xs' p i l a' k r b) v (subst (λ k. StolenLeft xs xs' p i l k n r b) u m)

-- the same, in the words of the code: a pair that is what the tables hold
module _ {K V : Type 0} (H : List Head) (ks ks' : List K) (vs vs' : List V) (h p i l r : ℕ) (us : List (K × V)) (e : K × V) (ws es : List (K × V)) (x : K × V) (gs fs : List (K × V)) (as' bs kk qs ll : List ℕ)
    (q : Pairs (tables H ks vs) p i l r us e ws (es ++ x ∷ gs) fs as' bs (kk ++ qs) ll) (f1 : Fan h (length es) (length kk)) (f2 : Fan h (length gs) (length qs)) (f3 : Fan h (length fs) (length ll))
    (c : ℕ) (pc : length gs + 1 ≡ c) (fits : c + length fs ≤ 11) (kids : Children (tables H ks vs) (qs ++ ll)) (moved rest : ℕ) (room all : List ℕ) where
  abbrev heads_left : Pair → List Head
  heads_left y = refit (refit H y.left (y.left_len - c) (head_in H y.left).edges) y.right (y.right_len + c) all

  pub record MovedLeft (y : Pair) : Type 0 where
    pub fan_moved : Fan h (c - 1) moved
    pub fan_rest : Fan h y.right_len rest
    pub put_room : Put (head_in H y.right).edges room moved (span (head_in H y.right).edges 0 rest)
    pub put_all : Put room all 0 (span (head_in H y.left).edges (y.left_len - c + 1) moved)

  abbrev InsideLeft : Pair → Type 0
  InsideLeft y = MovedLeft y → All (λ z. z < length (heads_left y)) (span (head_in (heads_left y) y.right).edges 0 (moved + rest - 0))

  abbrev WholeLeft : Pair → Type 0
  WholeLeft y =
      MovedLeft y → (F : List Head) → Adopted (heads_left y) F y.right 0 (span (head_in (heads_left y) y.right).edges 0 (moved + rest - 0))
      → StolenLeft ks ks' y.node y.idx y.left (y.left_len - 1 - (c - 1)) (c - 1) y.right y.right_len → StolenLeft vs vs' y.node y.idx y.left (y.left_len - 1 - (c - 1)) (c - 1) y.right y.right_len
      → Node (tables F ks' vs') p (us ++ x ∷ ws) (as' ++ l ∷ r ∷ bs) × Node (tables F ks' vs') l es kk × Node (tables F ks' vs') r (gs ++ e ∷ fs) (qs ++ ll) × Linked (tables F ks' vs') r 0 (qs ++ ll)
      × Changed (tables H ks vs) (tables F ks' vs') (r ∷ l ∷ p ∷ []) (qs ++ ll)

  module _ (y : Pair) (eq : y ≡ record { node = p; idx = i; len = length (us ++ e ∷ ws); left = l; left_len = length (es ++ x ∷ gs); right = r; right_len = length fs }) where
    long : length (es ++ x ∷ gs) ≡ length es + c
    long = length-append es (x ∷ gs) ∙ omega arith

    less : c - 1 ≡ length gs
    less = omega arith

    fan_gs : Fan h (c - 1) moved → Fan h (length gs) moved
    fan_gs f = subst (λ n. Fan h n moved) less f

    pub pair_left_inside : InsideLeft y
    pair_left_inside =
        subst InsideLeft (sym eq)
        (λ m. left_inside H ks ks' vs vs' h p i l r us e ws es x gs fs as' bs kk qs ll q f1 f2 f3 (omega arith) kids (length (es ++ x ∷ gs) - c) (length fs + c) moved rest (omega (arith, long)) (omega arith)
        (fan_gs m.fan_moved) m.fan_rest room all m.put_room m.put_all)

    pub pair_stole_left : WholeLeft y
    pair_stole_left =
        subst WholeLeft (sym eq)
        (λ m F a sk sv.
        stole_left H ks ks' vs vs' h p i l r us e ws es x gs fs as' bs kk qs ll q f1 f2 f3 (omega arith) kids (length (es ++ x ∷ gs) - c) (length fs + c) moved rest (omega (arith, long)) (omega arith)
        (fan_gs m.fan_moved) m.fan_rest room all m.put_room m.put_all F a
        (stolen_left_at ks ks' p i l (length (es ++ x ∷ gs) - 1 - (c - 1)) (length es) (c - 1) (length gs) r (length fs) (omega (arith, long)) less sk)
        (stolen_left_at vs vs' p i l (length (es ++ x ∷ gs) - 1 - (c - 1)) (length es) (c - 1) (length gs) r (length fs) (omega (arith, long)) less sv))

module _ {K V : Type 0} (H : List Head) (ks ks' : List K) (vs vs' : List V) (h p i l r : ℕ) (us : List (K × V)) (e : K × V) (ws es gs : List (K × V)) (x : K × V) (fs : List (K × V)) (as' bs kk qs ll : List ℕ)
    (q : Pairs (tables H ks vs) p i l r us e ws es (gs ++ x ∷ fs) as' bs kk (qs ++ ll)) (f1 : Fan h (length es) (length kk)) (f2 : Fan h (length gs) (length qs)) (f3 : Fan h (length fs) (length ll))
    (fits : length es + 1 + length gs ≤ 11) (kids : Children (tables H ks vs) (qs ++ ll)) (new keep moved rest : ℕ) (pn : new ≡ length es + 1 + length gs) (pk : keep ≡ length fs)
    (mf : Fan h (length gs) moved) (rf : Fan h (length fs) rest) (below all : List ℕ)
    (w1 : Put (head_in H l).edges below (length es + 1) (span (head_in H r).edges 0 moved)) (w2 : Put (head_in H r).edges all 0 (span (head_in H r).edges moved rest)) where
  abbrev G' : List Head
  G' = refit (refit H l new below) r keep all

  w' : Rewritten H G' (r ∷ l ∷ [])
  w' = both_rewritten H l r new keep below all q.left.inside q.right.inside q.differ

  own_l' : ((head_in G' l).len ≡ new) × ((head_in G' l).edges ≡ below)
  own_l' = both_first H l r new keep below all q.left.inside q.right.inside q.differ

  own_r' : ((head_in G' r).len ≡ keep) × ((head_in G' r).edges ≡ all)
  own_r' = both_second H l r new keep below all q.left.inside q.right.inside q.differ

  run_below : Run itself below 0 (kk ++ qs)
  run_below =
      edges_tail (head_in H l).edges below h (length es + 1) kk qs (span (head_in H r).edges 0 moved) q.left.edges_are (λ z. (f1.leaf z, f2.leaf z)) (λ z. f1.inner z)
      (edges_part_of (head_in H r).edges h 0 moved [] qs (run_parts itself (head_in H r).edges 0 qs ll q.right.edges_are).0 (λ z. (f2.leaf z, mf.leaf z)) (λ z. (refl, f2.inner z ∙ sym (mf.inner z)))) w1

  run_rest : Run itself all 0 ll
  run_rest =
      edges_tail (head_in H r).edges all h 0 [] ll (span (head_in H r).edges moved rest) refl (λ z. (refl, f3.leaf z)) (λ z. refl)
      (edges_part_of (head_in H r).edges h moved rest qs ll q.right.edges_are (λ z. (f3.leaf z, rf.leaf z)) (λ z. (f2.inner z ∙ sym (mf.inner z), f3.inner z ∙ sym (rf.inner z)))) w2

  part_l' : span (head_in G' l).edges (length es + 1) (length es + 1 + moved - (length es + 1)) ≡ qs
  part_l' =
      let z : length es + 1 + moved - (length es + 1) ≡ moved = omega arith in
      ap₂ (λ u n. span u (length es + 1) n) own_l'.1 z
      ∙ edges_part_of below h (length es + 1) moved kk qs run_below (λ y. (f2.leaf y, mf.leaf y)) (λ y. (f1.inner y, f2.inner y ∙ sym (mf.inner y)))

  part_r' : (F : List Head) (cs : List ℕ) → Relinked G' F cs → span (head_in F r).edges 0 (rest - 0) ≡ ll
  part_r' F cs y =
      let z : rest - 0 ≡ rest = omega arith in
      ap₂ (λ u n. span u 0 n) (y.edges r ∙ own_r'.1) z ∙ edges_part_of all h 0 rest [] ll run_rest (λ y. (f3.leaf y, rf.leaf y)) (λ y. (refl, f3.inner y ∙ sym (rf.inner y)))

  right_inside_l : All (λ c. c < length G') (span (head_in G' l).edges (length es + 1) (length es + 1 + moved - (length es + 1)))
  right_inside_l =
      subst (λ (xs : List ℕ). All (λ c. c < length G') xs) (sym part_l')
      (All-weaker (λ c. c < length H) (λ c. c < length G') (λ c z. omega (arith, w'.size)) qs (all_front (λ c. c < length H) qs ll kids.inside))

  module _ (F1 : List Head) (a1 : Adopted G' F1 l (length es + 1) (span (head_in G' l).edges (length es + 1) (length es + 1 + moved - (length es + 1)))) where
    adopted_l' : Adopted G' F1 l (length es + 1) qs
    adopted_l' = subst (λ (xs : List ℕ). Adopted G' F1 l (length es + 1) xs) part_l' a1

    y1 : Relinked G' F1 qs
    y1 = relinked_adopted G' F1 l (length es + 1) qs adopted_l'

    right_inside_r : All (λ c. c < length F1) (span (head_in F1 r).edges 0 (rest - 0))
    right_inside_r =
        subst (λ (xs : List ℕ). All (λ c. c < length F1) xs) (sym (part_r' F1 qs y1))
        (All-weaker (λ c. c < length H) (λ c. c < length F1) (λ c z. omega (arith, w'.size, y1.size)) ll (all_back (λ c. c < length H) qs ll kids.inside))

    module _ (F : List Head) (a2 : Adopted F1 F r 0 (span (head_in F1 r).edges 0 (rest - 0)))
        (sk : StolenRight ks ks' p i l (length es) (length gs) r (length fs)) (sv : StolenRight vs vs' p i l (length es) (length gs) r (length fs)) where
      adopted_r' : Adopted F1 F r 0 ll
      adopted_r' = subst (λ (xs : List ℕ). Adopted F1 F r 0 xs) (part_r' F1 qs y1) a2

      y2 : Relinked F1 F ll
      y2 = relinked_adopted F1 F r 0 ll adopted_r'

      y' : Relinked G' F (qs ++ ll)
      y' = relinked_both G' F1 F qs ll y1 y2

      kept' : {X : Type 0} (xs xs' : List X) → StolenRight xs xs' p i l (length es) (length gs) r (length fs) → Kept xs xs' (r ∷ l ∷ p ∷ [])
      kept' xs xs' m = record { size = m.size; cells = λ z o. let t = three_off z r l p o in m.others z t.2 t.1 t.0 }

      same_p' : head_in G' p ≡ head_in H p
      same_p' = refit_other (refit H l new below) r keep all p (λ z. q.right_other (sym z)) ∙ refit_other H l new below p (λ z. q.left_other (sym z))

      len_p' : length (us ++ x ∷ ws) ≡ length (us ++ e ∷ ws)
      len_p' = length-append us (x ∷ ws) ∙ sym (length-append us (e ∷ ws))

      stole_right : Node (tables F ks' vs') p (us ++ x ∷ ws) (as' ++ l ∷ r ∷ bs) × Node (tables F ks' vs') l (es ++ e ∷ gs) (kk ++ qs) × Node (tables F ks' vs') r fs ll × Linked (tables F ks' vs') l (length kk) qs
          × Linked (tables F ks' vs') r 0 ll × Changed (tables H ks vs) (tables F ks' vs') (r ∷ l ∷ p ∷ []) (qs ++ ll)
      stole_right = (
        node_of H G' F ks ks' vs vs' (qs ++ ll) y' p (us ++ x ∷ ws) (as' ++ l ∷ r ∷ bs) (omega (arith, q.parent.inside, w'.size)) (omega (arith, q.parent.few, len_p')) (ap (λ z. z.len) same_p' ∙ q.parent.len_is ∙ sym len_p')
            (subst (λ (z : List ℕ). Run itself z 0 (as' ++ l ∷ r ∷ bs)) (sym (ap (λ z. z.edges) same_p')) q.parent.edges_are)
            (right_parent first ks ks' p i l (length gs) r (length fs) us e ws es gs x fs q.here refl refl q.parent.few q.parent.keys_are q.left.keys_are q.right.keys_are sk)
            (right_parent second vs vs' p i l (length gs) r (length fs) us e ws es gs x fs q.here refl refl q.parent.few q.parent.values_are q.left.values_are q.right.values_are sv),
        node_of H G' F ks ks' vs vs' (qs ++ ll) y' l (es ++ e ∷ gs) (kk ++ qs) (omega (arith, q.left.inside, w'.size)) (omega (arith, fits, length-append es (e ∷ gs))) (own_l'.0 ∙ omega (arith, pn, length-append es (e ∷ gs)))
            (subst (λ (z : List ℕ). Run itself z 0 (kk ++ qs)) (sym own_l'.1) run_below)
            (right_left first ks ks' p i l (length gs) r (length fs) us e ws es gs x fs q.here refl refl q.parent.few q.parent.keys_are q.left.keys_are q.right.keys_are sk)
            (right_left second vs vs' p i l (length gs) r (length fs) us e ws es gs x fs q.here refl refl q.parent.few q.parent.values_are q.left.values_are q.right.values_are sv),
        node_of H G' F ks ks' vs vs' (qs ++ ll) y' r fs ll (omega (arith, q.right.inside, w'.size)) (omega (arith, q.right.few, length-append gs (x ∷ fs))) (own_r'.0 ∙ pk)
            (subst (λ (z : List ℕ). Run itself z 0 ll) (sym own_r'.1) run_rest)
            (right_right first ks ks' p i l (length gs) r (length fs) us e ws es gs x fs q.here refl refl q.parent.few q.parent.keys_are q.left.keys_are q.right.keys_are sk)
            (right_right second vs vs' p i l (length gs) r (length fs) us e ws es gs x fs q.here refl refl q.parent.few q.parent.values_are q.left.values_are q.right.values_are sv),
        linked_at (tables F ks' vs') l h (length es + 1) (length kk) qs f2.leaf (λ z. sym (f1.inner z)) (linked_of G' F1 F ks' vs' l (length es + 1) qs ll adopted_l' y2 kids.once),
        linked_of F1 F F ks' vs' r 0 ll [] adopted_r' (relinked_none F) (λ z. omega (arith, kids.once z, times_append z qs ll, times_append z ll [])),
        changed_of H G' F ks ks' vs vs' (r ∷ l ∷ p ∷ []) (qs ++ ll)
            (rewritten_as H G' (r ∷ l ∷ []) (r ∷ l ∷ p ∷ []) (λ z o. omega (arith, times_append z (r ∷ l ∷ []) (p ∷ []))) w') y' (kept' ks ks' sk) (kept' vs vs' sv),
      )

stolen_right_at : {X : Type 0} (xs xs' : List X) (p i l a n n' r b b' : ℕ) → n ≡ n' → b ≡ b' → StolenRight xs xs' p i l a n r b → StolenRight xs xs' p i l a n' r b'
stolen_right_at xs xs' p i l a n n' r b b' u v m = subst (λ k. StolenRight xs xs' p i l a n' r k) v (subst (λ k. StolenRight xs xs' p i l a k r b) u m)

-- the same, in the words of the code: a pair that is what the tables hold
module _ {K V : Type 0} (H : List Head) (ks ks' : List K) (vs vs' : List V) (h p i l r : ℕ) (us : List (K × V)) (e : K × V) (ws es gs : List (K × V)) (x : K × V) (fs : List (K × V)) (as' bs kk qs ll : List ℕ)
    (q : Pairs (tables H ks vs) p i l r us e ws es (gs ++ x ∷ fs) as' bs kk (qs ++ ll)) (f1 : Fan h (length es) (length kk)) (f2 : Fan h (length gs) (length qs)) (f3 : Fan h (length fs) (length ll))
    (c : ℕ) (pc : length gs + 1 ≡ c) (fits : length es + c ≤ 11) (kids : Children (tables H ks vs) (qs ++ ll)) (moved rest : ℕ) (below all : List ℕ) where
  abbrev heads_right : Pair → List Head
  heads_right y = refit (refit H y.left (y.left_len + c) below) y.right (y.right_len - c) all

  pub record MovedRight (y : Pair) : Type 0 where
    pub fan_moved : Fan h (c - 1) moved
    pub fan_rest : Fan h (y.right_len - c) rest
    pub put_below : Put (head_in H y.left).edges below (y.left_len + 1) (span (head_in H y.right).edges 0 moved)
    pub put_all : Put (head_in H y.right).edges all 0 (span (head_in H y.right).edges moved rest)

  abbrev InsideRightL : Pair → Type 0
  InsideRightL y = MovedRight y → All (λ z. z < length (heads_right y)) (span (head_in (heads_right y) y.left).edges (y.left_len + 1) (y.left_len + 1 + moved - (y.left_len + 1)))

  abbrev InsideRightR : Pair → Type 0
  InsideRightR y =
      MovedRight y → (F1 : List Head) → Adopted (heads_right y) F1 y.left (y.left_len + 1) (span (head_in (heads_right y) y.left).edges (y.left_len + 1) (y.left_len + 1 + moved - (y.left_len + 1)))
      → All (λ z. z < length F1) (span (head_in F1 y.right).edges 0 (rest - 0))

  abbrev WholeRight : Pair → Type 0
  WholeRight y =
      MovedRight y → (F1 : List Head) → Adopted (heads_right y) F1 y.left (y.left_len + 1) (span (head_in (heads_right y) y.left).edges (y.left_len + 1) (y.left_len + 1 + moved - (y.left_len + 1)))
      → (F : List Head) → Adopted F1 F y.right 0 (span (head_in F1 y.right).edges 0 (rest - 0))
      → StolenRight ks ks' y.node y.idx y.left y.left_len (c - 1) y.right (y.right_len - 1 - (c - 1)) → StolenRight vs vs' y.node y.idx y.left y.left_len (c - 1) y.right (y.right_len - 1 - (c - 1))
      → Node (tables F ks' vs') p (us ++ x ∷ ws) (as' ++ l ∷ r ∷ bs) × Node (tables F ks' vs') l (es ++ e ∷ gs) (kk ++ qs) × Node (tables F ks' vs') r fs ll × Linked (tables F ks' vs') l (length kk) qs
      × Linked (tables F ks' vs') r 0 ll × Changed (tables H ks vs) (tables F ks' vs') (r ∷ l ∷ p ∷ []) (qs ++ ll)

  module _ (y : Pair) (eq : y ≡ record { node = p; idx = i; len = length (us ++ e ∷ ws); left = l; left_len = length es; right = r; right_len = length (gs ++ x ∷ fs) }) where
    long' : length (gs ++ x ∷ fs) ≡ c + length fs
    long' = length-append gs (x ∷ fs) ∙ omega arith

    less' : c - 1 ≡ length gs
    less' = omega arith

    fan_moved' : Fan h (c - 1) moved → Fan h (length gs) moved
    fan_moved' f = subst (λ n. Fan h n moved) less' f

    fan_rest' : Fan h (length (gs ++ x ∷ fs) - c) rest → Fan h (length fs) rest
    fan_rest' f = let z : length (gs ++ x ∷ fs) - c ≡ length fs = omega (arith, long') in subst (λ n. Fan h n rest) z f

    pub pair_right_inside_l : InsideRightL y
    pair_right_inside_l =
        subst InsideRightL (sym eq)
        (λ m. right_inside_l H ks ks' vs vs' h p i l r us e ws es gs x fs as' bs kk qs ll q f1 f2 f3 (omega arith) kids (length es + c) (length (gs ++ x ∷ fs) - c) moved rest (omega arith) (omega (arith, long'))
        (fan_moved' m.fan_moved) (fan_rest' m.fan_rest) below all m.put_below m.put_all)

    pub pair_right_inside_r : InsideRightR y
    pair_right_inside_r =
        subst InsideRightR (sym eq)
        (λ m F1 a1. right_inside_r H ks ks' vs vs' h p i l r us e ws es gs x fs as' bs kk qs ll q f1 f2 f3 (omega arith) kids (length es + c) (length (gs ++ x ∷ fs) - c) moved rest (omega arith) (omega (arith, long'))
        (fan_moved' m.fan_moved) (fan_rest' m.fan_rest) below all m.put_below m.put_all F1 a1)

    pub pair_stole_right : WholeRight y
    pair_stole_right =
        subst WholeRight (sym eq)
        (λ m F1 a1 F a2 sk sv.
        stole_right H ks ks' vs vs' h p i l r us e ws es gs x fs as' bs kk qs ll q f1 f2 f3 (omega arith) kids (length es + c) (length (gs ++ x ∷ fs) - c) moved rest (omega arith) (omega (arith, long'))
        (fan_moved' m.fan_moved) (fan_rest' m.fan_rest) below all m.put_below m.put_all F1 a1 F a2
        (stolen_right_at ks ks' p i l (length es) (c - 1) (length gs) r (length (gs ++ x ∷ fs) - 1 - (c - 1)) (length fs) less' (omega (arith, long')) sk)
        (stolen_right_at vs vs' p i l (length es) (c - 1) (length gs) r (length (gs ++ x ∷ fs) - 1 - (c - 1)) (length fs) less' (omega (arith, long')) sv))
