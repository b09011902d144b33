-- An entry put into a node of either kind. Assumes nothing.
use Rattle.node.proofs.Weaves.{all_front, all_back}
use Rattle.std.proofs.Common.{◌≡◌, ℕ, suc, ◌+◌, ◌-◌, ◌<◌, ◌≤◌, List, [], ◌∷◌, ◌++◌, length, Ok, All, Result, sym, ap, ◌∙◌, subst, arith, length-append}
use Rattle.std.proofs.lemmas.List.{nil_from_length}
use Rattle.std.proofs.lemmas.List.Elements.{All-weaker, All-append}
use Rattle.std.proofs.lemmas.Bool.Decides.{nat_tests}
use Rattle.supply.specs.declared.faults.Fault.{Fault}
use Rattle.node.specs.Store.{Tables, Sized, Node, Linked, Changed, times}
use Rattle.node.proofs.Adopts.{times_append}
use Rattle.node.proofs.Frames.{node_kept, linked_kept, linked_parts}
use Rattle.node.specs.Operations.{Fan, Children, InsertsFit, InsertsEdge, Splits}
use Rattle.map.specs.Inserts.{Edges, InsertsIn}

module _ {K V : Type 0} (T T' : Tables K V) (h m i : ℕ) (e : K × V) (c : ℕ) (r : Result (Unit {0}) Fault) where
  pub in_leaf : (x : ℕ) → x ≡ m → h ≡ 0 → InsertsFit T T' x i e r → InsertsIn T T' h m i e c r
  unfolding InsertsFit InsertsIn
  in_leaf x at low f es fs ks ls cs s n p k l1 l2 ed room kids =
      let none : cs ++ ls ≡ [] = ap (λ u. u ++ ls) (ed.leaf low) ∙ nil_from_length ls (l1 low) in
      let same : ks ++ ls ≡ ks ++ (cs ++ ls) = ap (λ u. ks ++ u) (nil_from_length ls (l1 low) ∙ sym none) in
      let d = f es fs (ks ++ ls) s (subst (λ y. Node T y (es ++ fs) (ks ++ ls)) (sym at) n) p room in (
        d.0,
        subst (λ u. Node T' m (es ++ e ∷ fs) u) same (subst (λ y. Node T' y (es ++ e ∷ fs) (ks ++ ls)) at d.1),
        subst (λ u. Linked T' m (length ks) u) (sym none) (λ j b. absurd (omega arith)),
        subst (λ u. Changed T T' (m ∷ []) u) (sym none) (subst (λ y. Changed T T' (y ∷ []) []) at d.2),
      )

  pub in_inner : (x : ℕ) → x ≡ m → 0 < h → InsertsEdge T T' x i e c r → InsertsIn T T' h m i e c r
  unfolding InsertsEdge InsertsIn
  in_inner x at up f es fs ks ls cs s n p k l1 l2 ed room kids =
      let one : c ∷ ls ≡ cs ++ ls = ap (λ u. u ++ ls) (sym (ed.inner up)) in
      let long : length ks ≡ i + 1 = omega (arith, k.inner up) in
      let d = f es fs ks ls s (subst (λ y. Node T y (es ++ fs) (ks ++ ls)) (sym at) n) p long (l2 up) room (subst (Children T) (sym one) kids) in (
        d.0,
        subst (λ u. Node T' m (es ++ e ∷ fs) (ks ++ u)) one (subst (λ y. Node T' y (es ++ e ∷ fs) (ks ++ c ∷ ls)) at d.1),
        subst (λ u. Linked T' m (length ks) u) one (subst (λ y. Linked T' m y (c ∷ ls)) (sym long) (subst (λ y. Linked T' y (i + 1) (c ∷ ls)) at d.2)),
        subst (λ u. Changed T T' (m ∷ []) u) one (subst (λ y. Changed T T' (y ∷ []) (c ∷ ls)) at d.3),
      )

-- ---- one change after another

module _ {K V : Type 0} (T T' T'' : Tables K V) where
  pub changed_both : (bs ds ls ms : List ℕ) → Changed T T' bs ls → Changed T' T'' ds ms → Changed T T'' (bs ++ ds) (ls ++ ms)
  changed_both bs ds ls ms v w = record {
    heads_len = w.heads_len ∙ v.heads_len;
    keys_len = w.keys_len ∙ v.keys_len;
    values_len = w.values_len ∙ v.values_len;
    bodies = λ x z.
        let p = v.bodies x (omega (arith, times_append x bs ds)) in
        let q = w.bodies x (omega (arith, times_append x bs ds)) in
        record { len_same = q.len_same ∙ p.len_same; edges_same = q.edges_same ∙ p.edges_same; keys_same = q.keys_same ∙ p.keys_same; values_same = q.values_same ∙ p.values_same };
    links = λ x z.
        let p = v.links x (omega (arith, times_append x ls ms)) in
        let q = w.links x (omega (arith, times_append x ls ms)) in
        record { parent_same = q.parent_same ∙ p.parent_same; place_same = q.place_same ∙ p.place_same };
  }

module _ {K V : Type 0} (T T' : Tables K V) where
  -- the list of nodes matters only by which stand in it
  pub changed_as : (bs ds ls : List ℕ) → ((x : ℕ) → times x ds ≡ 0 → times x bs ≡ 0) → Changed T T' bs ls → Changed T T' ds ls
  changed_as bs ds ls f c = record { heads_len = c.heads_len; keys_len = c.keys_len; values_len = c.values_len; bodies = λ x z. c.bodies x (f x z); links = c.links }

  pub sized_kept : (bs ls : List ℕ) → Changed T T' bs ls → Sized T → Sized T'
  sized_kept bs ls c s = record {
    most = omega (arith, c.heads_len, s.most);
    keys_room = omega (arith, c.heads_len, c.keys_len, s.keys_room);
    values_room = omega (arith, c.heads_len, c.values_len, s.values_room);
  }

  pub children_kept : (bs ls cs ds : List ℕ) → Changed T T' bs ls → Children T cs → ((x : ℕ) → times x ds ≤ times x cs) → All (λ x. x < length T.heads) ds → Children T' ds
  children_kept bs ls cs ds c k f a = record {
    inside = All-weaker (λ x. x < length T.heads) (λ x. x < length T'.heads) (λ x z. omega (arith, c.heads_len)) ds a;
    once = λ x. omega (arith, f x, k.once x);
  }

times_none : (x y : ℕ) → (x ≡ y → ⊥) → times x (y ∷ []) ≡ 0
times_none x y h = grind (arith, nat_tests)

-- ---- a full node split, and the entry put into one half

module _ {K V : Type 0} (T T₁ T₂ : Tables K V) (h m i : ℕ) (e : K × V) (c n : ℕ) where
  pub left_half : (r₁ : Result (K × V) Fault) (r₂ : Result (Unit {0}) Fault) (as' bs : List (K × V)) (x : K × V) (fs : List (K × V)) (ks ls ms cs : List ℕ) → Splits T T₁ h m 6 n r₁ → Sized T
      → Node T m ((as' ++ bs) ++ x ∷ fs) ((ks ++ ls) ++ ms) → length as' ≡ i → length (as' ++ bs) ≡ 6 → Fan h (length as') (length ks) → (h ≡ 0 → length ls ≡ 0) → (0 < h → length ls ≡ length bs)
      → Fan h (length fs) (length ms) → Edges h c cs → n < length T.heads → (n ≡ m → ⊥) → Children T (cs ++ (ls ++ ms))
      → (r₁ ≡ Ok x)
      × (InsertsIn T₁ T₂ h m i e c r₂
      → (r₂ ≡ Ok tt) × Node T₂ m (as' ++ e ∷ bs) (ks ++ (cs ++ ls)) × Node T₂ n fs ms × Linked T₂ m (length ks) (cs ++ ls) × Linked T₂ n 0 ms × Changed T T₂ (n ∷ m ∷ []) (ms ++ (cs ++ ls)))
  unfolding Splits InsertsIn
  left_half r₁ r₂ as' bs x fs ks ls ms cs sp s nd p six f1 l1 l2 f2 ed there other kids =
      let f3 : Fan h (length (as' ++ bs)) (length (ks ++ ls)) = record {
        leaf = λ z. omega (arith, length-append ks ls, f1.leaf z, l1 z);
        inner = λ z. omega (arith, length-append ks ls, length-append as' bs, f1.inner z, l2 z);
      } in
      let back = all_back (λ y. y < length T.heads) cs (ls ++ ms) kids.inside in
      let front = all_front (λ y. y < length T.heads) cs (ls ++ ms) kids.inside in
      let k1 : Children T ms = record { inside = all_back (λ y. y < length T.heads) ls ms back; once = λ y. omega (arith, kids.once y, times_append y cs (ls ++ ms), times_append y ls ms) } in
      let d = sp (as' ++ bs) x fs (ks ++ ls) ms s nd six f3 f2 there other k1 in (
        d.0,
        λ ins.
            let k2 : Children T₁ (cs ++ ls) =
            children_kept T T₁ (n ∷ m ∷ []) ms (cs ++ (ls ++ ms)) (cs ++ ls) d.4 kids
            (λ y. omega (arith, times_append y cs ls, times_append y cs (ls ++ ms), times_append y ls ms))
            (All-append (λ y. y < length T.heads) cs ls front (all_front (λ y. y < length T.heads) ls ms back)) in
            let q = ins as' bs ks ls cs (sized_kept T T₁ (n ∷ m ∷ []) ms d.4 s) d.1 p f1 l1 l2 ed (omega (arith, six)) k2 in (
              q.0,
              q.1,
              node_kept T₁ T₂ (m ∷ []) (cs ++ ls) n fs ms q.3 (times_none n m other) d.2,
              q.2,
              linked_kept T₁ T₂ (m ∷ []) (cs ++ ls) n 0 ms q.3
                  (λ y z. omega (arith, kids.once y, times_append y cs ls, times_append y cs (ls ++ ms), times_append y ls ms)) d.3,
              changed_as T T₂ ((n ∷ m ∷ []) ++ (m ∷ [])) (n ∷ m ∷ []) (ms ++ (cs ++ ls)) (λ y z. omega (arith, times_append y (n ∷ m ∷ []) (m ∷ []), times_append y (n ∷ []) (m ∷ [])))
                  (changed_both T T₁ T₂ (n ∷ m ∷ []) (m ∷ []) ms (cs ++ ls) d.4 q.3),
            ),
      )

  pub right_half : (r₁ : Result (K × V) Fault) (r₂ : Result (Unit {0}) Fault) (es : List (K × V)) (x : K × V) (as' bs : List (K × V)) (ks ms ls cs : List ℕ) → Splits T T₁ h m 6 n r₁ → Sized T
      → Node T m (es ++ x ∷ (as' ++ bs)) (ks ++ (ms ++ ls)) → length es ≡ 6 → length as' + 7 ≡ i → Fan h (length es) (length ks) → Fan h (length as') (length ms) → (h ≡ 0 → length ls ≡ 0)
      → (0 < h → length ls ≡ length bs) → Edges h c cs → n < length T.heads → (n ≡ m → ⊥) → Children T (cs ++ (ms ++ ls))
      → (r₁ ≡ Ok x)
      × (InsertsIn T₁ T₂ h n (i - 7) e c r₂
      → (r₂ ≡ Ok tt) × Node T₂ m es ks × Node T₂ n (as' ++ e ∷ bs) (ms ++ (cs ++ ls)) × Linked T₂ n 0 ms × Linked T₂ n (length ms) (cs ++ ls)
      × Changed T T₂ (n ∷ m ∷ []) ((ms ++ ls) ++ (cs ++ ls)))
  unfolding Splits InsertsIn
  right_half r₁ r₂ es x as' bs ks ms ls cs sp s nd six p f1 f2 l1 l2 ed there other kids =
      let f3 : Fan h (length (as' ++ bs)) (length (ms ++ ls)) = record {
        leaf = λ z. omega (arith, length-append ms ls, f2.leaf z, l1 z);
        inner = λ z. omega (arith, length-append ms ls, length-append as' bs, f2.inner z, l2 z);
      } in
      let back = all_back (λ y. y < length T.heads) cs (ms ++ ls) kids.inside in
      let front = all_front (λ y. y < length T.heads) cs (ms ++ ls) kids.inside in
      let k1 : Children T (ms ++ ls) = record { inside = back; once = λ y. omega (arith, kids.once y, times_append y cs (ms ++ ls)) } in
      let few : length es + suc (length (as' ++ bs)) ≤ 11 = omega (arith, nd.few, length-append es (x ∷ (as' ++ bs))) in
      let d = sp es x (as' ++ bs) ks (ms ++ ls) s nd six f1 f3 there other k1 in (
        d.0,
        λ ins.
            let k2 : Children T₁ (cs ++ ls) =
            children_kept T T₁ (n ∷ m ∷ []) (ms ++ ls) (cs ++ (ms ++ ls)) (cs ++ ls) d.4 kids
            (λ y. omega (arith, times_append y cs ls, times_append y cs (ms ++ ls), times_append y ms ls))
            (All-append (λ y. y < length T.heads) cs ls front (all_back (λ y. y < length T.heads) ms ls back)) in
            let q = ins as' bs ms ls cs (sized_kept T T₁ (n ∷ m ∷ []) (ms ++ ls) d.4 s) d.2 (omega arith) f2 l1 l2 ed (omega (arith, few)) k2 in (
              q.0,
              node_kept T₁ T₂ (n ∷ []) (cs ++ ls) m es ks q.3 (times_none m n (λ z. other (sym z))) d.1,
              q.1,
              linked_kept T₁ T₂ (n ∷ []) (cs ++ ls) n 0 ms q.3
                  (λ y z. omega (arith, kids.once y, times_append y cs ls, times_append y cs (ms ++ ls), times_append y ms ls)) (linked_parts T₁ n 0 ms ls d.3).0,
              q.2,
              changed_as T T₂ ((n ∷ m ∷ []) ++ (n ∷ [])) (n ∷ m ∷ []) ((ms ++ ls) ++ (cs ++ ls)) (λ y z. omega (arith, times_append y (n ∷ m ∷ []) (n ∷ []), times_append y (n ∷ []) (m ∷ [])))
                  (changed_both T T₁ T₂ (n ∷ m ∷ []) (n ∷ []) (ms ++ ls) (cs ++ ls) d.4 q.3),
            ),
      )
