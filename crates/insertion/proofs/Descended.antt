-- What came of an insertion below a node, from what came of its child. Assumes nothing.
use Rattle.rules.proofs.Searches.{first_is}
use Rattle.std.proofs.lemmas.Option.{none-some}
use Rattle.std.proofs.Common.{◌≡◌, ℕ, zero, suc, ◌+◌, ◌-◌, ◌<◌, ◌≤◌, Bool, true, false, cond, eqb, ltb, leb, List, [], ◌∷◌, ◌++◌, length, take, drop, Some, None, Ok, Err, All, Option, Result, Ordering, sym, refl, ap, ◌∙◌, subst, ap₂, ⊎_elim, arith, length-append, take-append-drop, length-take, eq-eqb, ne_eqb}
use Rattle.std.specs.Ordering.{is_gt}
use Rattle.std.proofs.lemmas.Bool.{cond-true, cond-false, lt-ltb, le-ltb, le-leb, cases_lt}
use Rattle.supply.specs.declared.faults.Fault.{Fault}
use Rattle.supply.specs.declared.faults.Fault.TheVariants.{Short}
use Rattle.supply.specs.Stocks.{Stock, size_of}
use Rattle.order.specs.Found.{first_not_below, found_at}
use Rattle.node.specs.Shape.{Tree, node, none, number, row, kids, kid, mk, total}
use Rattle.node.specs.Store.{Tables, Sized, Node, Holds, Changed, numbers, first, second}
use Rattle.node.specs.Laws.{occurs, below, same}
use Rattle.node.specs.Rules.{Grown, whole, parted, settle, swap}
use Rattle.node.specs.Sorted.{index}
use Rattle.node.specs.Balance.{mark, Owns, Balanced}
use Rattle.node.proofs.Balances.{mark_most, guard_most, balanced_both, balanced_as, beside_both, beside_more, beside_sized, beside_changed}
use Rattle.node.proofs.Frames.{height_suc, all_kept, linked_same}
use Rattle.node.proofs.Tabled.{err_not_ok, ok_same}
use Rattle.node.proofs.Numbers.{occurs_parts}
use Rattle.std.proofs.lemmas.List.{nil_from_length}
use Rattle.node.proofs.Weaves.{total_at, all_one}
use Rattle.std.proofs.lemmas.List.Elements.{All-get_or, All-nil}
use Rattle.rules.specs.Held.{Held}
use Rattle.rules.specs.Rules.{grow, run, rise, weighs}
use Rattle.rules.proofs.Branches.{held_from, held_to}
use Rattle.rules.proofs.Ways.{index_le}
use Rattle.rules.proofs.Grows.{grow_agrees}
use Rattle.map.specs.Lookup.{seek, nth}
use Rattle.map.specs.Inserts.{Replaces}
use Rattle.map.specs.Replacing.{alter, amend}
use Rattle.map.proofs.Finds.{hit}
use Rattle.map.proofs.Seeking.{seek_here, seek_leaf, seek_down}
use Rattle.insertion.specs.declared.descent.InsertResult.{InsertResult}
use Rattle.insertion.specs.declared.descent.InsertResult.TheVariants.{Replaced, Fit, Split}
use Rattle.insertion.specs.Grew.{Grew, seated, coming, members}
use Rattle.insertion.specs.Descent.{need_at, above_child, Swapped, Descended, Settled, Comes}
use Rattle.insertion.proofs.Descending.{Ran, grow_down, run_down, grow_ran, need_down, occurs_at, sum, beside_root, link_root, reseat, sum_new, occurs_new}

pub fit_not_split : {K V : Type 0} (k : K) (v : V) (n : ℕ) → ◌≡◌ {A = InsertResult K V} Fit (Split k v n) → ⊥
fit_not_split k v n e = let z : ◌≡◌ {A = ℕ} 0 1 = cc in omega arith

pub replaced_not_split : {K V : Type 0} (x : V) (k : K) (v : V) (n : ℕ) → ◌≡◌ {A = InsertResult K V} (Replaced x) (Split k v n) → ⊥
replaced_not_split x k v n e = let z : ◌≡◌ {A = ℕ} 0 1 = cc in omega arith

pub split_same : {K V : Type 0} (k k' : K) (v v' : V) (n n' : ℕ) → ◌≡◌ {A = InsertResult K V} (Split k v n) (Split k' v' n') → (k ≡ k') × (v ≡ v') × (n ≡ n')
split_same k k' v v' n n' e = (cc, cc, cc)

number_cond : {E : Type 0} (c : Bool) (m : ℕ) (es fs : List E) (ks ls : List (Tree E)) → number (cond c (mk m es ks) (mk m fs ls)) ≡ m
number_cond true m es fs ks ls = refl
number_cond false m es fs ks ls = refl

-- ---- the rule of replacement at a node

module _ {E : Type 0} (f : E → E) (place : E → Ordering) where
  pub amend_number : (h : ℕ) (t : Tree E) → number (amend f place h t) ≡ number t
  unfolding amend
  amend_number zero t = refl
  amend_number (suc h) t = number_cond (found_at place (row t)) (number t) (alter f (first_not_below place (row t)) (row t)) (row t) (kids t) (swap (first_not_below place (row t)) (amend f place h (kid t (first_not_below place (row t))) ∷ []) (kids t))

  pub amend_down : (h : ℕ) (t : Tree E) → 0 < h → found_at place (row t) ≡ false
      → amend f place h t ≡ mk (number t) (row t) (swap (index (λ y. is_gt (place y)) (row t)) (amend f place (h - 1) (kid t (index (λ y. is_gt (place y)) (row t))) ∷ []) (kids t))
  unfolding amend
  amend_down h t up no' =
      subst (λ k. amend f place k t ≡ mk (number t) (row t) (swap (index (λ y. is_gt (place y)) (row t)) (amend f place (h - 1) (kid t (index (λ y. is_gt (place y)) (row t))) ∷ []) (kids t))) (sym (height_suc h up))
      (cond-false (found_at place (row t)) _ _ no'
      ∙ ap (λ i. mk (number t) (row t) (swap i (amend f place (h - 1) (kid t i) ∷ []) (kids t))) (first_is place (row t)))

  pub amend_here : (h : ℕ) (t : Tree E) → found_at place (row t) ≡ true → amend f place h t ≡ mk (number t) (alter f (first_not_below place (row t)) (row t)) (kids t)
  unfolding amend
  amend_here zero t yes' = ap (λ c. mk (number t) (cond c (alter f (first_not_below place (row t)) (row t)) (row t)) (kids t)) yes'
  amend_here (suc h) t yes' = cond-true (found_at place (row t)) _ _ yes'

  alter_at : (es : List E) (e : E) (fs : List E) (i : ℕ) → length es ≡ i → alter f i (es ++ e ∷ fs) ≡ es ++ f e ∷ fs
  alter_at [] e fs zero p = refl
  alter_at [] e fs (suc i) p = absurd (omega arith)
  alter_at (x ∷ es) e fs zero p = absurd (omega arith)
  alter_at (x ∷ es) e fs (suc i) p = ap (λ l. x ∷ l) (alter_at es e fs i (omega arith))

-- ---- a child of a tree that is held and out

pub kid_owned : {K V : Type 0} (T : Tables K V) (S : Stock) (h : ℕ) (t : Tree (K × V)) → Owns T S h t → 0 < h → (i : ℕ) → i < length (kids t) → Owns T S (h - 1) (kid t i)
kid_owned T S h t owns up i inside = record {
  sized = owns.sized;
  fits = owns.fits;
  holds = All-get_or (Holds T (h - 1)) (kids t) i (node 0 [] none) inside (held_from T h t owns.holds).all;
  owned = λ x. omega (arith, owns.owned x, occurs_at x h t up, total_at (occurs x (h - 1)) (kids t) i (node 0 [] none) inside);
}

-- ---- above the leaves, where the key is not in the node

module _ {K V : Type 0} (place : (K × V) → Ordering) (T T₁ : Tables K V) (S S₁ : Stock) (h : ℕ) (e : K × V) (above : ℕ) (t : Tree (K × V))
    (owns : Owns T S h t) (up : 0 < h) (no' : found_at place (row t) ≡ false) where
  abbrev b : K × V → Bool
  b y = is_gt (place y)

  abbrev i : ℕ
  i = index b (row t)

  abbrev child : Tree (K × V)
  child = kid t i

  abbrev higher : ℕ
  higher = above_child (length (row t)) above

  inside : i < length (kids t)
  inside = omega (arith, (held_from T h t owns.holds).fan.inner up, index_le b (row t))

  seeks : seek place h t ≡ seek place (h - 1) child
  seeks = (seek_down place t h up no').0 ∙ ap (λ j. seek place (h - 1) (kid t j)) (first_is place (row t))

  pub child_owned : Owns T S (h - 1) child
  child_owned = kid_owned T S h t owns up i inside

  swapped : Swapped place T T₁ S S₁ (h - 1) (second e) child → Swapped place T T₁ S S₁ h (second e) t
  swapped q =
      let f : K × V → K × V = λ y. (first y, second e) in
      record {
        held = subst (Holds T₁ h) (sym (amend_down f place h t up no'))
            (held_to T₁ h (number t) (row t) (swap i (amend f place (h - 1) child ∷ []) (kids t))
            (reseat T T₁ S h t i owns up inside q.beside q.link (amend f place (h - 1) child) q.held (amend_number f place (h - 1) child)));
        stock_same = q.stock_same;
        beside = beside_root T T₁ S h t i owns up inside q.beside q.link;
        link = link_root T T₁ S h t i owns up inside q.beside q.link;
      }

  -- a child that stayed whole
  kept_whole : (k : Tree (K × V)) (n : ℕ) (r : Result (InsertResult K V) Fault) → Grew T T₁ S S₁ (λ x. occurs x (h - 1) child) (h - 1) (number child) (whole k) n r
      → Grew T T₁ S S₁ (λ x. occurs x h t) h (number t) (whole (mk (number t) (row t) (swap i (k ∷ []) (kids t)))) n r
  kept_whole k n r q = record {
    held = held_to T₁ h (number t) (row t) (swap i (k ∷ []) (kids t)) (reseat T T₁ S h t i owns up inside q.beside q.link k q.held q.stem_is);
    told = q.told;
    stem_is = refl;
    balance = balanced_as S S₁ (λ x. occurs x (h - 1) child) (λ x. occurs x (h - 1) k) (λ x. occurs x h t) (λ x. occurs x h (mk (number t) (row t) (swap i (k ∷ []) (kids t))))
        (λ x.
        omega (
          arith,
          sum T T₁ S h t i owns up inside q.beside q.link x,
          sum_new T T₁ S h t i owns up inside q.beside q.link k q.held q.stem_is x,
          occurs_new T T₁ S h t i owns up inside q.beside q.link k q.held q.stem_is x,
        ))
        q.balance;
    beside = beside_root T T₁ S h t i owns up inside q.beside q.link;
    link = link_root T T₁ S h t i owns up inside q.beside q.link;
    taken = q.taken;
  }

  -- what is not a split goes up as it is
  module _ (r : Result (InsertResult K V) Fault) (d : Descended place T T₁ S S₁ (h - 1) e higher child r) where
    grown_up : ((k : K) (v : V) (n : ℕ) → r ≡ Ok (Split k v n) → ⊥) → (fresh : ℕ → ℕ) (g : Grown (K × V)) → grow fresh b e (h - 1) child ≡ g
        → Grew T T₁ S S₁ (λ x. occurs x (h - 1) child) (h - 1) (number child) g (run b (h - 1) child) r
        → Grew T T₁ S S₁ (λ x. occurs x h t) h (number t) (grow fresh b e h t) (run b h t) r
    grown_up not fresh (whole k) q w =
        let same-run : run b h t ≡ run b (h - 1) child =
        run_down b t h up ∙ cond-true (ltb (run b (h - 1) child) h) _ _ (lt-ltb (run b (h - 1) child) h (omega (arith, subst (Ran (h - 1) (run b (h - 1) child)) q (grow_ran fresh b e (h - 1) child)))) in
        let same-tree : grow fresh b e h t ≡ whole (mk (number t) (row t) (swap i (k ∷ []) (kids t))) = grow_down b t fresh e h up ∙ ap (rise (fresh h) (number t) i (row t) (kids t)) q in
        subst (λ g. Grew T T₁ S S₁ (λ x. occurs x h t) h (number t) g (run b h t) r) (sym same-tree)
        (subst (λ n. Grew T T₁ S S₁ (λ x. occurs x h t) h (number t) (whole (mk (number t) (row t) (swap i (k ∷ []) (kids t)))) n r) (sym same-run) (kept_whole k (run b (h - 1) child) r w))
    grown_up not fresh (parted l x y) q w = absurd (not (first x) (second x) (number y) w.told)

    pub passed_up : ((k : K) (v : V) (n : ℕ) → r ≡ Ok (Split k v n) → ⊥) → Descended place T T₁ S S₁ h e above t r
    passed_up not =
        let n = need_down b e h t above up in
        record {
          replaced = λ x s. let q = d.replaced x (sym seeks ∙ s) in (q.0, swapped q.1);
          declined = λ s l.
              let q = d.declined (sym seeks ∙ s) (omega (arith, n)) in
              (q.0 ∙ ap (λ k. Err (Short k S.allowance)) (sym n), q.1);
          granted = λ s l.
              let q = d.granted (sym seeks ∙ s) (omega (arith, n)) in
              (q.0, grown_up not q.0 (grow q.0 b e (h - 1) child) refl q.1);
        }

  -- a split of the child, and what came of this node
  module _ (T₂ : Tables K V) (S₂ : Stock) (k : K) (v : V) (c : ℕ) (r : Result (InsertResult K V) Fault) (d : Descended place T T₁ S S₁ (h - 1) e higher child (Ok (Split k v c))) where
    module _ (fresh : ℕ → ℕ) (l y : Tree (K × V)) (x : K × V) (q : grow fresh b e (h - 1) child ≡ parted l x y)
        (w : Grew T T₁ S S₁ (λ x. occurs x (h - 1) child) (h - 1) (number child) (parted l x y) (run b (h - 1) child) (Ok (Split k v c)))
        (enough : need_at b h t above ≤ S.allowance) where
      told : (k ≡ first x) × (v ≡ second x) × (c ≡ number y)
      told = split_same k (first x) v (second x) c (number y) (ok_same _ _ w.told)

      entry : ◌≡◌ {A = K × V} (k, v) x
      entry = ap₂ {C = K × V} (λ a z. (a, z)) told.0 told.1

      ran : run b (h - 1) child ≡ h
      ran = omega (arith, subst (Ran (h - 1) (run b (h - 1) child)) q (grow_ran fresh b e (h - 1) child))

      new : List (Tree (K × V))
      new = l ∷ y ∷ []

      abbrev f₁ : ℕ → ℕ
      f₁ = members h (number t) (swap i (l ∷ []) (kids t)) (y ∷ [])

      balance₁ : Balanced S S₁ (λ z. occurs z h t) f₁
      balance₁ = balanced_as S S₁ (λ z. occurs z (h - 1) child) (λ z. occurs z (h - 1) l + occurs z (h - 1) y) (λ z. occurs z h t) f₁
          (λ z.
          omega (
            arith,
            sum T T₁ S h t i owns up inside w.beside w.link z,
            sum_new T T₁ S h t i owns up inside w.beside w.link l w.held.0 w.stem_is z,
          ))
          w.balance

      held₁ : Holds T₁ h (mk (number t) (row t) (swap i (l ∷ []) (kids t)))
      held₁ = held_to T₁ h (number t) (row t) (swap i (l ∷ []) (kids t)) (reseat T T₁ S h t i owns up inside w.beside w.link l w.held.0 w.stem_is)

      comes : Comes h i c (l ∷ y ∷ []) (kids t)
      comes = record { leaf = λ z. absurd (omega arith); inner = λ z. (l, y, refl, sym told.2, inside) }

      owned₁ : (z : ℕ) → f₁ z ≤ mark S₁ z
      owned₁ z = omega (arith, balance₁.marks z, owns.owned z)

      pub sized₁ : Sized T₁
      sized₁ = beside_sized T T₁ S (λ x. occurs x (h - 1) child) w.beside owns.sized

      pub fits₁ : size_of S₁ ≡ length T₁.heads
      fits₁ = omega (arith, w.balance.size, owns.fits, w.beside.heads_len)

      -- what the call for this node is given
      abbrev Called : Type 0
      Called = Settled T₁ T₂ S₁ S₂ h (number t) i (k, v) above (row t) (kids t) (l ∷ y ∷ []) r

      -- the whole change
      both : (n₂ : ℕ) (g : Grown (K × V)) → Grew T₁ T₂ S₁ S₂ f₁ h (number t) g n₂ r → Grew T T₂ S S₂ (λ z. occurs z h t) h (number t) g (h + n₂) r
      both n₂ g u = record {
        held = u.held;
        told = u.told;
        stem_is = u.stem_is;
        balance = balanced_both S S₁ S₂ (λ z. occurs z h t) f₁ (λ z. weighs (same z) h g) balance₁ u.balance;
        beside = beside_both T T₁ T₂ S S₁ (λ z. occurs z h t) f₁ balance₁ (beside_root T T₁ S h t i owns up inside w.beside w.link) u.beside;
        link =
            let p = link_root T T₁ S h t i owns up inside w.beside w.link in
            record { parent_same = u.link.parent_same ∙ p.parent_same; place_same = u.link.place_same ∙ p.place_same };
        taken = omega (arith, w.taken, u.taken, ran);
      }

      -- the same fresh numbers below, and n at this height
      abbrev fresh₂ : ℕ → ℕ → ℕ
      fresh₂ n z = cond (eqb z h) n (fresh z)

      tree_is : (n : ℕ) → grow (fresh₂ n) b e h t ≡ settle n (number t) i (row t) (kids t) x (l ∷ y ∷ [])
      tree_is n =
          grow_down b t (fresh₂ n) e h up
          ∙ ap (rise (fresh₂ n h) (number t) i (row t) (kids t))
          (grow_agrees (fresh₂ n) fresh b e (h - 1) child (λ z p. cond-false (eqb z h) n (fresh z) (ne_eqb z h (λ u. omega arith))) ∙ q)
          ∙ ap (λ z. settle z (number t) i (row t) (kids t) x (l ∷ y ∷ [])) (cond-true (eqb h h) n (fresh h) (eq-eqb h h refl))

      run_is : run b h t ≡ cond (ltb (length (row t)) 11) h (suc h)
      run_is = run_down b t h up ∙ cond-false (ltb (run b (h - 1) child) h) _ _ (le-ltb (run b (h - 1) child) h (omega (arith, ran)))

      settled : Called → (z : ℕ → ℕ) × Grew T T₂ S S₂ (λ z. occurs z h t) h (number t) (grow z b e h t) (run b h t) r
      settled s =
          ⊎_elim
          (λ (p : length (row t) < 11).
          (fresh₂ 0, finish 0 0 (run_is ∙ cond-true (ltb (length (row t)) 11) _ _ (lt-ltb (length (row t)) 11 p) ∙ omega arith) (s.fits p 0)))
          (λ (p : 11 ≤ length (row t)).
          let m : run b h t ≡ suc h = run_is ∙ cond-false (ltb (length (row t)) 11) _ _ (le-ltb (length (row t)) 11 p) in
          let n : need_at b h t above ≡ run b h t + above = ap (λ z. run b h t + z) (cond-true (leb (suc h) (run b h t)) above 0 (le-leb (suc h) (run b h t) (omega arith))) in
          let u = s.splits p (omega (arith, w.taken, ran)) in
          (fresh₂ u.0, finish u.0 1 (omega arith) u.1))
          (cases_lt (length (row t)) 11)
        where
          finish : (n n₂ : ℕ) → run b h t ≡ h + n₂ → Grew T₁ T₂ S₁ S₂ f₁ h (number t) (settle n (number t) i (row t) (kids t) (k, v) (l ∷ y ∷ [])) n₂ r
              → Grew T T₂ S S₂ (λ z. occurs z h t) h (number t) (grow (fresh₂ n) b e h t) (run b h t) r
          finish n n₂ m u =
              subst (λ g. Grew T T₂ S S₂ (λ z. occurs z h t) h (number t) g (run b h t) r)
              (ap (λ z. settle n (number t) i (row t) (kids t) z (l ∷ y ∷ [])) entry ∙ sym (tree_is n))
              (subst (λ j. Grew T T₂ S S₂ (λ z. occurs z h t) h (number t) (settle n (number t) i (row t) (kids t) (k, v) (l ∷ y ∷ [])) j r) (sym m) (both n₂ (settle n (number t) i (row t) (kids t) (k, v) (l ∷ y ∷ [])) u))

      pub called : ((es : List (K × V)) (ks new : List (Tree (K × V))) → Sized T₁ → size_of S₁ ≡ length T₁.heads → Holds T₁ h (mk (number t) es (seated i new ks)) → All (Holds T₁ (h - 1)) (coming new)
          → i ≤ length es → Comes h i c new ks → ((z : ℕ) → members h (number t) (seated i new ks) (coming new) z ≤ mark S₁ z) → Settled T₁ T₂ S₁ S₂ h (number t) i (k, v) above es ks new r)
          → (z : ℕ → ℕ) × Grew T T₂ S S₂ (λ z. occurs z h t) h (number t) (grow z b e h t) (run b h t) r
      called s = settled (s (row t) (kids t) (l ∷ y ∷ []) sized₁ fits₁ held₁ (all_one (Holds T₁ (h - 1)) y w.held.1) (index_le b (row t)) comes owned₁)

    abbrev Calls : Type 0
    Calls =
        (es : List (K × V)) (ks new : List (Tree (K × V))) → Sized T₁ → size_of S₁ ≡ length T₁.heads → Holds T₁ h (mk (number t) es (seated i new ks)) → All (Holds T₁ (h - 1)) (coming new)
        → i ≤ length es → Comes h i c new ks → ((z : ℕ) → members h (number t) (seated i new ks) (coming new) z ≤ mark S₁ z) → Settled T₁ T₂ S₁ S₂ h (number t) i (k, v) above es ks new r

    granted_up : Calls → (fresh : ℕ → ℕ) (g : Grown (K × V)) → grow fresh b e (h - 1) child ≡ g
        → Grew T T₁ S S₁ (λ x. occurs x (h - 1) child) (h - 1) (number child) g (run b (h - 1) child) (Ok (Split k v c)) → need_at b h t above ≤ S.allowance
        → (z : ℕ → ℕ) × Grew T T₂ S S₂ (λ z. occurs z h t) h (number t) (grow z b e h t) (run b h t) r
    granted_up s fresh (whole u) q w l = absurd (fit_not_split k v c (sym (ok_same _ _ w.told)))
    granted_up s fresh (parted u x y) q w l = called fresh u y x q w l s

    pub split_up : Calls → Descended place T T₂ S S₂ h e above t r
    split_up s =
        let n = need_down b e h t above up in
        record {
          replaced = λ x q. absurd (replaced_not_split (second x) k v c (sym (ok_same _ _ (d.replaced x (sym seeks ∙ q)).0)));
          declined = λ q l. absurd (err_not_ok _ _ (sym (d.declined (sym seeks ∙ q) (omega (arith, n))).0));
          granted = λ q l.
              let u = d.granted (sym seeks ∙ q) (omega (arith, n)) in
              granted_up s u.0 (grow u.0 b e (h - 1) child) refl u.1 l;
        }

-- ---- in a leaf

pub grew_as : {K V : Type 0} {T T' : Tables K V} {S S' : Stock} {h m : ℕ} {g : Grown (K × V)} {n : ℕ} {r : Result (InsertResult K V) Fault} (f f' : ℕ → ℕ) → ((x : ℕ) → f x ≡ f' x)
    → Grew T T' S S' f h m g n r → Grew T T' S S' f' h m g n r
grew_as {K} {V} {T} {T'} {S} {S'} {h} {m} {g} {n} {r} f f' e w = record {
  held = w.held;
  told = w.told;
  stem_is = w.stem_is;
  balance = balanced_as S S' f (λ x. weighs (same x) h g) f' (λ x. weighs (same x) h g) (λ x. omega (arith, e x)) w.balance;
  beside = beside_more T T' S f f' (λ x. omega (arith, e x)) w.beside;
  link = w.link;
  taken = w.taken;
}

run_leaf : {E : Type 0} (b : E → Bool) (t : Tree E) → run b zero t ≡ cond (ltb (length (row t)) 11) 0 1
unfolding run
run_leaf b t = refl

grow_leaf : {E : Type 0} (fresh : ℕ → ℕ) (b : E → Bool) (e : E) (t : Tree E) → grow fresh b e zero t ≡ settle (fresh 0) (number t) (index b (row t)) (row t) [] e []
unfolding grow
grow_leaf fresh b e t = refl

module _ {K V : Type 0} (place : (K × V) → Ordering) (T T' : Tables K V) (S S' : Stock) (e : K × V) (above : ℕ) (t : Tree (K × V)) (r : Result (InsertResult K V) Fault)
    (owns : Owns T S 0 t) (no' : found_at place (row t) ≡ false) where
  abbrev b_l : K × V → Bool
  b_l y = is_gt (place y)

  abbrev i_l : ℕ
  i_l = index b_l (row t)

  abbrev SettlesL : Type 0
  SettlesL =
      (es : List (K × V)) (ks new : List (Tree (K × V))) → Sized T → size_of S ≡ length T.heads → Holds T 0 (mk (number t) es (seated i_l new ks)) → All (Holds T (0 - 1)) (coming new)
      → i_l ≤ length es → Comes 0 i_l 0 new ks → ((z : ℕ) → members 0 (number t) (seated i_l new ks) (coming new) z ≤ mark S z) → Settled T T' S S' 0 (number t) i_l e above es ks new r

  count_leaf : (x : ℕ) → members {E = K × V} 0 (number t) [] [] x ≡ occurs x 0 t
  count_leaf x = omega (arith, occurs_parts x 0 t)

  held_l : Holds T 0 (mk (number t) (row t) [])
  held_l =
      let w = held_from T 0 t owns.holds in
      held_to T 0 (number t) (row t) [] (subst (λ ts. Held T 0 (number t) (row t) ts) (nil_from_length (kids t) (w.fan.leaf refl)) w)

  pub leaf_down : SettlesL → Descended place T T' S S' 0 e above t r
  leaf_down s =
      let none' : seek place 0 t ≡ None = (seek_leaf place t 0 refl no').0 in
      let q = s (row t) [] [] owns.sized owns.fits held_l (All-nil (Holds T (0 - 1))) (index_le b_l (row t)) (record { leaf = λ z. (refl, refl); inner = λ z. absurd (omega arith) })
      (λ x. omega (arith, count_leaf x, owns.owned x)) in
      ⊎_elim
      (λ (l : length (row t) < 11).
      let n : run b_l 0 t ≡ 0 = run_leaf b_l t ∙ cond-true (ltb (length (row t)) 11) 0 1 (lt-ltb (length (row t)) 11 l) in
      let m : need_at b_l 0 t above ≡ 0 = ap (λ k. k + cond (leb 1 k) above 0) n in
      record {
        replaced = λ x p. absurd (none-some x (sym none' ∙ p));
        declined = λ _ p. absurd (omega arith);
        granted = λ _ _. (
          (λ k. k),
          subst (λ k. Grew T T' S S' (λ x. occurs x 0 t) 0 (number t) (grow (λ k. k) b_l e 0 t) k r) (sym n)
              (subst (λ g. Grew T T' S S' (λ x. occurs x 0 t) 0 (number t) g 0 r) (sym (grow_leaf (λ k. k) b_l e t)) (grew_as (members {E = K × V} 0 (number t) [] []) (λ x. occurs x 0 t) count_leaf (q.fits l 0))),
        );
      })
      (λ (l : 11 ≤ length (row t)).
      let n : run b_l 0 t ≡ 1 = run_leaf b_l t ∙ cond-false (ltb (length (row t)) 11) 0 1 (le-ltb (length (row t)) 11 l) in
      let m : need_at b_l 0 t above ≡ above + 1 = ap (λ k. k + cond (leb 1 k) above 0) n ∙ omega arith in
      record {
        replaced = λ x p. absurd (none-some x (sym none' ∙ p));
        declined = λ _ p. let d = q.declined l (omega arith) in (d.0 ∙ ap (λ k. Err (Short k S.allowance)) (sym m), d.1);
        granted = λ _ p.
            let d = q.splits l (omega arith) in (
              (λ _. d.0),
              subst (λ k. Grew T T' S S' (λ x. occurs x 0 t) 0 (number t) (grow (λ _. d.0) b_l e 0 t) k r) (sym n)
                  (subst (λ g. Grew T T' S S' (λ x. occurs x 0 t) 0 (number t) g 1 r) (sym (grow_leaf (λ _. d.0) b_l e t)) (grew_as (members {E = K × V} 0 (number t) [] []) (λ x. occurs x 0 t) count_leaf d.1)),
            );
      })
      (cases_lt (length (row t)) 11)

-- ---- the key found in the node

module _ {K V : Type 0} (place : (K × V) → Ordering) (T T' : Tables K V) (S : Stock) (h : ℕ) (e : K × V) (above : ℕ) (t : Tree (K × V)) (r : Result V Fault)
    (owns : Owns T S h t) (yes' : found_at place (row t) ≡ true) where
  abbrev i_f : ℕ
  i_f = first_not_below place (row t)

  abbrev f : K × V → K × V
  f y = (first y, second e)

  count_held : (x : ℕ) → same x (number t) + total (occurs x (h - 1)) (kids t) ≡ occurs x h t
  count_held x =
      ⊎_elim
      (λ (z : h < 1).
      let n : kids t ≡ [] = nil_from_length (kids t) ((held_from T h t owns.holds).fan.leaf (omega arith)) in
      let m : total (occurs x (h - 1)) (kids t) ≡ 0 = ap (total (occurs x (h - 1))) n in
      let p : below x h t ≡ 0 = ap (λ k. below x k t) (let q : h ≡ 0 = omega arith in q) in
      omega (arith, occurs_parts x h t))
      (λ (z : 1 ≤ h). sym (occurs_at x h t z))
      (cases_lt h 1)

  module _ (u : K × V) (us : List (K × V)) (there : drop i_f (row t) ≡ u ∷ us) where
    row_is : row t ≡ take i_f (row t) ++ u ∷ us
    row_is = sym (take-append-drop i_f (row t)) ∙ ap (λ l. take i_f (row t) ++ l) there

    at_i : length (take i_f (row t)) ≡ i_f
    at_i = omega (arith, length-take i_f (row t), first_is place (row t), index_le (λ y. is_gt (place y)) (row t))

    done : Replaces T T' (number t) i_f (second e) r → (r ≡ Ok (second u)) × Node T' (number t) (take i_f (row t) ++ f u ∷ us) (numbers t) × Changed T T' (number t ∷ []) []
    unfolding Replaces
    done s =
        let w = held_from T h t owns.holds in
        s (take i_f (row t)) u us (numbers t) owns.sized (subst (λ l. Node T (number t) l (numbers t)) row_is w.body) at_i

    swapped_here : Replaces T T' (number t) i_f (second e) r → Swapped place T T' S S h (second e) t
    swapped_here s =
        let w = held_from T h t owns.holds in
        let q = done s in
        let long : length (take i_f (row t) ++ f u ∷ us) ≡ length (row t) = length-append (take i_f (row t)) (f u ∷ us) ∙ sym (ap length row_is ∙ length-append (take i_f (row t)) (u ∷ us)) in
        let new : amend f place h t ≡ mk (number t) (take i_f (row t) ++ f u ∷ us) (kids t) =
        amend_here f place h t yes' ∙ ap (λ l. mk (number t) l (kids t)) (ap (alter f i_f) row_is ∙ alter_at f place (take i_f (row t)) u us i_f at_i) in
        record {
          held = subst (Holds T' h) (sym new) (held_to T' h (number t) (take i_f (row t) ++ f u ∷ us) (kids t) (record {
            body = q.1;
            fan = record { leaf = w.fan.leaf; inner = λ z. omega (arith, long, w.fan.inner z) };
            linked = linked_same T T' (number t) 0 (numbers t) (λ x p. q.2.links x refl) w.linked;
            all = all_kept T T' (number t ∷ []) [] (h - 1) (kids t) q.2 (λ x p. omega (arith, count_held x, owns.owned x, mark_most S x)) (λ x p. refl) w.all;
          }));
          stock_same = refl;
          beside = beside_changed T T' S (λ x. occurs x h t) (number t ∷ []) [] q.2 (λ x l. omega (arith, count_held x, guard_most S x)) (λ x l. refl);
          link = q.2.links (number t) refl;
        }

  some_same : (x y : K × V) → ◌≡◌ {A = Option (K × V)} (Some x) (Some y) → x ≡ y
  some_same x y p = cc

  seeks_here : (u : K × V) → nth (row t) i_f ≡ Some u → seek place h t ≡ Some u
  seeks_here u n = (seek_here place t h yes').0 ∙ n

  pub found_not : Replaces T T' (number t) i_f (second e) r → (y : Fault) → r ≡ Err y → ⊥
  found_not s y p = let k = hit place (row t) yes' in err_not_ok y (second k.entry) (sym p ∙ (done k.entry k.rest k.there s).0)

  pub found_down : Replaces T T' (number t) i_f (second e) r → (old : V) → r ≡ Ok old → Descended place T T' S S h e above t (Ok (Replaced old))
  found_down s old p =
      let k = hit place (row t) yes' in
      let n = seeks_here k.entry k.nth_is in
      let v : old ≡ second k.entry = ok_same _ _ (sym p ∙ (done k.entry k.rest k.there s).0) in
      record {
        replaced = λ x q. (ap (λ z. Ok (Replaced z)) (v ∙ ap second (some_same k.entry x (sym n ∙ q))), swapped_here k.entry k.rest k.there s);
        declined = λ q l. absurd (none-some k.entry (sym q ∙ n));
        granted = λ q l. absurd (none-some k.entry (sym q ∙ n));
      }

-- ---- a node with room

module _ {K V : Type 0} (place : (K × V) → Ordering) (T T' : Tables K V) (S S' : Stock) (h : ℕ) (e : K × V) (above : ℕ) (t : Tree (K × V)) (r : Result (InsertResult K V) Fault)
    (d : Descended place T T' S S' h e above t r) (room : length (row t) < 11) where
  abbrev b_r : K × V → Bool
  b_r y = is_gt (place y)

  run_room : run b_r h t ≤ h
  run_room =
      ⊎_elim
      (λ (z : h < 1).
      let q : run b_r h t ≡ run b_r 0 t = ap (λ k. run b_r k t) (let p : h ≡ 0 = omega arith in p) in
      omega (arith, run_leaf b_r t ∙ cond-true (ltb (length (row t)) 11) 0 1 (lt-ltb (length (row t)) 11 room)))
      (λ (z : 1 ≤ h).
      let c : ℕ = run b_r (h - 1) (kid t (index b_r (row t))) in
      let q : run b_r h t ≡ cond (ltb c h) c h =
      run_down b_r t h z ∙ ap (λ k. cond (ltb c h) c k) (cond-true (ltb (length (row t)) 11) h (suc h) (lt-ltb (length (row t)) 11 room)) in
      ⊎_elim
      (λ (p : c < h). omega (arith, q ∙ cond-true (ltb c h) c h (lt-ltb c h p)))
      (λ (p : h ≤ c). omega (arith, q ∙ cond-false (ltb c h) c h (le-ltb c h p)))
      (cases_lt c h))
      (cases_lt h 1)

  grown_whole : (k : K) (v : V) (m : ℕ) → r ≡ Ok (Split k v m) → (fresh : ℕ → ℕ) (g : Grown (K × V)) → grow fresh b_r e h t ≡ g
      → Grew T T' S S' (λ x. occurs x h t) h (number t) g (run b_r h t) r → ⊥
  grown_whole k v m p fresh (whole u) q w = fit_not_split k v m (ok_same _ _ (sym w.told ∙ p))
  grown_whole k v m p fresh (parted l x y) q w = absurd (omega (arith, run_room, subst (Ran h (run b_r h t)) q (grow_ran fresh b_r e h t)))

  -- it is not split
  pub room_keeps : (k : K) (v : V) (m : ℕ) → r ≡ Ok (Split k v m) → ⊥
  room_keeps k v m p = go (seek place h t) refl
    where
      go : (o : Option (K × V)) → seek place h t ≡ o → ⊥
      go (Some x) q = replaced_not_split (second x) k v m (ok_same _ _ (sym (d.replaced x q).0 ∙ p))
      go None q =
          ⊎_elim
          (λ (l : S.allowance < need_at b_r h t above). err_not_ok _ _ (sym (d.declined q l).0 ∙ p))
          (λ (l : need_at b_r h t above ≤ S.allowance). let u = d.granted q l in grown_whole k v m p u.0 (grow u.0 b_r e h t) refl u.1)
          (cases_lt S.allowance (need_at b_r h t above))
