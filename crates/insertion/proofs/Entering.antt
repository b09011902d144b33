-- Insertion into a whole tree, from what came of the descent. Assumes nothing.
use Rattle.node.specs.Kinds.{root_of}
use Rattle.std.proofs.Common.{◌≡◌, ℕ, suc, ◌+◌, ◌≤◌, Bool, leb, [], ◌∷◌, Some, None, Ok, Err, Option, Result, Ordering, sym, refl, ap, ◌∙◌, subst, ap₂, arith}
use Rattle.std.specs.Ordering.{is_gt}
use Rattle.std.proofs.lemmas.Bool.{cond-true, cond-false, le-leb, lt-leb}
use Rattle.supply.specs.declared.faults.Fault.{Fault}
use Rattle.supply.specs.Stocks.{Stock}
use Rattle.node.specs.declared.nodes.NodeRef.{NodeRef}
use Rattle.node.specs.Shape.{Tree, number, mk}
use Rattle.node.specs.Store.{Tables, head_at, first, second}
use Rattle.node.specs.Laws.{occurs}
use Rattle.node.specs.Rules.{Grown, whole, parted}
use Rattle.node.specs.Balance.{Owns, Rooted}
use Rattle.node.proofs.Balances.{balanced_both, beside_both, beside_sized}
use Rattle.node.proofs.Tabled.{err_not_ok, ok_same, err_same}
use Rattle.rules.specs.Rules.{grow, run, planted, need}
use Rattle.insertion.specs.declared.descent.InsertResult.{InsertResult}
use Rattle.insertion.specs.declared.descent.InsertResult.TheVariants.{Replaced, Fit, Split}
use Rattle.insertion.specs.Grew.{Grew, answer}
use Rattle.insertion.specs.Descent.{Descended}
use Rattle.insertion.specs.Roots.{Planted, Crowns, Entered}
use Rattle.insertion.proofs.Descending.{Ran, grow_ran}
use Rattle.insertion.proofs.Descended.{replaced_not_split, fit_not_split, split_same}

replaced_not_fit : {K V : Type 0} (x : V) → ◌≡◌ {A = InsertResult K V} (Replaced x) Fit → ⊥
replaced_not_fit x e = let z : ◌≡◌ {A = ℕ} 0 1 = cc in omega arith

replaced_same : {K V : Type 0} (x y : V) → ◌≡◌ {A = InsertResult K V} (Replaced x) (Replaced y) → x ≡ y
replaced_same x y e = cc

-- a root by the number of its tree
pub root_is : {K V : Type 0} (T : Tables K V) {m : ℕ} (t : Tree (K × V)) → number t ≡ m → Rooted T m → Rooted T (number t)
root_is T t e r = subst (Rooted T) (sym e) r

module _ {K V : Type 0} (place : (K × V) → Ordering) (T T₁ : Tables K V) (S S₁ : Stock) (n : NodeRef) (e : K × V) (t : Tree (K × V)) (owns : Owns T S n.height t) (at-m : number t ≡ n.node)
    (root : Rooted T n.node) where
  abbrev h : ℕ
  h = n.height

  abbrev b : K × V → Bool
  b y = is_gt (place y)

  same-root : n ≡ root_of (h, t)
  same-root = ap (λ m. record { node = m; height = h }) (sym at-m)

  abbrev f : ℕ → ℕ
  f x = occurs x h t

  -- a tree that stayed whole
  fitted : (k : Tree (K × V)) (fresh : ℕ → ℕ) (r : Result (InsertResult K V) Fault) → grow fresh b e h t ≡ whole k → Grew T T₁ S S₁ f h (number t) (whole k) (run b h t) r
      → Planted T T₁ S S₁ f (planted 0 h (grow fresh b e h t)) (need b h t) × (number k ≡ number t)
  fitted k fresh r q w = (
    subst (λ g. Planted T T₁ S S₁ f (planted 0 h g) (need b h t)) (sym q) (record {
      held = w.held;
      root = ap (λ x. head_parent x) w.stem_is ∙ w.link.parent_same ∙ root_is T t at-m root;
      balance = w.balance;
      beside = w.beside;
      taken = w.taken ∙ ap (λ n. S₁.allowance + n) (sym same_need);
    }),
    w.stem_is,
  )
    where
      head_parent : ℕ → ℕ
      head_parent x = (head_at T₁ x).parent

      same_need : need b h t ≡ run b h t
      same_need =
          let l : run b h t ≤ h = subst (Ran h (run b h t)) q (grow_ran fresh b e h t) in
          ap (λ n. run b h t + n) (cond-false (leb (suc h) (run b h t)) 1 0 (lt-leb (suc h) (run b h t) (omega arith))) ∙ omega arith

  module _ (r : Result (InsertResult K V) Fault) (d : Descended place T T₁ S S₁ h e 1 t r) where
    pub entered_err : (y : Fault) → r ≡ Err y → Entered place T T₁ S S₁ h e t (Err y)
    entered_err y p = record {
      replaced = λ x s. absurd (err_not_ok _ _ (sym p ∙ (d.replaced x s).0));
      declined = λ s l. let q = d.declined s l in (ap (λ y. Err y) (err_same y _ (sym p ∙ q.0)), q.1);
      granted = λ s l. absurd (err_not_ok _ _ (sym p ∙ (d.granted s l).1.told));
    }

    pub entered_replaced : (old : V) → r ≡ Ok (Replaced old) → Entered place T T₁ S S₁ h e t (Ok (n, Some old))
    entered_replaced old p = record {
      replaced = λ x s. let q = d.replaced x s in (ap (λ m. Ok (m, Some old)) same-root ∙ ap (λ z. Ok (root_of (h, t), Some z)) (replaced_same old (second x) (ok_same _ _ (sym p ∙ q.0))), q.1);
      declined = λ s l. absurd (err_not_ok _ _ (sym (d.declined s l).0 ∙ p));
      granted = λ s l. absurd (not_grown (grow (d.granted s l).0 b e h t) (ok_same _ _ (sym p ∙ (d.granted s l).1.told)));
    }
      where
        not_grown : (g : Grown (K × V)) → Replaced old ≡ answer g → ⊥
        not_grown (whole k) q = replaced_not_fit old q
        not_grown (parted l x y) q = replaced_not_split old (first x) (second x) (number y) q

    pub entered_fit : r ≡ Ok Fit → Entered place T T₁ S S₁ h e t (Ok (n, None))
    entered_fit p = record {
      replaced = λ x s. absurd (replaced_not_fit (second x) (sym (ok_same _ _ (sym p ∙ (d.replaced x s).0))));
      declined = λ s l. absurd (err_not_ok _ _ (sym (d.declined s l).0 ∙ p));
      granted = λ s l. let q = d.granted s l in let u = go q.0 (grow q.0 b e h t) refl q.1 in (q.0, 0, u.0, u.1);
    }
      where
        go : (fresh : ℕ → ℕ) (g : Grown (K × V)) → grow fresh b e h t ≡ g → Grew T T₁ S S₁ f h (number t) g (run b h t) r
            → (◌≡◌ {A = Result (NodeRef × Option V) Fault} (Ok (n, None)) (Ok (root_of (planted 0 h (grow fresh b e h t)), None))) × Planted T T₁ S S₁ f (planted 0 h (grow fresh b e h t)) (need b h t)
        go fresh (whole k) q w =
            let d = fitted k fresh r q w in
            (ap (λ m. Ok (m, None)) same-root ∙ ap (λ m. Ok (record { node = m; height = h }, None)) (sym d.1) ∙ ap (λ g. Ok (root_of (planted 0 h g), None)) (sym q), d.0)
        go fresh (parted l x y) q w = absurd (fit_not_split (first x) (second x) (number y) (ok_same _ _ (sym p ∙ w.told)))

    -- a tree that was split, and the root put above its halves
    module _ (T₂ : Tables K V) (S₂ : Stock) (k : K) (v : V) (c : ℕ) (p : r ≡ Ok (Split k v c)) (r₂ : Result NodeRef Fault) (crowns : Crowns T₁ T₂ S₁ S₂ h n.node (k, v) c r₂) where
      abbrev Rooting : (ℕ → ℕ) → Type 0
      Rooting fresh = (top : ℕ) × (r₂ ≡ Ok (root_of (planted top h (grow fresh b e h t)))) × Planted T T₂ S S₂ f (planted top h (grow fresh b e h t)) (need b h t)

      rooted : (fresh : ℕ → ℕ) (g : Grown (K × V)) → grow fresh b e h t ≡ g → Grew T T₁ S S₁ f h (number t) g (run b h t) r → need b h t ≤ S.allowance → Rooting fresh
      unfolding Crowns
      rooted fresh (whole u) q w enough = absurd (fit_not_split k v c (sym (ok_same _ _ (sym p ∙ w.told))))
      rooted fresh (parted l x y) q w enough =
          let m = split_same k (first x) v (second x) c (number y) (ok_same _ _ (sym p ∙ w.told)) in
          let ran : run b h t ≡ suc h = subst (Ran h (run b h t)) q (grow_ran fresh b e h t) in
          let needs : need b h t ≡ run b h t + 1 = ap (λ n. run b h t + n) (cond-true (leb (suc h) (run b h t)) 1 0 (le-leb (suc h) (run b h t) (omega arith))) in
          let entry : ◌≡◌ {A = K × V} (k, v) x = ap₂ {C = K × V} (λ a z. (a, z)) m.0 m.1 in
          let u = crowns l y (beside_sized T T₁ S f w.beside owns.sized) (omega (arith, w.balance.size, owns.fits, w.beside.heads_len)) w.held.0 w.held.1 (w.stem_is ∙ at-m) (sym m.2)
          (λ z. omega (arith, w.balance.marks z, owns.owned z)) (omega (arith, w.taken)) in
          let top : ℕ = u.0 in
          let same-tree : ◌≡◌ {A = ℕ × Tree (K × V)} (suc h, mk top ((k, v) ∷ []) (l ∷ y ∷ [])) (planted top h (grow fresh b e h t)) =
          ap (λ z. (suc h, mk top (z ∷ []) (l ∷ y ∷ []))) entry ∙ ap (planted top h) (sym q) in (
            top,
            u.1 ∙ ap (λ z. Ok (root_of z)) same-tree,
            subst (λ z. Planted T T₂ S S₂ f z (need b h t)) same-tree (record {
              held = u.2.held;
              root = u.2.root;
              balance = balanced_both S S₁ S₂ f (λ z. occurs z h l + occurs z h y) (λ z. occurs z (suc h) (mk top ((k, v) ∷ []) (l ∷ y ∷ []))) w.balance u.2.balance;
              beside = beside_both T T₁ T₂ S S₁ f (λ z. occurs z h l + occurs z h y) w.balance w.beside u.2.beside;
              taken = omega (arith, w.taken, u.2.taken);
            }),
          )

      pub entered_split : (top : NodeRef) → r₂ ≡ Ok top → Entered place T T₂ S S₂ h e t (Ok (top, None))
      entered_split top z = record {
        replaced = λ x s. absurd (replaced_not_split (second x) k v c (sym (ok_same _ _ (sym p ∙ (d.replaced x s).0))));
        declined = λ s l. absurd (err_not_ok _ _ (sym (d.declined s l).0 ∙ p));
        granted = λ s l.
            let q = d.granted s l in
            let u = rooted q.0 (grow q.0 b e h t) refl q.1 l in
            (q.0, u.0, ap (λ m. Ok (m, None)) (ok_same _ _ (sym z ∙ u.1)), u.2);
      }

      pub entered_never : (y : Fault) → r₂ ≡ Err y → Entered place T T₂ S S₂ h e t (Err y)
      entered_never y z = record {
        replaced = λ x s. absurd (replaced_not_split (second x) k v c (sym (ok_same _ _ (sym p ∙ (d.replaced x s).0))));
        declined = λ s l. absurd (err_not_ok _ _ (sym (d.declined s l).0 ∙ p));
        granted = λ s l. let q = d.granted s l in absurd (err_not_ok _ _ (sym z ∙ (rooted q.0 (grow q.0 b e h t) refl q.1 l).1));
      }

-- a root put above two trees, of which the left one has another name
pub crowns_at : {K V : Type 0} (T T' : Tables K V) (S S' : Stock) (h m n c : ℕ) (x : K × V) (r : Result NodeRef Fault) → n ≡ m → Crowns T T' S S' h m x c r → Crowns T T' S S' h n x c r
crowns_at T T' S S' h m n c x r e w = subst (λ k. Crowns T T' S S' h k x c r) (sym e) w
