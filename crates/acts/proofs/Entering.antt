-- An entry put in at a place.
use Rattle.std.proofs.Common.{◌≡◌, ℕ, ◌+◌, ◌<◌, ◌≤◌, cond, Bool, inl, inr, List, [], ◌∷◌, length, Some, None, Ok, Err, Option, Result, refl, sym, ap, ◌∙◌, subst, arith, nat_lt}
use Rattle.std.proofs.lemmas.Bool.{cases_lt, lt-ltb, le-ltb}
use Rattle.std.specs.declared.cmp.Ordering.{Ordering}
use Rattle.supply.specs.declared.faults.Fault.{Fault}
use Rattle.supply.specs.Stocks.{Stock}
use Rattle.order.specs.Laws.{Ordered}
use Rattle.node.specs.declared.nodes.NodeRef.{NodeRef}
use Rattle.node.specs.Balance.{Rooted, Balanced}
use Rattle.node.specs.Kinds.{root_of}
use Rattle.node.specs.Shape.{Tree, number, flat, mk, Within}
use Rattle.node.specs.Store.{Tables, Holds, first, second}
use Rattle.node.proofs.Tabled.{err_not_ok, ok_same, err_same}
use Rattle.std.specs.Ordering.{is_gt}
use Rattle.rules.specs.Rules.{need, insert}
use Rattle.map.specs.Replacing.{amend}
use Rattle.map.proofs.Replaces.{amend_formed}
use Rattle.node.specs.Laws.{occurs, same}
use Rattle.node.proofs.Balances.{balanced_as, balanced_none}
use Rattle.insertion.specs.Descent.{Swapped}
use Rattle.insertion.proofs.Descended.{amend_number}
use Rattle.calls.specs.Meaning.{Sound}
use Rattle.calls.proofs.Inserting.{insert_kept}
use Rattle.insertion.specs.Roots.{Begins, Begun, Planted, Enters, Entered}
use Rattle.books.specs.declared.places.Place.{Place}
use Rattle.books.specs.declared.places.Place.TheVariants as P
use Rattle.calls.specs.declared.calls.Answer.TheVariants.{Inserted}
use Rattle.books.specs.Books.{bare, planted, entries, TreeAt, at_tree}
use Rattle.calls.specs.Faults.{fault_code}
use Rattle.calls.specs.declared.calls.Answer.{Answer}
use Rattle.calls.specs.Refusals.{Code}
use Rattle.calls.specs.Runs.{inserted, handed, dropped}
use Rattle.calls.specs.Rules.{Part, insert_in, put_in, beside_key}
use Rattle.map.specs.Lookup.{seek}
use Rattle.acts.specs.Acts.{Acts, Counts, InsertsBy, InsertsIn}
use Rattle.acts.proofs.Views.{bare_book, ready_tree}
use Rattle.std.proofs.lemmas.List.Elements.{All-nil}

-- ---- what may be taken

pub lacks : {X : Type 0} (n a : ℕ) (x y : X) → a < n → cond (nat_lt a n) x y ≡ x
lacks n a x y l = ap (λ c. cond c x y) (lt-ltb a n l)

pub enough : {X : Type 0} (n a : ℕ) (x y : X) → n ≤ a → cond (nat_lt a n) x y ≡ y
enough n a x y l = ap (λ c. cond c x y) (le-ltb a n l)

module _ {K V : Type 0} (compares : K → K → Ordering) (T T' : Tables K V) (S S' : Stock) (p : Place) (e : K × V) where
  begun_short : (f : Fault) → Begun T T' S S' e (Err f) → InsertsBy compares T T' S S' e bare (Err f)
  begun_short f d = record { fresh = λ _. 0; top = 0; acts = elim (cases_lt S.allowance 1) [ inl l ↦ short l | inr l ↦ absurd (err_not_ok _ _ (d.granted l).1) ] }
    where
      short : S.allowance < 1 → Acts compares T T' S S' bare Inserted (insert_in compares (λ _. 0) 0 S.allowance e bare) (Err f)
      short l = let u = d.declined l in (lacks 1 S.allowance _ _ l ∙ ap (λ y. (Err (fault_code y), bare)) (sym (err_same _ _ u.0)), u.1)

  single : (m : ℕ) (root : NodeRef) → root ≡ root_of {E = K × V} (0, mk m (e ∷ []) []) → Planted T T' S S' (λ _. 0) (0, mk m (e ∷ []) []) 1 → TreeAt compares T' root 1 0 (mk m (e ∷ []) [])
  unfolding flat Within
  single m root r w = record { root_is = r; holds = w.held; formed = (omega arith, omega arith, refl); rooted = w.root; count_is = refl; in_order = (All-nil _, tt) }

  begun : (root : NodeRef) → Begun T T' S S' e (Ok root) → InsertsBy compares T T' S S' e bare (Ok (P.Tree root 1, None))
  begun root d = elim (cases_lt S.allowance 1) [ inl l ↦ absurd (err_not_ok _ _ (sym (d.declined l).0)) | inr l ↦ granted l (d.granted l) ]
    where
      granted : 1 ≤ S.allowance → (m : ℕ) × ◌≡◌ {A = Result NodeRef Fault} (Ok root) (Ok (root_of {E = K × V} (0, mk m (e ∷ []) []))) × Planted T T' S S' (λ _. 0) (0, mk m (e ∷ []) []) 1 → InsertsBy compares T T' S S' e bare (Ok (P.Tree root 1, None))
      granted l (m, r, w) = record {
        fresh = λ _. 0;
        top = m;
        acts = subst (λ o. Acts compares T T' S S' bare Inserted o (Ok (P.Tree root 1, None))) (sym (enough 1 S.allowance _ _ l)) (refl, record { at = at_tree _ _ (single m root (ok_same _ _ r) w); beside = w.beside; balanced = w.balance });
      }

  pub inserts_bare : ((root : NodeRef) (count : ℕ) → p ≡ P.Tree root count → ⊥) → (root : NodeRef) → Begins T T' S S' e (Ok root) → InsertsIn compares T T' S S' p e (Ok (P.Tree root 1, None))
  unfolding InsertsIn
  inserts_bare n root d b r m = subst (λ b'. InsertsBy compares T T' S S' e b' (Ok (P.Tree root 1, None))) (sym (bare_book compares T p b n m r.at).1) (begun root (d r.sized r.fits))

  pub refuses_bare : ((root : NodeRef) (count : ℕ) → p ≡ P.Tree root count → ⊥) → (f : Fault) → Begins T T' S S' e (Err f) → InsertsIn compares T T' S S' p e (Err f)
  unfolding InsertsIn
  refuses_bare n f d b r m = subst (λ b'. InsertsBy compares T T' S S' e b' (Err f)) (sym (bare_book compares T p b n m r.at).1) (begun_short f (d r.sized r.fits))

-- the count that the rule's answer wants
counted : {K V : Type 0} (count : ℕ) (old : Option V) (n : ℕ) (l l' : List (K × V)) → Counts count old n → count ≤ 45056 → count ≡ length l → (o : Result (Answer K V) Code) → o ≡ Ok (Inserted old)
    → length l' + (handed o + dropped o) ≡ length l + inserted o → n ≡ length l'
counted count (Some v) n l l' c f q o r g = let z = subst (λ o'. length l' + (handed o' + dropped o') ≡ length l + inserted o') r g in omega (arith, c, q, z)
counted count None n l l' c f q o r g = let z = subst (λ o'. length l' + (handed o' + dropped o') ≡ length l + inserted o') r g in omega (arith, c f, q, z)

module _ {K V : Type 0} (compares : K → K → Ordering) (T T' : Tables K V) (S S' : Stock) (e : K × V) (root : NodeRef) (count : ℕ) where
  -- what the rule gives, as far as the search has come
  where_sought : (fresh : ℕ → ℕ) (top h : ℕ) (t : Tree (K × V)) (o : Option (K × V)) → seek (beside_key compares e) h t ≡ o → insert_in compares fresh top S.allowance e (planted h t) ≡ put_in compares fresh top S.allowance e h t o
  where_sought fresh top h t o q = ap (put_in compares fresh top S.allowance e h t) q

  below : K × V → Bool
  below y = is_gt (beside_key compares e y)

  short_tree : (t : Tree (K × V)) (f : Fault) → Entered (beside_key compares e) T T' S S' root.height e t (Err f) → InsertsBy compares T T' S S' e (planted root.height t) (Err f)
  short_tree t f d = record { fresh = λ _. 0; top = 0; acts = go (seek (beside_key compares e) root.height t) refl }
    where
      go : (o : Option (K × V)) → seek (beside_key compares e) root.height t ≡ o → Acts compares T T' S S' (planted root.height t) Inserted (insert_in compares (λ _. 0) 0 S.allowance e (planted root.height t)) (Err f)
      go (Some x) q = absurd (err_not_ok _ _ (d.replaced x q).0)
      go None q =
          elim (cases_lt S.allowance (need (λ y. is_gt (beside_key compares e y)) root.height t)) [
            | inl l ↦ let u = d.declined q l in (where_sought (λ _. 0) 0 root.height t None q ∙ lacks _ S.allowance _ _ l ∙ ap (λ y. (Err (fault_code y), planted root.height t)) (sym (err_same _ _ u.0)), u.1)
            | inr l ↦ absurd (err_not_ok _ _ (d.granted q l).2)
          ]

  pub refuses_tree : (p : Place) → p ≡ P.Tree root count → (f : Fault) → Enters (compares (first e)) T T' S S' root.height root.node e (Err f) → InsertsIn compares T T' S S' p e (Err f)
  unfolding InsertsIn Enters
  refuses_tree p q f d b' r m =
      let v = ready_tree compares T S root count p b' q r in
      subst (λ c. InsertsBy compares T T' S S' e c (Err f)) (sym v.book_is)
      (short_tree v.tree f (d v.tree v.owns (subst (λ n. Rooted T n) v.node_is v.here.rooted) v.node_is v.low))

  -- ---- granted

  module _ (ordered : Ordered compares) (t : Tree (K × V)) (sound : Sound compares (planted root.height t)) (few : count ≤ 45056) (count_is : count ≡ length (flat root.height t)) where
    -- the tree that the rule gives is in order, and has as many entries as are counted
    made : (fresh : ℕ → ℕ) (top : ℕ) (old : Option V) (n : ℕ) → Counts count old n → (p : ℕ × Tree (K × V)) → insert_in compares fresh top S.allowance e (planted root.height t) ≡ (Ok (Inserted old), planted p.0 p.1)
        → Holds T' p.0 p.1 → Rooted T' (number p.1) → TreeAt compares T' (root_of p) n p.0 p.1
    made fresh top old n c p q w r =
        let k = insert_kept ordered e fresh top S.allowance (planted root.height t) sound in
        let s : Sound compares (planted p.0 p.1) = subst (λ o. Sound compares o.1) q k.sound in
        record {
          root_is = refl;
          holds = w;
          formed = s.0;
          rooted = r;
          count_is = counted count old n (flat root.height t) (flat p.0 p.1) c few count_is (Ok (Inserted old)) refl (subst (λ (o : Part K V). length (entries o.1) + (handed o.0 + dropped o.0) ≡ length (flat root.height t) + inserted o.0) q k.even);
          in_order = s.1;
        }

    replaced : (x : K × V) (n : ℕ) → Counts count (Some (second x)) n → seek (beside_key compares e) root.height t ≡ Some x → Swapped (beside_key compares e) T T' S S' root.height (second e) t → Rooted T (number t)
        → InsertsBy compares T T' S S' e (planted root.height t) (Ok (P.Tree (root_of (root.height, t)) n, Some (second x)))
    replaced x n c q w r =
        let t' : Tree (K × V) = amend (λ y. (first y, second e)) (beside_key compares e) root.height t in
        let m : number t' ≡ number t = amend_number (λ y. (first y, second e)) (beside_key compares e) root.height t in
        let kept = (amend_formed (λ y. (first y, second e)) (beside_key compares e) root.height t sound.0).1 in
        let g = where_sought (λ _. 0) 0 root.height t (Some x) q in
        let v = made (λ _. 0) 0 (Some (second x)) n c (root.height, t') g w.held (subst (λ k. Rooted T' k) (sym m) (w.link.parent_same ∙ r)) in
        record {
          fresh = λ _. 0;
          top = 0;
          acts = subst (λ o. Acts compares T T' S S' (planted root.height t) Inserted o (Ok (P.Tree (root_of (root.height, t)) n, Some (second x)))) (sym g) (
            refl,
            record {
              at = at_tree _ _ (subst (λ k. TreeAt compares T' (record { node = k; height = root.height }) n root.height t') m v);
              beside = w.beside;
              balanced = subst (λ Z. Balanced S Z (λ y. occurs y root.height t) (λ y. occurs y root.height t')) (sym w.stock_same) (balanced_as S S (λ _. 0) (λ _. 0) (λ y. occurs y root.height t) (λ y. occurs y root.height t') (λ y. omega (arith, kept (same y))) (balanced_none S (λ _. 0)));
            },
          );
        }

    put : (fresh : ℕ → ℕ) (top n : ℕ) → Counts {V = V} count None n → seek (beside_key compares e) root.height t ≡ None → need (λ y. is_gt (beside_key compares e y)) root.height t ≤ S.allowance
        → Planted T T' S S' (λ x. occurs x root.height t) (insert fresh top (λ y. is_gt (beside_key compares e y)) e root.height t) (need (λ y. is_gt (beside_key compares e y)) root.height t)
        → InsertsBy compares T T' S S' e (planted root.height t) (Ok (P.Tree (root_of (insert fresh top (λ y. is_gt (beside_key compares e y)) e root.height t)) n, None))
    put fresh top n c q l w =
        let p : ℕ × Tree (K × V) = insert fresh top (λ y. is_gt (beside_key compares e y)) e root.height t in
        let g = where_sought fresh top root.height t None q ∙ enough _ S.allowance _ _ l in
        record {
          fresh = fresh;
          top = top;
          acts = subst (λ o. Acts compares T T' S S' (planted root.height t) Inserted o (Ok (P.Tree (root_of p) n, None))) (sym g)
              (refl, record { at = at_tree _ _ (made fresh top None n c p g w.held w.root); beside = w.beside; balanced = w.balance });
        }

    grown : (root' : NodeRef) (old : Option V) (n : ℕ) → Counts count old n → Rooted T (number t) → Entered (beside_key compares e) T T' S S' root.height e t (Ok (root', old)) → InsertsBy compares T T' S S' e (planted root.height t) (Ok (P.Tree root' n, old))
    grown root' old n c r d = go (seek (beside_key compares e) root.height t) refl
      where
        goes : {z z' : NodeRef × Option V} → ◌≡◌ {A = Result (NodeRef × Option V) Fault} (Ok z) (Ok z') → ((m : ℕ) → Counts count z'.1 m → InsertsBy compares T T' S S' e (planted root.height t) (Ok (P.Tree z'.0 m, z'.1)))
            → Counts count z.1 n → InsertsBy compares T T' S S' e (planted root.height t) (Ok (P.Tree z.0 n, z.1))
        goes {z} {z'} q f = subst (λ y. Counts count y.1 n → InsertsBy compares T T' S S' e (planted root.height t) (Ok (P.Tree y.0 n, y.1))) (sym (ok_same z z' q)) (f n)

        go : (o : Option (K × V)) → seek (beside_key compares e) root.height t ≡ o → InsertsBy compares T T' S S' e (planted root.height t) (Ok (P.Tree root' n, old))
        go (Some x) q = let u = d.replaced x q in goes u.0 (λ m k. replaced x m k q u.1 r) c
        go None q =
            elim (cases_lt S.allowance (need (λ y. is_gt (beside_key compares e y)) root.height t)) [
              | inl l ↦ absurd (err_not_ok _ _ (sym (d.declined q l).0))
              | inr l ↦ let u = d.granted q l in goes u.2 (λ m k. put u.0 u.1 m k q l u.3) c
            ]

  pub inserts_tree : Ordered compares → (p : Place) → p ≡ P.Tree root count → (root' : NodeRef) (old : Option V) (n : ℕ) → Counts count old n → Enters (compares (first e)) T T' S S' root.height root.node e (Ok (root', old))
      → InsertsIn compares T T' S S' p e (Ok (P.Tree root' n, old))
  unfolding InsertsIn Enters
  inserts_tree ordered p q root' old n c d b' r m =
      let v = ready_tree compares T S root count p b' q r in
      subst (λ c. InsertsBy compares T T' S S' e c (Ok (P.Tree root' n, old))) (sym v.book_is)
      (grown ordered v.tree (v.here.formed, v.here.in_order) v.few v.here.count_is root' old n c v.here.rooted
      (d v.tree v.owns (subst (λ n. Rooted T n) v.node_is v.here.rooted) v.node_is v.low))
