-- A walk opened, stepped and closed at a place, and a tree released.
use Rattle.std.proofs.Common.{◌≡◌, ℕ, length, Some, None, Ok, Err, Option, Result, refl, sym, ap, ◌∙◌, subst, arith, inl, inr}
use Rattle.std.specs.declared.cmp.Ordering.{Ordering}
use Rattle.std.proofs.lemmas.Bool.{cases_lt}
use Rattle.std.proofs.lemmas.List.{nil_from_length}
use Rattle.supply.specs.declared.faults.Fault.{Fault}
use Rattle.supply.specs.Stocks.{Stock}
use Rattle.node.specs.declared.ends.Side.{Side}
use Rattle.node.specs.declared.nodes.NodeRef.{NodeRef}
use Rattle.node.specs.Balance.{Balanced}
use Rattle.node.specs.Laws.{occurs}
use Rattle.node.specs.Shape.{Tree, flat, root_least}
use Rattle.node.specs.Store.{Tables}
use Rattle.node.proofs.Balances.{balanced_none, beside_none}
use Rattle.node.proofs.Tabled.{err_not_ok, ok_same}
use Rattle.map.specs.Lookup.{InOrder}
use Rattle.walk.specs.declared.walks.Walk.{Walk}
use Rattle.walk.specs.Steps.{step}
use Rattle.walk.specs.Walks as W
use Rattle.walk.specs.Walks.{Walks, no_walk, Nodeless, Hands, Stepped, Opens, Closes, Releases}
use Rattle.walk.specs.Window.{bounds}
use Rattle.walk.proofs.Stepping.{step_ends}
use Rattle.walk.proofs.Windows.{shown_fanned}
use Rattle.books.specs.declared.places.Place.{Place}
use Rattle.books.specs.declared.places.Place.TheVariants as P
use Rattle.calls.specs.declared.calls.Answer.TheVariants.{Opened, Handed}
use Rattle.books.specs.Books.{Book, bare, planted, walked, idle, entries, uses, WalkAt, at_bare, at_walk, at_idle, walk_there, idle_there}
use Rattle.calls.specs.Meaning.{Sound}
use Rattle.calls.specs.Rules.{handed_in, open_in, step_in}
use Rattle.calls.proofs.Stepping.{step_kept}
use Rattle.acts.specs.Acts.{Ready, Becomes, Acts, OpensIn, StepsIn, Drops, ClosesIn, ReleasesIn}
use Rattle.acts.proofs.Views.{ReadyTree, bare_book, ready_tree}

module _ {K V : Type 0} (compares : K → K → Ordering) (T : Tables K V) where
  -- a walk that is ready, as the walks below see it, and back
  walks_of : (S : Stock) (w : Walk) (h : ℕ) (t : Tree (K × V)) → Ready compares T S (P.Walk w) (walked h t) → Walks T S h t w
  walks_of S w h t r = let v : WalkAt compares T w h t = walk_there r.at in record { sized = r.sized; fits = r.fits; low = v.low; shown = v.shown; owned = r.owned; rooted = v.rooted; counted = v.count_is }

  walk_at : (S : Stock) (w : Walk) (h : ℕ) (t : Tree (K × V)) → Walks T S h t w → InOrder compares (flat h t) → WalkAt compares T w h t
  walk_at S w h t v o = record { low = v.low; shown = v.shown; rooted = v.rooted; count_is = v.counted; in_order = o }

  -- a tree that is ready
  tree_of : (S : Stock) (root : NodeRef) (count : ℕ) (b : Book (K × V)) (v : ReadyTree compares T S root count b) → W.Standing T S root count v.tree
  tree_of S root count b v = record { owns = v.owns; formed = v.here.formed; number_is = v.node_is; rooted = v.here.rooted; count_is = v.here.count_is }

  -- ---- opening

  nodeless : (w : Walk) → w ≡ no_walk → Nodeless w
  nodeless w e = record { front_null = ap (λ u. u.front.node) e; back_null = ap (λ u. u.back.node) e; none_left = ap (λ u. u.left) e }

  module _ (S : Stock) (p : Place) where
    abbrev OpenedAs : Place → Book (K × V) → Type 0
    OpenedAs p' b = ((open_in b).0 ≡ Ok Opened) × Becomes compares T T S S b p' (open_in b).1

    pub opens_nowhere : ((root : NodeRef) (count : ℕ) → p ≡ P.Tree root count → ⊥) → (w : Walk) → Opens T None 0 (Ok w) → OpensIn compares T S p (Ok (P.Walk w))
    unfolding OpensIn
    opens_nowhere n w o b r m =
        subst (OpenedAs (P.Walk w)) (sym (bare_book compares T p b n m r.at).1)
        (refl, record { at = at_idle (nodeless w (ok_same w no_walk (o.none refl))); beside = beside_none T S (λ _. 0); balanced = balanced_none S (λ _. 0) })

    module _ (root : NodeRef) (count : ℕ) (e : p ≡ P.Tree root count) where
      pub opens_tree : (w : Walk) → Opens T (Some root) count (Ok w) → OpensIn compares T S p (Ok (P.Walk w))
      unfolding OpensIn
      opens_tree w o b r m =
          let v = ready_tree compares T S root count p b e r in
          let h : ℕ = root.height in
          let a = o.some root refl S v.tree (tree_of S root count b v) in
          let u : Walks T S h v.tree w = subst (Walks T S h v.tree) (sym (ok_same w a.walk a.answer)) a.walks in
          subst (OpenedAs (P.Walk w)) (sym v.book_is)
          (refl, record { at = at_walk _ _ (walk_at S w h v.tree u v.here.in_order); beside = beside_none T S (λ x. occurs x h v.tree); balanced = balanced_none S (λ x. occurs x h v.tree) })

      pub opens_lost : (f : Fault) → Opens T (Some root) count (Err f) → (r : Result Place Fault) → OpensIn compares T S p r
      unfolding OpensIn
      opens_lost f o r b w m =
          let v = ready_tree compares T S root count p b e w in
          let a = o.some root refl S v.tree (tree_of S root count b v) in absurd (err_not_ok f a.walk a.answer)

  -- ---- a step

  module _ (s : Side) where
    abbrev Steps : Stock → Stock → Book (K × V) → Walk → Option (K × V) → Type 0
    Steps S S' b w x = Acts compares T T S S' b Handed (step_in s b) (Ok (P.Walk w, x))

    -- none is left
    none_handed : (S : Stock) (w : Walk) (h : ℕ) (t : Tree (K × V)) → Ready compares T S (P.Walk w) (walked h t) → w.left ≡ 0 → Steps S S (walked h t) w None
    none_handed S w h t r z =
        let v : WalkAt compares T w h t = walk_there r.at in
        let none : step s h t ≡ None = (step_ends s h t (shown_fanned T (root_least h) (bounds (Some w.front) (Some w.back)) h t v.shown)).1 (nil_from_length (flat h t) (sym v.count_is ∙ z)) in
        subst (λ o. Acts compares T T S S (walked h t) Handed (handed_in h t o) (Ok (P.Walk w, None))) (sym none)
        (refl, record { at = at_walk _ _ v; beside = beside_none T S (λ x. occurs x h t); balanced = balanced_none S (λ x. occurs x h t) })

    none_idle : (S : Stock) (w : Walk) → Nodeless w → Steps S S idle w None
    none_idle S w e = (refl, record { at = at_idle e; beside = beside_none T S (λ _. 0); balanced = balanced_none S (λ _. 0) })

    -- one is handed out
    one_handed : (S S' : Stock) (w w' : Walk) (x : Option (K × V)) (h : ℕ) (t : Tree (K × V)) → WalkAt compares T w h t → Hands s T S S' h t w' (Ok x) → Steps S S' (walked h t) w' x
    one_handed S S' w w' x h t v d =
        let fanned = shown_fanned T (root_least h) (bounds (Some w.front) (Some w.back)) h t v.shown in
        let rest : Sound compares (walked h d.rest) = subst (λ o. Sound compares (handed_in h t o).1) d.step_is (step_kept compares s (walked h t) (fanned, v.in_order)).sound in
        subst (Steps S S' (walked h t) w') (sym (ok_same x (Some d.entry) d.answer))
        (subst (λ o. Acts compares T T S S' (walked h t) Handed (handed_in h t o) (Ok (P.Walk w', Some d.entry))) (sym d.step_is)
        (refl, record { at = at_walk _ _ (walk_at S' w' h d.rest d.walks rest.1); beside = beside_none T S (λ x. occurs x h t); balanced = d.balanced }))

    module _ (S S' : Stock) (w w' : Walk) where
      -- where none is left, nothing has changed
      same_handed : (x : Option (K × V)) → Stepped s T S S' w w' (Ok x) → w.left ≡ 0 → (b : Book (K × V)) → Steps S S b w None → Steps S S' b w' x
      same_handed x d z b a =
          let n = d.none_left z in
          subst (λ S'. Steps S S' b w' x) (sym n.2) (subst (λ w'. Steps S S b w' x) (sym n.1) (subst (Steps S S b w) (sym (ok_same x None n.0)) a))

      handed_at : (x : Option (K × V)) → Stepped s T S S' w w' (Ok x) → (b : Book (K × V)) → Ready compares T S (P.Walk w) b → Steps S S' b w' x
      handed_at x d bare r = elim r.at [ ]
      handed_at x d (planted h t) r = elim r.at [ ]
      handed_at x d (walked h t) r =
          elim (cases_lt 0 w.left) [
            | inl l ↦ one_handed S S' w w' x h t (walk_there r.at) (d.hands h t (walks_of S w h t r) l)
            | inr l ↦ let z : w.left ≡ 0 = omega arith in same_handed x d z (walked h t) (none_handed S w h t r z)
          ]
      handed_at x d idle r = same_handed x d (idle_there r.at).none_left idle (none_idle S w (idle_there r.at))

      pub steps_done : (x : Option (K × V)) → Stepped s T S S' w w' (Ok x) → StepsIn compares T S S' w s (Ok (P.Walk w', x))
      unfolding StepsIn
      steps_done x d b r = handed_at x d b r

      -- a walk that is ready is not refused
      not_lost : (f : Fault) → Stepped s T S S' w w' (Err f) → (b : Book (K × V)) → Ready compares T S (P.Walk w) b → ⊥
      not_lost f d bare r = elim r.at [ ]
      not_lost f d (planted h t) r = elim r.at [ ]
      not_lost f d (walked h t) r =
          elim (cases_lt 0 w.left) [
            | inl l ↦ let a = d.hands h t (walks_of S w h t r) l in err_not_ok f (Some a.entry) a.answer
            | inr l ↦ let z : w.left ≡ 0 = omega arith in err_not_ok f None (d.none_left z).0
          ]
      not_lost f d idle r = err_not_ok f None (d.none_left (idle_there r.at).none_left).0

      pub steps_lost : (f : Fault) → Stepped s T S S' w w' (Err f) → (r : Result (Place × Option (K × V)) Fault) → StepsIn compares T S S' w s r
      unfolding StepsIn
      steps_lost f d r b v = absurd (not_lost f d b v)

  -- ---- closing and release

  dropped_as : (S S' : Stock) (b : Book (K × V)) (r : Result ℕ Fault) → r ≡ Ok (length (entries b)) → Balanced S S' (λ x. uses x b) (λ _. 0) → Drops compares T S S' b r
  dropped_as S S' b r e d = subst (Drops compares T S S' b) (sym e) (refl, record { at = at_bare; beside = beside_none T S (λ x. uses x b); balanced = d })

  -- where there are no nodes
  dropped_none : (S S' : Stock) (b : Book (K × V)) (r : Result ℕ Fault) → length (entries b) ≡ 0 → ((x : ℕ) → uses x b ≡ 0) → (r ≡ Ok 0) × (S' ≡ S) → Drops compares T S S' b r
  dropped_none S S' b r l u d =
      dropped_as S S' b r (d.0 ∙ ap (λ n. Ok n) (sym l))
      (subst (λ S'. Balanced S S' (λ x. uses x b) (λ _. 0)) (sym d.1) (record { size = refl; marks = λ x. omega (arith, u x); allowance = refl; aside = refl; bars = λ x. refl }))

  module _ (S S' : Stock) where
    closed_at : (w : Walk) (r : Result ℕ Fault) → Closes T S S' w r → (b : Book (K × V)) → Ready compares T S (P.Walk w) b → Drops compares T S S' b r
    closed_at w r c bare v = elim v.at [ ]
    closed_at w r c (planted h t) v = elim v.at [ ]
    closed_at w r c (walked h t) v = let a = c.held h t (walks_of S w h t v) in dropped_as S S' (walked h t) r a.0 a.1
    closed_at w r c idle v = dropped_none S S' idle r refl (λ x. refl) (c.none (idle_there v.at))

    pub closes_at : (w : Walk) (r : Result ℕ Fault) → Closes T S S' w r → ClosesIn compares T S S' w r
    unfolding ClosesIn
    closes_at w r c b v = closed_at w r c b v

    module _ (p : Place) (r : Result ℕ Fault) where
      pub releases_nowhere : ((root : NodeRef) (count : ℕ) → p ≡ P.Tree root count → ⊥) → Releases T S S' None 0 r → ReleasesIn compares T S S' p r
      unfolding ReleasesIn
      releases_nowhere n c b v m =
          subst (λ b'. Drops compares T S S' b' r) (sym (bare_book compares T p b n m v.at).1) (dropped_none S S' bare r refl (λ x. refl) (c.none refl))

      pub releases_tree : (root : NodeRef) (count : ℕ) → p ≡ P.Tree root count → Releases T S S' (Some root) count r → ReleasesIn compares T S S' p r
      unfolding ReleasesIn
      releases_tree root count e c b w m =
          let v = ready_tree compares T S root count p b e w in
          let a = c.some root refl v.tree (tree_of S root count b v) in
          subst (λ b'. Drops compares T S S' b' r) (sym v.book_is) (dropped_as S S' (planted root.height v.tree) r (a.0 ∙ ap (λ n. Ok n) v.here.count_is) a.1)
