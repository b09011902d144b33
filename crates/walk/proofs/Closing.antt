-- Steps until none is left, and the nodes that remain. Assumes nothing.
use Rattle.std.proofs.Common.{◌≡◌, ℕ, zero, suc, ◌+◌, ◌*◌, ◌<◌, ◌≤◌, Bool, true, false, List, [], ◌∷◌, ◌++◌, map, length, is_err, Some, None, Ok, Err, All, Option, Result, sym, refl, ap, ◌∙◌, subst, ⊎_elim, arith, length-append}
use lib.ListN.{length-map}
use Rattle.std.proofs.lemmas.List.{nil_from_length, get_or_past}
use Rattle.std.proofs.lemmas.Result.{IfOk-from_err}
use Rattle.std.proofs.lemmas.Bool.{cases_lt, both_ways}
use Rattle.supply.specs.declared.faults.Fault.{Fault}
use Rattle.supply.specs.declared.faults.Fault.TheVariants.{Breach}
use Rattle.supply.specs.Stocks.{Stock, size_of}
use Rattle.node.specs.declared.head.Head.{Head}
use Rattle.node.specs.declared.ends.Side.TheVariants.{First}
use Rattle.node.specs.declared.nodes.NodeRef.{NodeRef}
use Rattle.node.specs.Balance.{mark, Balanced}
use Rattle.node.specs.Laws.{occurs, nodes}
use Rattle.node.specs.Shape.{Tree, number, row, kids, flat, weigh, total, root_least}
use Rattle.node.specs.Store.{Tables, head_in, times}
use Rattle.node.proofs.Balances.{balanced_both, balanced_as, mark_most, mark_unused}
use Rattle.node.proofs.Numbers.{few_nodes}
use Rattle.node.proofs.Weaves.{weave_size, total_le, total_map}
use Rattle.walk.specs.declared.walks.Walk.{Walk}
use Rattle.node.specs.Breaches.{Breached}
use Rattle.walk.specs.Climbs.{ups, Tops}
use Rattle.walk.specs.Leaving.{Clears}
use Rattle.walk.specs.Steps.{step}
use Rattle.walk.specs.Walks.{no_walk, Walks, Stepped, Opens, Emptied, Closes, Releases}
use Rattle.walk.specs.Window.{Bounds, bounds, Shown}
use Rattle.walk.proofs.Handing.{ok_is, err_ok}
use Rattle.walk.proofs.Stepping.{step_ends}
use Rattle.walk.proofs.Walking.{exhausted}
use Rattle.walk.proofs.Windows.{among_all, shown_pane, shown_inner, shown_kids, shown_fanned}

-- ---- after some steps

-- w' is what is left of w after d steps at the front
pub record Run {K V : Type 0} (T : Tables K V) (S S' : Stock) (w w' : Walk) (d : ℕ) : Type 0 where
  pub count_is : d + w'.left ≡ w.left
  pub same : w.left ≡ 0 → (w' ≡ w) × (S' ≡ S)
  pub held : (h : ℕ) (t : Tree (K × V)) → Walks T S h t w → (t' : Tree (K × V)) × Walks T S' h t' w' × Balanced S S' (λ x. occurs x h t) (λ x. occurs x h t')

module _ {K V : Type 0} (T : Tables K V) where
  pub run_more : (S S₁ S₂ : Stock) (w w₁ w₂ : Walk) (d : ℕ) (o : Option (K × V)) → Run T S S₁ w w₁ d → 0 < w₁.left → Stepped First T S₁ S₂ w₁ w₂ (Ok o) → Run T S S₂ w w₂ (d + 1)
  run_more S S₁ S₂ w w₁ w₂ d o r l s = record {
    count_is = omega (arith, s.one_less l, r.count_is);
    same = λ z. absurd (omega (arith, r.count_is));
    held = λ h t v.
        let a = r.held h t v in
        let b = s.hands h a.0 a.1 l in
        (b.rest, b.walks, balanced_both S S₁ S₂ (λ x. occurs x h t) (λ x. occurs x h a.0) (λ x. occurs x h b.rest) a.2 b.balanced);
  }

-- ---- what remains when nothing is left

module _ (H : List Head) where
  ups_first : (n m : ℕ) → All (λ x. x < length H) (ups H (suc n) m) → m < length H
  unfolding ups
  ups_first n m a = a 0 m (omega arith)

  tops_zero : (m : ℕ) → m < length H → (head_in H m).parent ≡ 65535 → Tops H 0 m
  unfolding Tops
  tops_zero m l e = (l, e)

module _ {K V : Type 0} (T : Tables K V) where
  pub cleared : (S S' : Stock) (h : ℕ) (t : Tree (K × V)) (w : Walk) (r : Result (Unit {0}) Fault) → Walks T S h t w → w.left ≡ 0 → Clears S S' T.heads w.front.node r
      → (r ≡ Ok tt) × Balanced S S' (λ x. occurs x h t) (λ _. 0)
  cleared S S' h t w r v z c =
      let b : Bounds = bounds (Some w.front) (Some w.back) in
      let m : ℕ = w.front.node in
      let fanned = shown_fanned T (root_least h) b h t v.shown in
      let none : step First h t ≡ None = (step_ends First h t fanned).1 (nil_from_length (flat h t) (sym v.counted ∙ z)) in
      let x = exhausted T First v.sized (root_least h) b h t w.front v.shown refl none in
      let top = (shown_pane T (root_least h) b h t v.shown).node_is.inside in
      let y : h + 0 ≡ h = omega arith in
      let tops : Tops T.heads h m = subst (λ n. Tops T.heads n m) y (x.tops 0 (tops_zero T.heads (number t) top v.rooted)) in
      let low : m < length T.heads = ups_first T.heads h m x.lie in
      let d = c.whole h v.low (omega (arith, v.sized.most)) tops x.lie (λ a. omega (arith, x.gone a, v.owned a)) in
      (d.0, balanced_as S S' (λ a. times a (ups T.heads (suc h) m)) (λ _. 0) (λ a. occurs a h t) (λ _. 0) (λ a. omega (arith, x.gone a)) d.1)

  pub closes_done : {U : Tables K V} → U ≡ T → (S S₁ S₂ : Stock) (w w₁ : Walk) (d : ℕ) → Emptied T S S₁ w w₁ (Ok d) → Clears S₁ S₂ U.heads w₁.front.node (Ok tt) → w.left ≤ 11 * length U.heads → Closes T S S₂ w (Ok d)
  closes_done {U = U} y S S₁ S₂ w w₁ d e c l = record {
    fault = tt;
    none = λ z.
        let a = e.none_left z.none_left in
        (a.0, (c.none (ap (λ u. u.front.node) a.1 ∙ z.front_null)).1 ∙ a.2);
    all = e.all;
    few = omega (arith, e.all, ap (λ (T : Tables K V). length T.heads) y);
    held = λ h t v.
        let a = e.held h t v in
        let b = cleared S₁ S₂ h a.1.0 w₁ (Ok tt) a.1.1 a.1.2 (subst (λ (T : Tables K V). Clears S₁ S₂ T.heads w₁.front.node (Ok tt)) y c) in
        (a.0, balanced_both S S₁ S₂ (λ x. occurs x h t) (λ x. occurs x h a.1.0) (λ _. 0) a.1.3 b.1);
  }

  pub closes_broken : {U : Tables K V} → U ≡ T → (S S₁ S₂ : Stock) (w w₁ : Walk) (d : ℕ) (f : Fault) (r : Result ℕ Fault) → is_err r ≡ true → Breached r → Emptied T S S₁ w w₁ (Ok d) → Clears S₁ S₂ U.heads w₁.front.node (Err f) → Closes T S S₂ w r
  closes_broken {U = U} y S S₁ S₂ w w₁ d f r q g e c = record {
    fault = g;
    none = λ z. let a = e.none_left z.none_left in absurd (err_ok f tt (c.none (ap (λ u. u.front.node) a.1 ∙ z.front_null)).0);
    all = IfOk-from_err r _ q;
    few = IfOk-from_err r _ q;
    held = λ h t v. let a = e.held h t v in absurd (err_ok f tt (cleared S₁ S₂ h a.1.0 w₁ (Err f) a.1.1 a.1.2 (subst (λ (T : Tables K V). Clears S₁ S₂ T.heads w₁.front.node (Err f)) y c)).0);
  }

  -- ---- as many entries as nodes can hold

  rows_few : (least : ℕ) (b : Bounds) (h : ℕ) (t : Tree (K × V)) → Shown T least b h t → length (row t) ≤ 11
  rows_few least b h t w =
      let p = shown_pane T least b h t w in omega (arith, p.node_is.few, length-append p.us (row t ++ p.vs), length-append (row t) p.vs)

  flat_zero : (t : Tree (K × V)) → length (row t) ≤ 11 → length (flat zero t) ≤ 11 * nodes zero t
  unfolding flat weigh
  flat_zero t l = omega arith

  flat_suc : (h : ℕ) (t : Tree (K × V)) → length (row t) ≤ 11 → length (kids t) ≡ suc (length (row t)) → All (λ k. length (flat h k) ≤ 11 * nodes h k) (kids t) → length (flat (suc h) t) ≤ 11 * nodes (suc h) t
  unfolding flat weigh
  flat_suc h t l f a =
      let size = weave_size (map (flat h) (kids t)) (row t) (length-map (kids t) (flat h) ∙ f) in
      let each = total_le (λ k. length (flat h k)) (λ k. 11 * nodes h k) (kids t) a in
      omega (arith, size, each, total_map length (flat h) (kids t), total_scale (nodes h) (kids t))
    where
      total_scale : (g : Tree (K × V) → ℕ) (ks : List (Tree (K × V))) → total (λ k. 11 * g k) ks ≡ 11 * total g ks
      total_scale g [] = refl
      total_scale g (k ∷ ks) = omega (arith, total_scale g ks)

  pub flat_few : (least : ℕ) (b : Bounds) (h : ℕ) (t : Tree (K × V)) → Shown T least b h t → length (flat h t) ≤ 11 * nodes h t
  flat_few least b zero t w = flat_zero t (rows_few least b zero t w)
  flat_few least b (suc h) t w =
      flat_suc h t (rows_few least b (suc h) t w) (shown_inner T least b h t w).fan
      (among_all (λ c k. Shown T 4 c h k) (λ k. length (flat h k) ≤ 11 * nodes h k) (λ c k v. flat_few 4 c h k v) b (kids t) (shown_kids T least b h t w))

  pub out_inside : (S : Stock) (x : ℕ) → 0 < mark S x → x < size_of S
  out_inside S x l =
      ⊎_elim (λ (p : x < size_of S). p) (λ (p : size_of S ≤ x). absurd (omega (arith, mark_unused S x (get_or_past S.marks x false p)))) (cases_lt x (size_of S))

  pub walks_few : (S : Stock) (h : ℕ) (t : Tree (K × V)) (w : Walk) → Walks T S h t w → (length T.heads ≤ 4096) × (w.left ≤ 11 * length T.heads)
  walks_few S h t w v =
      let b : Bounds = bounds (Some w.front) (Some w.back) in
      let few = flat_few (root_least h) b h t v.shown in
      let most = few_nodes (length T.heads) h t (λ x. omega (arith, v.owned x, mark_most S x)) (λ x l. subst (λ n. x < n) v.fits (out_inside S x (omega (arith, v.owned x)))) in
      (v.sized.most, omega (arith, v.counted))

  pub closes_many : (S : Stock) (w : Walk) (a : Bool) → a ≡ false → (w.left ≡ 0 → a ≡ true) → (length T.heads ≤ 4096 → w.left ≤ 11 * length T.heads → a ≡ true) → Closes T S S w (Err Breach)
  closes_many S w a q n k = record {
    fault = refl;
    none = λ z. absurd (both_ways a q (n z.none_left));
    all = tt;
    few = tt;
    held = λ h t v. let l = walks_few S h t w v in absurd (both_ways a q (k l.0 l.1));
  }

  -- ---- a release, where it opens a walk and closes it

  pub releases_lost : (S S' : Stock) (o : Option NodeRef) (count : ℕ) (y : Fault) (r : Result ℕ Fault) → Breached r → Opens T o count (Err y) → Releases T S S' o count r
  releases_lost S S' o count y r g e = record {
    fault = g;
    none = λ z. absurd (err_ok y no_walk (e.none z));
    some = λ n z t w. let a = e.some n z S t w in absurd (err_ok y a.walk a.answer);
  }

  pub releases_done : (S S' : Stock) (o : Option NodeRef) (count : ℕ) (w : Walk) (r : Result ℕ Fault) → Opens T o count (Ok w) → Closes T S S' w r → Releases T S S' o count r
  releases_done S S' o count w r e c = record {
    fault = c.fault;
    none = λ z. let q = ok_is w no_walk (e.none z) in c.none (record { front_null = ap (λ u. u.front.node) q; back_null = ap (λ u. u.back.node) q; none_left = ap (λ u. u.left) q });
    some = λ n z t v.
        let a = e.some n z S t v in
        let b = c.held n.height t (subst (λ u. Walks T S n.height t u) (sym (ok_is w a.walk a.answer)) a.walks) in
        (b.0 ∙ ap (λ k. Ok k) (sym v.count_is), b.1);
  }
