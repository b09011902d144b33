-- A node given back with all nodes under it, and a tree released. Assumes nothing.
use Rattle.std.proofs.lemmas.Option.{none-some}
use Rattle.std.proofs.Common.{◌≡◌, ℕ, zero, suc, ◌+◌, ◌-◌, ◌<◌, ◌≤◌, true, false, List, length, take, drop, get_or, is_err, IfOk, Some, Ok, Err, All, Option, Result, sym, refl, ap, ◌∙◌, subst, arith}
use Rattle.std.proofs.lemmas.List.{drop_all, at_drop_more}
use Rattle.std.proofs.lemmas.List.Elements.{All-weaker}
use Rattle.std.proofs.lemmas.Result.{IfOk-from_err}
use Rattle.supply.specs.declared.faults.Fault.{Fault}
use Rattle.supply.specs.declared.faults.Fault.TheVariants.{Breach}
use Rattle.supply.specs.Stocks.{Stock, is_out, Returned}
use Rattle.node.specs.declared.head.Head.{Head}
use Rattle.node.specs.declared.nodes.NodeRef.{NodeRef}
use Rattle.node.specs.Balance.{mark, Balanced}
use Rattle.node.specs.Counts.{Stands, fan, Reached}
use Rattle.node.specs.Laws.{same, occurs}
use Rattle.node.specs.Shape.{Tree, number, kids, weigh, total}
use Rattle.node.specs.Store.{Tables, Holds, head_in}
use Rattle.node.proofs.Balances.{mark_unused, balanced_both, balanced_as, balanced_returned}
use Rattle.node.proofs.Frames.{height_suc, holds_kids}
use Rattle.node.proofs.Numbers.{same_self}
use Rattle.node.proofs.Recounts.{reached_stands, reached_kid, held_fan, recount}
use Rattle.node.proofs.Weaves.{total_map, total_same}
use Rattle.node.specs.Breaches.{Breached}
use Rattle.walk.specs.Leaving.{under, GivesBack}
use Rattle.walk.specs.Walks.{Standing, Releases}
use Rattle.walk.proofs.Handing.{err_ok}
use Rattle.walk.proofs.Opening.{ready_low}
use Rattle.walk.proofs.Stepping.{some_is}

-- ---- the numbers under a node

-- so many edges of a node and one more
abbrev pub edges_to : List Head → ℕ → ℕ → List ℕ
edges_to H m len = take (len + 1 - 0) (head_in H m).edges

pub edges_fan : (H : List Head) (m len : ℕ) → len ≡ (head_in H m).len → edges_to H m len ≡ fan H m
edges_fan H m len z = let e : len + 1 - 0 ≡ (head_in H m).len + 1 = omega (arith, z) in ap (λ n. take n (head_in H m).edges) e

module _ (H : List Head) (x : ℕ) where
  under_leaf : (h m : ℕ) → h ≡ 0 → under x H h m ≡ same x m
  unfolding under
  under_leaf zero m z = refl
  under_leaf (suc h) m z = absurd (omega (arith, z))

  under_kids : (h m : ℕ) → 0 < h → under x H h m ≡ same x m + total (under x H (h - 1)) (fan H m)
  unfolding under
  under_kids h m l = ap (λ k. under x H k m) (height_suc h l)

  under_some : (h m : ℕ) → same x m ≤ under x H h m
  unfolding under
  under_some zero m = omega arith
  under_some (suc h) m = omega arith

-- under a node that the tables hold are the numbers of its tree
under_held : {K V : Type 0} (T : Tables K V) (x h : ℕ) (t : Tree (K × V)) → Holds T h t → under x T.heads h (number t) ≡ occurs x h t
unfolding under weigh
under_held T x zero t w = refl
under_held T x (suc h) t w =
    let u : ℕ → ℕ = under x T.heads h in
    let each : All (λ k. u (number k) ≡ occurs x h k) (kids t) = All-weaker (Holds T h) (λ k. u (number k) ≡ occurs x h k) (λ k v. under_held T x h k v) (kids t) (holds_kids T h t w) in
    omega (arith, ap (total u) (held_fan T h t w), total_map u number (kids t), total_same (λ k. u (number k)) (occurs x h) (kids t) each)

-- ---- node m of height h, and its children one after another

-- m is given back, and all under its children but under those of cs
abbrev pub Left : Stock → Stock → List Head → ℕ → ℕ → List ℕ → Type 0
Left S S' H h m cs = Balanced S S' (λ x. under x H h m) (λ x. total (under x H (h - 1)) cs)

module _ (S : Stock) (H : List Head) (h m : ℕ) where
  gives_not : (S' : Stock) (r : Result (Unit {0}) Fault) → is_err r ≡ true → Breached r → (Reached H h m → ((x : ℕ) → under x H h m ≤ mark S x) → ⊥) → GivesBack S S' H h m r
  gives_not S' r e f n = record { fault = f; given = IfOk-from_err r _ e; whole = λ a b. absurd (n a b) }

  pub gives_outside : (r : Result (Unit {0}) Fault) → is_err r ≡ true → Breached r → (Stands H m → ⊥) → GivesBack S S H h m r
  gives_outside r e b n = gives_not S r e b (λ a b. n (reached_stands H h m a))

  pub gives_declined : (S' : Stock) (r : Result (Unit {0}) Fault) → is_err r ≡ true → Breached r → is_out S m ≡ false → GivesBack S S' H h m r
  gives_declined S' r e f o = gives_not S' r e f (λ a b. omega (arith, b m, under_some H m h m, same_self m, mark_unused S m o))

  pub gives_leaf : (S' : Stock) → h ≡ 0 → Returned S S' m → GivesBack S S' H h m (Ok tt)
  gives_leaf S' z e = record {
    fault = tt;
    given = balanced_as S S' (λ x. same x m + 0) (λ _. 0) (λ x. under x H h m) (λ _. 0) (λ x. omega (arith, under_leaf H x h m z)) (balanced_returned S S' m (λ _. 0) e);
    whole = λ a b. refl;
  }

  pub left_all : (S' : Stock) (len : ℕ) → len ≡ (head_in H m).len → 0 < h → Returned S S' m → Left S S' H h m (edges_to H m len)
  left_all S' len z l e =
      let f : ℕ → ℕ = λ x. total (under x H (h - 1)) (fan H m) in
      subst (λ cs. Left S S' H h m cs) (sym (edges_fan H m len z))
      (balanced_as S S' (λ x. same x m + f x) f (λ x. under x H h m) f (λ x. omega (arith, under_kids H x h m l)) (balanced_returned S S' m f e))

  -- where cs are the children of m
  module _ (cs : List ℕ) (i : ℕ) (S₁ : Stock) (w : Left S S₁ H h m (drop i cs)) where
    cons_is : i < length cs → (x : ℕ) → total (under x H (h - 1)) (drop i cs) ≡ under x H (h - 1) (get_or cs i 0) + total (under x H (h - 1)) (drop (i + 1) cs)
    cons_is l x = at_drop_more (total (under x H (h - 1))) cs i 0 l

    pub left_less : (S' : Stock) → i < length cs → GivesBack S₁ S' H (h - 1) (get_or cs i 0) (Ok tt) → Left S S' H h m (drop (i + 1) cs)
    left_less S' l g =
        let u : ℕ → ℕ → ℕ = λ j x. total (under x H (h - 1)) (drop j cs) in
        balanced_both S S₁ S' (λ x. under x H h m) (u i) (u (i + 1)) w
        (balanced_as S₁ S' (λ x. under x H (h - 1) (get_or cs i 0)) (λ _. 0) (u i) (u (i + 1)) (λ x. omega (arith, cons_is l x)) g.given)

    pub gives_broken : (S' : Stock) (y : Fault) (r : Result (Unit {0}) Fault) → is_err r ≡ true → Breached r → cs ≡ fan H m → 0 < h → i < length cs → GivesBack S₁ S' H (h - 1) (get_or cs i 0) (Err y) → GivesBack S S' H h m r
    gives_broken S' y r e f q p l g =
        gives_not S' r e f (λ a b. err_ok y tt (g.whole (child_reached a) (λ x. omega (arith, b x, w.marks x, cons_is l x))))
      where
        child_reached : Reached H h m → Reached H (h - 1) (get_or cs i 0)
        child_reached a = subst (λ (cs : List ℕ). i < length cs → Reached H (h - 1) (get_or cs i 0)) (sym q) (reached_kid H h m i p a) l

    pub gives_all : length cs ≤ i → GivesBack S S₁ H h m (Ok tt)
    gives_all l = record { fault = tt; given = subst (λ cs. Left S S₁ H h m cs) (drop_all i cs l) w; whole = λ a b. refl }

-- ---- release

module _ {K V : Type 0} (T : Tables K V) (S : Stock) (o : Option NodeRef) (count : ℕ) (n : NodeRef) (q : o ≡ Some n) where
  releases_by : (S' : Stock) (r : Result ℕ Fault) → Breached r → ((t : Tree (K × V)) → Standing T S n count t → (r ≡ Ok count) × Balanced S S' (λ x. occurs x n.height t) (λ _. 0)) → Releases T S S' o count r
  releases_by S' r g f = record {
    fault = g;
    none = λ z. absurd (none-some n (sym z ∙ q));
    some = λ m z t w. subst (λ m. Standing T S m count t → (r ≡ Ok count) × Balanced S S' (λ x. occurs x m.height t) (λ _. 0)) (some_is n m (sym q ∙ z)) (f t) w;
  }

  pub releases_high : 5 < n.height → Releases T S S o count (Err Breach)
  releases_high l = releases_by S (Err Breach) refl (λ t w. absurd (omega (arith, ready_low T S n count t w)))

  -- the descent has an answer, and gives back the nodes of the tree
  ready_given : (S' : Stock) (t : Tree (K × V)) (r : Result (Unit {0}) Fault) → Standing T S n count t → GivesBack S S' T.heads n.height n.node r → (r ≡ Ok tt) × Balanced S S' (λ x. occurs x n.height t) (λ _. 0)
  ready_given S' t r w g =
      let h : ℕ = n.height in
      let u : (x : ℕ) → under x T.heads h n.node ≡ occurs x h t = λ x. ap (under x T.heads h) (sym w.number_is) ∙ under_held T x h t w.owns.holds in
      let e : r ≡ Ok tt = g.whole (subst (λ m. Reached T.heads h m) w.number_is (recount T h t w.owns.holds).reached) (λ x. omega (arith, u x, w.owns.owned x)) in
      let b = subst (λ r. IfOk r (λ _. Balanced S S' (λ x. under x T.heads h n.node) (λ _. 0))) e g.given in
      (e, balanced_as S S' (λ x. under x T.heads h n.node) (λ _. 0) (λ x. occurs x h t) (λ _. 0) (λ x. omega (arith, u x)) b)

  pub releases_broken : (S' : Stock) (y : Fault) (r : Result ℕ Fault) → Breached r → GivesBack S S' T.heads n.height n.node (Err y) → Releases T S S' o count r
  releases_broken S' y r f g = releases_by S' r f (λ t w. absurd (err_ok y tt (ready_given S' t (Err y) w g).0))

  pub releases_done : (S' : Stock) → GivesBack S S' T.heads n.height n.node (Ok tt) → Releases T S S' o count (Ok count)
  releases_done S' g = releases_by S' (Ok count) tt (λ t w. (refl, (ready_given S' t (Ok tt) w g).1))
