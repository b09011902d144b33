-- A whole tree as a walk. Assumes nothing.
use Rattle.std.proofs.lemmas.Option.{none-some}
use Rattle.std.proofs.Common.{◌≡◌, ℕ, zero, suc, ◌≤◌, List, [], ◌∷◌, ◌++◌, length, Some, None, Ok, Err, All, Option, Result, sym, refl, ap, ◌∙◌, subst, append-nil, arith}
use Rattle.std.specs.Result.{result_or}
use Rattle.std.proofs.lemmas.List.Elements.{All-head, All-tail}
use Rattle.supply.specs.declared.faults.Fault.{Fault}
use Rattle.supply.specs.declared.faults.Fault.TheVariants.{Breach}
use Rattle.supply.specs.Stocks.{Stock}
use Rattle.node.specs.declared.ends.Handle.{Handle}
use Rattle.node.specs.declared.ends.Side.{Side}
use Rattle.node.specs.declared.ends.Side.TheVariants.{First, Last}
use Rattle.node.specs.declared.nodes.NodeRef.{NodeRef}
use Rattle.node.specs.Ends.{Chain, end_edge}
use Rattle.node.specs.Operations.{Strange}
use Rattle.node.specs.Shape.{Tree, number, row, kids, Within, root_least}
use Rattle.node.specs.Store.{Tables, Node, Holds, numbers}
use Rattle.node.proofs.Balances.{mark_most}
use Rattle.node.proofs.Descents.{ends_stand}
use Rattle.node.proofs.Frames.{held_low, holds_node, holds_leaf, holds_fan, holds_linked, holds_kids}
use Rattle.node.proofs.Weaves.{all_both}
use Rattle.walk.specs.declared.walks.Walk.{Walk}
use Rattle.node.specs.Breaches.{Breached}
use Rattle.walk.specs.Walks.{Standing, Opened, Opens}
use Rattle.walk.specs.Window.{Bounds, bounds, bound, put, outer, Pane, Leafs, Inner, Among, Shown}
use Rattle.walk.proofs.Handing.{ok_is, err_ok}
use Rattle.walk.proofs.Stepping.{some_is}
use Rattle.walk.proofs.Walking.{entered}
use Rattle.walk.proofs.Windows.{leaf_shown, inner_shown}

-- nothing outside
abbrev unbounded : Bounds
unbounded = bounds None None

module _ {X : Type 0} (P : Bounds → X → Type 0) where
  among_unbounded : (ks : List X) → All (P unbounded) ks → Among P unbounded ks
  among_unbounded [] a = tt
  among_unbounded (k ∷ []) a = All-head (P unbounded) k [] a
  among_unbounded (k ∷ (k' ∷ ks)) a = (All-head (P unbounded) k (k' ∷ ks) a, among_unbounded (k' ∷ ks) (All-tail (P unbounded) k (k' ∷ ks) a))

err_is : {X : Type 0} (y z : Fault) → ◌≡◌ {A = Result X Fault} (Err y) (Err z) → y ≡ z
err_is y z e = cc

-- a refusal with a breach in place of any other
pub or_breach : {X : Type 0} (y : Fault) (q : Result X Fault) → Err y ≡ result_or q (Err Breach) → y ≡ Breach
or_breach y (Ok x) e = absurd (err_ok y x e)
or_breach y (Err z) e = err_is y Breach e

module _ {K V : Type 0} (T : Tables K V) where
  whole_pane : (least : ℕ) (t : Tree (K × V)) → Node T (number t) (row t) (numbers t) → least ≤ length (row t) → Pane T least unbounded t
  whole_pane least t n l =
      let rows : row t ++ [] ≡ row t = append-nil (row t) in
      let edges : numbers t ++ [] ≡ numbers t = append-nil (numbers t) in
      record {
        us = [];
        vs = [];
        ks = [];
        ls = [];
        node_is = subst (λ es. Node T (number t) es (numbers t ++ [])) (sym rows) (subst (λ cs. Node T (number t) (row t) cs) (sym edges) n);
        enough = omega (arith, ap length rows);
        whole = λ s q. elim s as (λ s. length (outer {X = K × V} s [] []) ≡ 0) [ First ↦ refl | Last ↦ refl ];
      }

  some_unbounded : (s : Side) (e : Handle) → bound s unbounded ≡ Some e → ⊥
  some_unbounded First e q = none-some e q
  some_unbounded Last e q = none-some e q

  within_least : (least h : ℕ) (t : Tree (K × V)) → Within least h t → least ≤ length (row t)
  unfolding Within
  within_least least zero t w = w.0
  within_least least (suc h) t w = w.0

  within_kids : (least h : ℕ) (t : Tree (K × V)) → Within least (suc h) t → All (Within 4 h) (kids t)
  unfolding Within
  within_kids least h t w = w.3

  whole_leaf : (least : ℕ) (t : Tree (K × V)) → Holds T zero t → Within least zero t → Leafs T least unbounded t
  unfolding whole_pane
  whole_leaf least t w v = record {
    pane = whole_pane least t (holds_node T zero t w) (within_least least zero t v);
    bare = (holds_leaf T t w).1;
    no_edges = refl;
    here = λ s e q. absurd (some_unbounded s e q);
  }

  whole_inner : (least h : ℕ) (t : Tree (K × V)) → Holds T (suc h) t → Within least (suc h) t → Inner T least unbounded t
  unfolding whole_pane
  whole_inner least h t w v = record {
    pane = whole_pane least t (holds_node T (suc h) t w) (within_least least (suc h) t v);
    fan = holds_fan T h t w;
    before = refl;
    behind = refl;
    linked = holds_linked T h t w;
  }

  pub whole_shown : (least h : ℕ) (t : Tree (K × V)) → Holds T h t → Within least h t → Shown T least unbounded h t
  whole_shown least zero t w v = leaf_shown T least unbounded t (whole_leaf least t w v)
  whole_shown least (suc h) t w v =
      inner_shown T least unbounded h t (whole_inner least h t w v)
      (among_unbounded (λ c k. Shown T 4 c h k) (kids t) (all_both (Holds T h) (Within 4 h) (λ k. Shown T 4 unbounded h k) (λ k a b. whole_shown 4 h k a b) (kids t) (holds_kids T h t w) (within_kids least h t v)))

  -- ---- what opening answers

  abbrev pub walk_of : Handle → Handle → ℕ → Walk
  walk_of f g n = record { front = f; back = g; left = n }

  module _ (S : Stock) (n : NodeRef) (count : ℕ) (t : Tree (K × V)) (w : Standing T S n count t) where
    pub ready_low : n.height ≤ 5
    ready_low = held_low T n.height t w.owns.sized w.owns.holds w.formed (λ x. omega (arith, w.owns.owned x, mark_most S x))

    pub ready_chain : (s : Side) → (n.height ≤ 5) × Chain s T.heads n.height n.node
    ready_chain s = (ready_low, subst (λ m. Chain s T.heads n.height m) w.number_is (ends_stand T s n.height t w.owns.holds).chain)

    pub ready_normal : Strange T n.node → ⊥
    ready_normal f =
        let m = holds_node T n.height t w.owns.holds in
        subst (λ m. Strange T m) (sym w.number_is) f w.owns.sized m.inside (omega (arith, m.few, m.len_is))

    pub ready_opened : (f g : Handle) → f ≡ end_edge First T.heads n.height n.node → g ≡ end_edge Last T.heads n.height n.node → Opened T S n.height t (Ok (walk_of f g count))
    ready_opened f g p q =
        let h : ℕ = n.height in
        let f-is : f ≡ end_edge First T.heads h (number t) = p ∙ ap (end_edge First T.heads h) (sym w.number_is) in
        let g-is : g ≡ end_edge Last T.heads h (number t) = q ∙ ap (end_edge Last T.heads h) (sym w.number_is) in
        let one = entered T First (root_least h) unbounded h t (whole_shown (root_least h) h t w.owns.holds w.formed) refl in
        let two = entered T Last (root_least h) (put First (Some (end_edge First T.heads h (number t))) unbounded) h t one.shown refl in
        record {
          walk = walk_of f g count;
          answer = refl;
          walks = record {
            sized = w.owns.sized;
            fits = w.owns.fits;
            low = ready_low;
            shown = subst (λ e. Shown T (root_least h) (bounds (Some e) (Some g)) h t) (sym f-is) (subst (λ e. Shown T (root_least h) (bounds (Some (end_edge First T.heads h (number t))) (Some e)) h t) (sym g-is) two.shown);
            owned = w.owns.owned;
            rooted = w.rooted;
            counted = w.count_is;
          };
          front_is = f-is ∙ (ends_stand T First h t w.owns.holds).edge_is;
          back_is = g-is ∙ (ends_stand T Last h t w.owns.holds).edge_is;
        }

  module _ (o : Option NodeRef) (n : NodeRef) (q : o ≡ Some n) (count : ℕ) where
    opens_by : (r : Result Walk Fault) → Breached r → ((S : Stock) (t : Tree (K × V)) → Standing T S n count t → Opened T S n.height t r) → Opens T o count r
    opens_by r g f = record {
      fault = g;
      none = λ z. absurd (none-some n (sym z ∙ q));
      some = λ m z S t w. subst (λ m. Standing T S m count t → Opened T S m.height t r) (some_is n m (sym q ∙ z)) (f S t) w;
    }

    pub opens_strange : (r : Result Walk Fault) → Breached r → Strange T n.node → Opens T o count r
    opens_strange r g a = opens_by r g (λ S t w. absurd (ready_normal S n count t w a))

    -- the code's answer for one end, where the tables hold a tree
    abbrev Told : Side → Result Handle Fault → Type 0
    Told s q = n.height ≤ 5 → Chain s T.heads n.height n.node → q ≡ Ok (end_edge s T.heads n.height n.node)

    pub opens_lost : (s : Side) (y : Fault) (r : Result Walk Fault) → Breached r → Told s (Err y) → Opens T o count r
    opens_lost s y r g a =
        opens_by r g (λ S t w. let c = ready_chain S n count t w s in absurd (err_ok y (end_edge s T.heads n.height n.node) (a c.0 c.1)))

    pub opens_done : (f g : Handle) → Told First (Ok f) → Told Last (Ok g) → Opens T o count (Ok (walk_of f g count))
    opens_done f g a b =
        opens_by (Ok (walk_of f g count)) tt
        (λ S t w.
        let c = ready_chain S n count t w First in
        let d = ready_chain S n count t w Last in
        ready_opened S n count t w f g (ok_is f (end_edge First T.heads n.height n.node) (a c.0 c.1)) (ok_is g (end_edge Last T.heads n.height n.node) (b d.0 d.1)))
