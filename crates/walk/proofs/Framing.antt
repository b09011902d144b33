-- A change elsewhere leaves a walk as it is. Assumes nothing.
use Rattle.std.proofs.Common.{◌≡◌, ℕ, zero, suc, ◌<◌, ◌≤◌, List, [], ◌∷◌, ◌++◌, length, None, All, sym, refl, ap, ◌∙◌, subst, append-nil, arith, length-append}
use lib.ListN.{length-map}
use Rattle.std.proofs.lemmas.List.Elements.{All-nil, All-cons, All-head, All-tail, All-weaker}
use Rattle.std.proofs.lemmas.List.{nil_from_length}
use Rattle.node.specs.declared.ends.Side.TheVariants.{First, Last}
use Rattle.node.specs.Laws.{occurs, below}
use Rattle.node.specs.Shape.{Tree, number, row, kids, Within}
use Rattle.node.specs.Store.{Tables, Node, Linked, SameBody, SameLink, Holds, numbers}
use Rattle.node.proofs.Balances.{beside_sized}
use Rattle.node.proofs.Frames.{node_same, linked_same}
use Rattle.node.proofs.Numbers.{occurs_root, occurs_below, tops_occur}
use Rattle.node.proofs.Weaves.{total_each}
use Rattle.walk.specs.Laws.{ShownFrame, Whole, ShownWhole, WalkBeside}
use Rattle.walk.specs.Window.{Bounds, bounds, only, Pane, Leafs, Inner, Among, Shown}
use Rattle.walk.proofs.Opening.{whole_shown}
use Rattle.walk.proofs.Windows.{shown_leaf, leaf_shown, shown_inner, shown_kids, inner_shown}

among_both : {X : Type 0} (P Q : Bounds → X → Type 0) (R : X → Type 0) → ((c : Bounds) (k : X) → R k → P c k → Q c k) → (b : Bounds) (ks : List X) → All R ks → Among P b ks → Among Q b ks
among_both P Q R f b [] r a = tt
among_both P Q R f b (k ∷ []) r a = f b k (All-head R k [] r) a
among_both P Q R f b (k ∷ (k' ∷ ks)) r a = (f (only First b) k (All-head R k (k' ∷ ks) r) a.0, among_both P Q R f (only Last b) (k' ∷ ks) (All-tail R k (k' ∷ ks) r) a.1)

module _ {K V : Type 0} (T T' : Tables K V) (same_size : length T'.heads ≡ length T.heads) where
  pane_same : (least : ℕ) (b : Bounds) (t : Tree (K × V)) → SameBody T T' (number t) → Pane T least b t → Pane T' least b t
  pane_same least b t s p = record {
    us = p.us;
    vs = p.vs;
    ks = p.ks;
    ls = p.ls;
    node_is = node_same T T' (number t) (p.us ++ (row t ++ p.vs)) (p.ks ++ (numbers t ++ p.ls)) same_size s p.node_is;
    enough = p.enough;
    whole = p.whole;
  }

  leaf_same : (least : ℕ) (b : Bounds) (t : Tree (K × V)) → SameBody T T' (number t) → Leafs T least b t → Leafs T' least b t
  unfolding pane_same
  leaf_same least b t s w = record { pane = pane_same least b t s w.pane; bare = w.bare; no_edges = w.no_edges; here = w.here }

  inner_same : (least : ℕ) (b : Bounds) (h : ℕ) (t : Tree (K × V)) → SameBody T T' (number t) → ((x : ℕ) → 0 < below x (suc h) t → SameLink T T' x) → Inner T least b t → Inner T' least b t
  unfolding pane_same
  inner_same least b h t s g w = record {
    pane = pane_same least b t s w.pane;
    fan = w.fan;
    before = w.before;
    behind = w.behind;
    linked = linked_same T T' (number t) (length w.pane.us) (numbers t) (λ x p. g x (omega (arith, tops_occur x h (kids t)))) w.linked;
  }

  shown_same : (least : ℕ) (b : Bounds) (h : ℕ) (t : Tree (K × V)) → ((x : ℕ) → 0 < occurs x h t → SameBody T T' x) → ((x : ℕ) → 0 < below x h t → SameLink T T' x) → Shown T least b h t → Shown T' least b h t
  shown_same least b zero t f g w = leaf_shown T' least b t (leaf_same least b t (f (number t) (occurs_root zero t)) (shown_leaf T least b t w))
  shown_same least b (suc h) t f g w =
      inner_shown T' least b h t (inner_same least b h t (f (number t) (occurs_root (suc h) t)) g (shown_inner T least b h t w))
      (among_both (λ c k. Shown T 4 c h k) (λ c k. Shown T' 4 c h k) (λ k. (x : ℕ) → occurs x h k ≤ below x (suc h) t)
      (λ c k o v. shown_same 4 c h k (λ x p. f x (omega (arith, o x, occurs_below x (suc h) t))) (λ x p. g x (omega (arith, o x, occurs_below x h k))) v)
      b (kids t) (total_each (λ x. occurs x h) (kids t)) (shown_kids T least b h t w))

module _ {K V : Type 0} where
  pub shown_frame : ShownFrame K V
  shown_frame T T' least b h t e f g w = shown_same T T' e least b h t f g w

  pub walk_beside : WalkBeside K V
  walk_beside T T' S S' f g h t w b c o v = record {
    sized = beside_sized T T' S f b v.sized;
    fits = c.size ∙ v.fits ∙ sym b.heads_len;
    low = v.low;
    shown = shown_same T T' b.heads_len _ _ h t (λ x p. b.bodies x (omega (arith, o x))) (λ x p. b.links x (omega (arith, o x, occurs_below x h t))) v.shown;
    owned = λ x. omega (arith, o x, c.marks x);
    rooted = (b.links (number t) (omega (arith, o (number t), occurs_root h t))).parent_same ∙ v.rooted;
    counted = v.counted;
  }

-- ---- between no edges

abbrev unbounded : Bounds
unbounded = bounds None None

bare : {X : Type 0} (us xs vs : List X) → length us ≡ 0 → length vs ≡ 0 → us ++ (xs ++ vs) ≡ xs
bare us xs vs p q = ap (λ u. u ++ (xs ++ vs)) (nil_from_length us p) ∙ ap (λ v. xs ++ v) (nil_from_length vs q) ∙ append-nil xs

module _ {K V : Type 0} (T : Tables K V) where
  whole_row : (least : ℕ) (t : Tree (K × V)) (p : Pane T least unbounded t) → p.us ++ (row t ++ p.vs) ≡ row t
  whole_row least t p = bare p.us (row t) p.vs (p.whole First refl) (p.whole Last refl)

  holds_leaf : (least : ℕ) (t : Tree (K × V)) → Leafs T least unbounded t → Whole T least zero t
  unfolding Holds Within
  holds_leaf least t w =
      let p = w.pane in
      let rows = whole_row least t p in
      let none : p.ks ++ (numbers t ++ p.ls) ≡ [] =
      nil_from_length (p.ks ++ (numbers t ++ p.ls)) (omega (arith, length-append p.ks (numbers t ++ p.ls), length-append (numbers t) p.ls, length-map (kids t) number, w.bare, w.no_edges)) in
      let n : Node T (number t) (row t) [] = subst (λ es. Node T (number t) es []) rows (subst (λ cs. Node T (number t) (p.us ++ (row t ++ p.vs)) cs) none p.node_is) in
      record { holds = (n, w.bare); within = (subst (λ es. least ≤ length es) rows p.enough, n.few, w.bare) }

  holds_inner : (least h : ℕ) (t : Tree (K × V)) → Inner T least unbounded t → All (Whole T 4 h) (kids t) → Whole T least (suc h) t
  unfolding Holds Within
  holds_inner least h t w a =
      let p = w.pane in
      let rows = whole_row least t p in
      let edges : p.ks ++ (numbers t ++ p.ls) ≡ numbers t = bare p.ks (numbers t) p.ls (w.before ∙ p.whole First refl) (w.behind ∙ p.whole Last refl) in
      let n : Node T (number t) (row t) (numbers t) = subst (λ es. Node T (number t) es (numbers t)) rows (subst (λ cs. Node T (number t) (p.us ++ (row t ++ p.vs)) cs) edges p.node_is) in
      record {
        holds = (n, w.fan, subst (λ i. Linked T (number t) i (numbers t)) (p.whole First refl) w.linked, All-weaker (Whole T 4 h) (Holds T h) (λ k v. v.holds) (kids t) a);
        within = (subst (λ es. least ≤ length es) rows p.enough, n.few, w.fan, All-weaker (Whole T 4 h) (Within 4 h) (λ k v. v.within) (kids t) a);
      }

  among_unbounded : {X : Type 0} (P : Bounds → X → Type 0) (Q : X → Type 0) → ((k : X) → P unbounded k → Q k) → (ks : List X) → Among P unbounded ks → All Q ks
  among_unbounded P Q f [] a = All-nil Q
  among_unbounded P Q f (k ∷ []) a = All-cons Q k [] (f k a) (All-nil Q)
  among_unbounded P Q f (k ∷ (k' ∷ ks)) a = All-cons Q k (k' ∷ ks) (f k a.0) (among_unbounded P Q f (k' ∷ ks) a.1)

  shown_holds : (least h : ℕ) (t : Tree (K × V)) → Shown T least unbounded h t → Whole T least h t
  shown_holds least zero t w = holds_leaf least t (shown_leaf T least unbounded t w)
  shown_holds least (suc h) t w =
      holds_inner least h t (shown_inner T least unbounded h t w) (among_unbounded (λ c k. Shown T 4 c h k) (Whole T 4 h) (λ k v. shown_holds 4 h k v) (kids t) (shown_kids T least unbounded h t w))

pub shown_whole : {K V : Type 0} → ShownWhole K V
shown_whole T least h t = ((λ w. whole_shown T least h t w.holds w.within), shown_holds T least h t)
