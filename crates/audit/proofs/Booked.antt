-- Trees and walks as books of places. Assumes nothing.
use Rattle.std.proofs.Common.{◌≡◌, ℕ, ◌+◌, ◌<◌, ◌≤◌, Bool, true, length, Option, Some, None, sym, refl, ap, ap₂, ◌∙◌, subst, arith, List}
use Rattle.std.specs.declared.cmp.Ordering.{Ordering}
use Rattle.node.specs.declared.ends.Side.TheVariants.{First}
use Rattle.node.specs.declared.head.Head.{Head}
use Rattle.node.specs.declared.nodes.NodeRef.{NodeRef}
use Rattle.node.specs.Laws.{occurs}
use Rattle.node.specs.Shape.{Tree, number, root_least}
use Rattle.node.specs.Store.{Tables, Sized, head_in}
use Rattle.node.proofs.Frames.{holds_node, held_low}
use Rattle.walk.specs.declared.walks.Walk.{Walk}
use Rattle.walk.specs.Climbs.{Tops}
use Rattle.walk.specs.Walks.{Nodeless}
use Rattle.walk.specs.Window.{Bounds, bounds, Shown}
use Rattle.walk.proofs.Framing.{shown_whole}
use Rattle.walk.proofs.Leaving.{tops_inside}
use Rattle.walk.proofs.Windows.{shown_pane}
use Rattle.books.specs.declared.places.Place.TheVariants as Kind
use Rattle.books.specs.Books.{Book, bare, planted, walked, idle, uses, TreeAt, WalkAt, BookAt, at_bare, at_tree, at_walk, at_idle}
use Rattle.audit.specs.declared.marks.Met.{Met}
use Rattle.audit.specs.Audits.{Marked, Unmarked, ancestor, node_ref, Leads, TreeSound, TreeWhole, PlaceSound}
use Rattle.audit.proofs.Showing.{lower}
use Rattle.audit.proofs.Tops.{tops, tops_none, ancestor_up}

abbrev pub whole_bounds : Bounds
whole_bounds = bounds None None

abbrev pub walk_bounds : Walk → Bounds
walk_bounds w = bounds (Some w.front) (Some w.back)

-- what the climb from the front of a walk answers
abbrev pub Climbed : List Head → Walk → Option NodeRef → Type 0
Climbed H w o = (n : ℕ) → 0 + n ≤ 5 → Tops H n w.front.node → Leads H n w.front.node (0 + n) o

module _ {K V : Type 0} (compares : K → K → Ordering) (T : Tables K V) (sz : Sized T) where
  -- ---- a tree

  pub tree_book : (root : NodeRef) (count : ℕ) (m m' : Met) → (head_in T.heads root.node).parent ≡ 65535 → TreeSound compares T whole_bounds root count m m' → PlaceSound compares T (Kind.Tree root count) m m'
  tree_book root count m m' e s =
      let t = s.0 in
      let w = s.1 in
      let h : ℕ = root.height in
      let v = (shown_whole T (root_least h) h t).1 w.shown in (
        sz,
        (
          planted h t,
          at_tree _ _ (record {
            root_is = ap (λ n. node_ref n h) (sym w.number_is);
            holds = v.holds;
            formed = v.within;
            rooted = ap (λ n. (head_in T.heads n).parent) w.number_is ∙ e;
            count_is = w.count_is;
            in_order = w.in_order;
          }),
          s.2,
        ),
      )

  -- what a book in the place of a tree says of its root
  pub record Planted (root : NodeRef) (count : ℕ) (m m' : Met) (r : Bool) (w : ℕ → ℕ) : Type 0 where
    pub low : root.height ≤ 5
    pub inside : root.node < length T.heads
    pub rooted : (head_in T.heads root.node).parent ≡ 65535
    pub whole : TreeWhole compares T whole_bounds root count m m' r → (r ≡ true) × Marked m m' w

  planted_at : (root : NodeRef) (count : ℕ) (m m' : Met) (r : Bool) (h : ℕ) (t : Tree (K × V)) → root.height ≡ h → TreeAt compares T root count h t → Unmarked m (λ x. occurs x h t) → Planted root count m m' r (λ x. occurs x h t)
  planted_at root count m m' r h t e w u =
      let n : root.node ≡ number t = ap (λ x. x.node) w.root_is in
      let low : h ≤ 5 = held_low T h t sz w.holds w.formed (λ x. omega (arith, u x)) in
      let show : Shown T (root_least h) whole_bounds h t = (shown_whole T (root_least h) h t).0 (record { holds = w.holds; within = w.formed }) in
      let At : ℕ → Type 0 = λ k. TreeWhole compares T whole_bounds (node_ref (number t) k) count m m' r → (r ≡ true) × Marked m m' (λ x. occurs x h t) in
      let at : At h = λ f. f t sz (record { number_is = refl; shown = show; count_is = w.count_is; in_order = w.in_order }) u in
      record {
        low = omega arith;
        inside = subst (λ n. n < length T.heads) (sym n) (holds_node T h t w.holds).inside;
        rooted = ap (λ n. (head_in T.heads n).parent) n ∙ w.rooted;
        whole = subst (λ root. TreeWhole compares T whole_bounds root count m m' r → (r ≡ true) × Marked m m' (λ x. occurs x h t)) (sym w.root_is) at;
      }

  pub planted_by : (root : NodeRef) (count : ℕ) (m m' : Met) (r : Bool) (b : Book (K × V)) → BookAt compares T (Kind.Tree root count) b → Unmarked m (λ x. uses x b) → Planted root count m m' r (λ x. uses x b)
  planted_by root count m m' r b (at_tree h t w) u = planted_at root count m m' r h t (ap (λ x. x.height) w.root_is) w u

  -- ---- a walk

  pub walk_book : (w : Walk) (root : NodeRef) (m m' : Met) → root.height ≤ 5 → (head_in T.heads root.node).parent ≡ 65535 → TreeSound compares T (walk_bounds w) root w.left m m' → PlaceSound compares T (Kind.Walk w) m m'
  walk_book w root m m' l e s =
      let v = s.1 in (
        sz,
        (
          walked root.height s.0,
          at_walk _ _ (record { low = l; shown = v.shown; rooted = ap (λ n. (head_in T.heads n).parent) v.number_is ∙ e; count_is = v.count_is; in_order = v.in_order }),
          s.2,
        ),
      )

  pub bare_place : (m : Met) → PlaceSound compares T Kind.Bare m m
  bare_place m = (sz, (bare, at_bare, λ x. omega arith))

  pub idle_book : (w : Walk) (m : Met) → Nodeless w → PlaceSound compares T (Kind.Walk w) m m
  idle_book w m e = (sz, (idle, at_idle e, λ x. omega arith))

  walk_tops : (w : Walk) (h : ℕ) (t : Tree (K × V)) → WalkAt compares T w h t → Tops T.heads h w.front.node
  walk_tops w h t v =
      let z : h + 0 ≡ h = omega arith in
      subst (λ n. Tops T.heads n w.front.node) z
      (tops T sz (root_least h) (walk_bounds w) h t First w.front v.shown refl 0 (tops_none T.heads (number t) (shown_pane T (root_least h) (walk_bounds w) h t v.shown).node_is.inside v.rooted))

  walk_not_idle : (w : Walk) (h : ℕ) (t : Tree (K × V)) → WalkAt compares T w h t → Nodeless w → ⊥
  walk_not_idle w h t v e =
      omega (arith, tops_inside T.heads h w.front.node (walk_tops w h t v), sz.most, e.front_null)

  -- a walk without nodes has no other book than that
  pub idle_whole : (w : Walk) (m : Met) (b : Book (K × V)) → Nodeless w → BookAt compares T (Kind.Walk w) b → Marked m m (λ x. uses x b)
  idle_whole w m b e (at_walk h t v) = absurd (walk_not_idle w h t v e)
  idle_whole w m b e (at_idle v) = λ x. omega arith

  walk_root : (w : Walk) (h : ℕ) (t : Tree (K × V)) → WalkAt compares T w h t → ancestor T.heads h w.front.node ≡ number t
  walk_root w h t v = ancestor_up T.heads h w.front ∙ (lower T (root_least h) (walk_bounds w) h t First w.front v.shown refl).node_is

  walk_leads : (w : Walk) (o : Option NodeRef) (h : ℕ) (t : Tree (K × V)) → WalkAt compares T w h t → Climbed T.heads w o → o ≡ Some (node_ref (number t) h)
  walk_leads w o h t v f =
      let z : 0 + h ≡ h = omega arith in
      f h (omega (arith, v.low)) (walk_tops w h t v) ∙ ap₂ (λ n k. Some (node_ref n k)) (walk_root w h t v) z

  pub record Walked (w : Walk) (o : Option NodeRef) (m m' : Met) (r : Bool) (v : ℕ → ℕ) : Type 0 where
    pub root : NodeRef
    pub leads : o ≡ Some root
    pub whole : TreeWhole compares T (walk_bounds w) root w.left m m' r → (r ≡ true) × Marked m m' v

  pub walked_by : (w : Walk) (o : Option NodeRef) (m m' : Met) (r : Bool) (b : Book (K × V)) → (Nodeless w → ⊥) → Climbed T.heads w o → BookAt compares T (Kind.Walk w) b → Unmarked m (λ x. uses x b) → Walked w o m m' r (λ x. uses x b)
  walked_by w o m m' r b n f (at_walk h t v) u = record {
    root = node_ref (number t) h;
    leads = walk_leads w o h t v f;
    whole = λ g. g t sz (record { number_is = refl; shown = v.shown; count_is = v.count_is; in_order = v.in_order }) u;
  }
  walked_by w o m m' r b n f (at_idle v) u = absurd (n v)
