-- The way of a step through a tree shown between two edges. Assumes nothing.
use Rattle.std.proofs.Common.{◌≡◌, ℕ, zero, suc, ◌+◌, ◌<◌, ◌≤◌, List, [], ◌∷◌, ◌++◌, map, length, Some, None, All, sym, refl, ap, ◌∙◌, subst, ap₂, inl, inr, arith}
use Rattle.std.proofs.lemmas.List.Elements.{All-nil, All-cons, All-append}
use Rattle.std.proofs.lemmas.List.{nil_from_length}
use Rattle.node.specs.declared.head.Head.{Head}
use Rattle.node.specs.declared.ends.Handle.{Handle}
use Rattle.node.specs.declared.ends.Side.{Side}
use Rattle.node.specs.Counts.{Stands}
use Rattle.node.specs.Ends.{end_below, end_leaf, end_edge, Chain}
use Rattle.node.specs.Laws.{occurs}
use Rattle.node.specs.Links.{edge}
use Rattle.node.specs.Shape.{Tree, Forest, node, none, more, trees, forest, number, row, kids, mk, total}
use Rattle.node.specs.Store.{Tables, Sized, Node, numbers, head_in, times}
use Rattle.node.proofs.Adopts.{times_append}
use Rattle.node.proofs.Numbers.{occurs_parts, occurs_mk}
use Rattle.walk.specs.Steps.{other, cons, step}
use Rattle.walk.specs.Climbs.{handle, spot, up, up_from, ups, onward, Edged, Past, Found, Tops}
use Rattle.walk.specs.Window.{Bounds, bound, put, only, edge_at, Pane, Leafs, Inner, Among, Shown}
use Rattle.walk.proofs.Climbing.{At, up_last, ups_last, past_last}
use Rattle.walk.proofs.Panes.{pane_edged, pane_past, pane_here, pane_entry, pane_end, ahead, beyond, ahead_length, onward_after, inner_link, inner_edge, inner_put, inner_after, leaf_put, leaf_after, kids_mk}
use Rattle.walk.proofs.Stepping.{Under, inside, above, length_cons, map_cons, total_cons, ends, row_some, row_none, step_some, step_none, step_leaf, some_kid}
use Rattle.walk.proofs.Windows.{EndKid, end_kid, only_none, put_other, shown_leaf, leaf_shown, shown_inner, shown_kids, inner_shown, shown_pane}

forest_trees : {E : Type 0} (f : Forest E) → forest (trees f) ≡ f
forest_trees none = refl
forest_trees (more t f) = ap (more t) (forest_trees f)

mk_self : {E : Type 0} (t : Tree E) → mk (number t) (row t) (kids t) ≡ t
mk_self (node m es f) = ap (node m es) (forest_trees f)

module _ {K V : Type 0} (T : Tables K V) (s : Side) where
  abbrev Hs : List Head
  Hs = T.heads

  abbrev Kid : ℕ → Bounds → Tree (K × V) → Type 0
  Kid h b k = Shown T 4 b h k

  -- ---- a tree in which nothing is left: the nodes from its edge up to its top are all that it has

  pub record Exhausted (b : Bounds) (h : ℕ) (t : Tree (K × V)) (e : Handle) : Type 0 where
    pub i : ℕ
    pub top_is : up_from Hs h e ≡ handle (number t) i
    pub gone : (x : ℕ) → times x (ups Hs (suc h) e.node) ≡ occurs x h t
    pub lie : All (λ x. x < length Hs) (ups Hs (suc h) e.node)
    pub tops : (n : ℕ) → Tops Hs n (number t) → Tops Hs (h + n) e.node
    pub past : bound (other s) b ≡ None → Past s Hs (suc h) e

  exhausted_at : (least : ℕ) (b : Bounds) (t : Tree (K × V)) (w : Leafs T least b t) → row t ≡ [] → Exhausted b zero t (handle (number t) (edge_at s (length w.pane.us) (length (row t))))
  unfolding up_from ups Past
  exhausted_at least b t w q = record {
    i = edge_at s (length w.pane.us) (length (row t));
    top_is = refl;
    gone = λ x. omega (arith, occurs_parts x zero t);
    lie = All-cons (λ x. x < length Hs) (number t) [] w.pane.node_is.inside (All-nil (λ x. x < length Hs));
    tops = λ n v. let z : n ≡ 0 + n = omega arith in subst (λ k. Tops Hs k (number t)) z v;
    past = λ o. (pane_edged T least b t w.pane s, pane_past T least b t w.pane s o q, tt);
  }

  tops_up : (n m p : ℕ) → m < length Hs → (head_in Hs m).parent ≡ p → p < 65535 → Tops Hs n p → Tops Hs (suc n) m
  unfolding Tops
  tops_up n m p l q o v = (l, omega arith, subst (λ x. Tops Hs n x) (sym q) v)

  exhausted_more : Sized T → (least : ℕ) (b : Bounds) (h : ℕ) (t k : Tree (K × V)) (e : Handle) (w : Inner T least b t) → kids t ≡ cons s k [] → row t ≡ [] → number k < length Hs → Exhausted b h k e → Exhausted b (suc h) t e
  exhausted_more sz least b h t k e w q r kin x =
      let i : ℕ = edge_at s (length w.pane.us) (length (row t)) in
      let l = inner_link T least b t w s k [] q in
      let top : up_from Hs (suc h) e ≡ handle (number t) i = up_last s Hs h e ∙ ap (up Hs) x.top_is ∙ ap₂ handle l.parent_is l.place_is in
      let more : ups Hs (suc (suc h)) e.node ≡ ups Hs (suc h) e.node ++ number t ∷ [] = ups_last s Hs (suc h) e ∙ ap (λ f. ups Hs (suc h) e.node ++ f.node ∷ []) top in
      record {
        i = i;
        top_is = top;
        gone = λ y. omega (arith, ap (times y) more, times_append y (ups Hs (suc h) e.node) (number t ∷ []), x.gone y, occurs_parts y (suc h) t, ap (total (occurs y h)) q, total_cons (occurs y h) s k []);
        lie = subst (λ xs. All (λ x. x < length Hs) xs) (sym more) (All-append (λ x. x < length Hs) (ups Hs (suc h) e.node) (number t ∷ []) x.lie (All-cons (λ x. x < length Hs) (number t) [] w.pane.node_is.inside (All-nil (λ x. x < length Hs))));
        tops = λ n v.
            let z : h + suc n ≡ suc h + n = omega arith in
            subst (λ j. Tops Hs j e.node) z (x.tops (suc n) (tops_up n (number k) (number t) kin l.parent_is (omega (arith, w.pane.node_is.inside, sz.most)) v));
        past = λ o.
            past_last s Hs (suc h) e (x.past o) (subst (Edged Hs) (sym top) (pane_edged T least b t w.pane s))
            (subst (λ f. At s Hs f None) (sym top) (pane_past T least b t w.pane s o r));
      }

  one_kid : (h : ℕ) (t k : Tree (K × V)) (ks : List (Tree (K × V))) → length (kids t) ≡ suc (length (row t)) → kids t ≡ cons s k ks → row t ≡ [] → length ks ≡ 0
  one_kid h t k ks f q r = omega (arith, ap length q, length_cons s k ks, ap length r)

  pub exhausted : Sized T → (least : ℕ) (b : Bounds) (h : ℕ) (t : Tree (K × V)) (e : Handle) → Shown T least b h t → bound s b ≡ Some e → step s h t ≡ None → Exhausted b h t e
  exhausted sz least b zero t e w q n =
      let l = shown_leaf T least b t w in
      let r : row t ≡ [] = row_none s (number t) (kids t) (row t) (sym (step_leaf s t) ∙ n) in
      subst (λ f. Exhausted b zero t f) (sym (l.here s e q)) (exhausted_at least b t l r)
  exhausted sz least b (suc h) t e w q n =
      let i = shown_inner T least b h t w in
      let p = some_kid s h t i.fan in
      let k : Tree (K × V) = p.0 in
      let ks : List (Tree (K × V)) = p.1 in
      let m = step_none s h t k ks p.2 n in
      let z : length ks ≡ 0 = one_kid h t k ks i.fan p.2 m.1 in
      let d = end_kid (Kid h) s b k ks (subst (λ r. Among (Kid h) b r) p.2 (shown_kids T least b h t w)) in
      let y : Kid h b k = subst (λ c. Kid h c k) (d.alone z) d.kid in
      exhausted_more sz least b h t k e i (p.2 ∙ ap (cons s k) (nil_from_length ks z)) m.1 (shown_pane T 4 b h k y).node_is.inside (exhausted sz 4 b h k e y q m.0)

  -- ---- a tree that is entered at an end

  pub record Entered (least : ℕ) (b : Bounds) (h : ℕ) (t : Tree (K × V)) : Type 0 where
    pub chain : Chain s Hs h (number t)
    pub shown : Shown T least (put s (Some (end_edge s Hs h (number t))) b) h t

  pane_stands : (least : ℕ) (b : Bounds) (t : Tree (K × V)) → Pane T least b t → Stands Hs (number t)
  pane_stands least b t p = record { inside = p.node_is.inside; few = omega (arith, p.node_is.few, p.node_is.len_is) }

  entered_leaf : (least : ℕ) (b : Bounds) (t : Tree (K × V)) → Leafs T least b t → bound s b ≡ None → Entered least b zero t
  unfolding Chain end_leaf
  entered_leaf least b t w q = record {
    chain = pane_stands least b t w.pane;
    shown = leaf_shown T least (put s (Some (end_edge s Hs zero (number t))) b) t (leaf_put T least b t w s (end_edge s Hs zero (number t)) (ap (handle (number t)) (pane_end T least b t w.pane s q)));
  }

  chain_more : (h m x : ℕ) → Stands Hs m → end_below s Hs m ≡ x → Chain s Hs h x → Chain s Hs (suc h) m × (end_edge s Hs (suc h) m ≡ end_edge s Hs h x)
  unfolding Chain end_leaf
  chain_more h m x w q v = ((w, subst (λ y. Chain s Hs h y) (sym q) v), ap (λ y. end_edge s Hs h y) q)

  entered_more : (least : ℕ) (b : Bounds) (h : ℕ) (t k : Tree (K × V)) (ks : List (Tree (K × V))) → Inner T least b t → kids t ≡ cons s k ks → (d : EndKid (Kid h) s b k ks) → bound s b ≡ None → Entered 4 d.c h k → Entered least b (suc h) t
  entered_more least b h t k ks w q d n x =
      let under : end_below s Hs (number t) ≡ number k = ap (edge Hs (number t)) (pane_end T least b t w.pane s n) ∙ inner_edge T least b t w s k ks q in
      let f : Handle = end_edge s Hs h (number k) in
      let c = chain_more h (number t) (number k) (pane_stands least b t w.pane) under x.chain in
      let same : mk (number t) (row t) (kids t) ≡ t = mk_self t in
      record {
        chain = c.0;
        shown = subst (λ g. Shown T least (put s (Some g) b) (suc h) t) (sym c.1)
            (inner_shown T least (put s (Some f) b) h t
            (subst (λ u. Inner T least (put s (Some f) b) u) same (inner_put T least b t w s f (kids t) refl))
            (subst (λ r. Among (Kid h) (put s (Some f) b) r) (sym q) (d.rebuild (Some f) k x.shown)));
      }

  pub entered : (least : ℕ) (b : Bounds) (h : ℕ) (t : Tree (K × V)) → Shown T least b h t → bound s b ≡ None → Entered least b h t
  entered least b zero t w q = entered_leaf least b t (shown_leaf T least b t w) q
  entered least b (suc h) t w q =
      let i = shown_inner T least b h t w in
      let p = some_kid s h t i.fan in
      let d = end_kid (Kid h) s b p.0 p.1 (subst (λ r. Among (Kid h) b r) p.2 (shown_kids T least b h t w)) in
      entered_more least b h t p.0 p.1 i p.2 d q (entered 4 d.c h p.0 d.kid (d.bound_same ∙ q))

  -- ---- a step: up to the entry, and on to the next edge

  pub record Goes (least : ℕ) (b : Bounds) (h : ℕ) (t : Tree (K × V)) (e : Handle) (x : K × V) (t' : Tree (K × V)) : Type 0 where
    pub n : ℕ
    pub low : n ≤ h
    pub m : ℕ
    pub i : ℕ
    pub past : Past s Hs n e
    pub found : (l : ℕ) → Found s Hs (up_from Hs n e) (spot m i l)
    pub us : List (K × V)
    pub vs : List (K × V)
    pub cs : List ℕ
    pub entry : Node T m (us ++ x ∷ vs) cs
    pub entry_at : length us ≡ i
    pub gone : (y : ℕ) → times y (ups Hs n e.node) + occurs y h t' ≡ occurs y h t
    pub lie : All (λ x. x < length Hs) (ups Hs n e.node)
    pub f : Handle
    pub next_here : n ≡ 0 → f ≡ handle m (onward s i)
    pub next_below : (j : ℕ) → n ≡ suc j → Chain s Hs j (edge Hs m (onward s i)) × (f ≡ end_edge s Hs j (edge Hs m (onward s i)))
    pub number_same : number t' ≡ number t
    pub shown : Shown T least (put s (Some f) b) h t'

  goes_leaf : (least : ℕ) (b : Bounds) (t : Tree (K × V)) (x : K × V) (es : List (K × V)) (w : Leafs T least b t) → row t ≡ cons s x es
      → Goes least b zero t (handle (number t) (edge_at s (length w.pane.us) (length (row t)))) x (mk (number t) es (kids t))
  unfolding Past up_from ups
  goes_leaf least b t x es w q =
      let p = w.pane in
      let i : ℕ = edge_at s (length p.us) (length es) in
      let g : Handle = handle (number t) (onward s i) in
      record {
        n = 0;
        low = omega arith;
        m = number t;
        i = i;
        past = tt;
        found = λ l. record { edged = pane_edged T least b t p s; node_is = refl; entry_is = pane_here T least b t p s x es q };
        us = ahead s p.us es;
        vs = beyond s p.vs es;
        cs = p.ks ++ (numbers t ++ p.ls);
        entry = pane_entry T least b t p s x es q;
        entry_at = ahead_length s p.us es;
        gone = λ y. omega (arith, occurs_parts y zero t, occurs_parts y zero (mk (number t) es (kids t)));
        lie = All-nil (λ x. x < length Hs);
        f = g;
        next_here = λ _. refl;
        next_below = λ j z. absurd (omega arith);
        number_same = refl;
        shown = leaf_shown T least (put s (Some g) b) (mk (number t) es (kids t)) (leaf_after T least b t w s x es g q (ap (handle (number t)) (onward_after s p.us x (length es))));
      }

  goes_inside : (least : ℕ) (b : Bounds) (h : ℕ) (t k : Tree (K × V)) (ks : List (Tree (K × V))) (e : Handle) (x : K × V) (k' : Tree (K × V)) → Inner T least b t → kids t ≡ cons s k ks
      → (d : EndKid (Kid h) s b k ks) → Goes 4 d.c h k e x k' → Goes least b (suc h) t e x (mk (number t) (row t) (cons s k' ks))
  goes_inside least b h t k ks e x k' w q d r =
      let t' : Tree (K × V) = mk (number t) (row t) (cons s k' ks) in
      let same : map number (cons s k' ks) ≡ numbers t = map_cons number s k' ks ∙ ap (λ c. cons s c (map number ks)) r.number_same ∙ sym (map_cons number s k ks) ∙ ap (map number) (sym q) in
      record {
        n = r.n;
        low = omega (arith, r.low);
        m = r.m;
        i = r.i;
        past = r.past;
        found = r.found;
        us = r.us;
        vs = r.vs;
        cs = r.cs;
        entry = r.entry;
        entry_at = r.entry_at;
        gone = λ y.
            omega (
              arith,
              r.gone y,
              occurs_mk y h (number t) (row t) (cons s k' ks),
              total_cons (occurs y h) s k' ks,
              occurs_parts y (suc h) t,
              ap (total (occurs y h)) q,
              total_cons (occurs y h) s k ks,
            );
        lie = r.lie;
        f = r.f;
        next_here = r.next_here;
        next_below = r.next_below;
        number_same = refl;
        shown = inner_shown T least (put s (Some r.f) b) h t' (inner_put T least b t w s r.f (cons s k' ks) same)
            (subst (λ c. Among (Kid h) (put s (Some r.f) b) c) (sym (kids_mk (number t) (row t) (cons s k' ks))) (d.rebuild (Some r.f) k' r.shown));
      }

  goes_above : (least : ℕ) (b : Bounds) (h : ℕ) (t k : Tree (K × V)) (ks : List (Tree (K × V))) (e : Handle) (x : K × V) (es : List (K × V)) (w : Inner T least b t) → kids t ≡ cons s k ks → row t ≡ cons s x es
      → (d : EndKid (Kid h) s b k ks) → Exhausted d.c h k e → Goes least b (suc h) t e x (mk (number t) es ks)
  goes_above least b h t k ks e x es w q r d u =
      let p = w.pane in
      let some : 0 < length ks = omega (arith, w.fan, ap length q, length_cons s k ks, ap length r, length_cons s x es) in
      let rest = d.others some in
      let i : ℕ = edge_at s (length p.us) (length es) in
      let l = inner_link T least b t w s k ks q in
      let here : Handle = handle (number t) (edge_at s (length p.us) (length (row t))) in
      let top : up_from Hs (suc h) e ≡ here = up_last s Hs h e ∙ ap (up Hs) u.top_is ∙ ap₂ handle l.parent_is l.place_is in
      let v = next_kid ks some in
      let k₂ : Tree (K × V) = v.0 in
      let ks₂ : List (Tree (K × V)) = v.1 in
      let b₂ : Bounds = only (other s) b in
      let d₂ = end_kid (Kid h) s b₂ k₂ ks₂ (subst (λ c. Among (Kid h) b₂ c) v.2 rest.1) in
      let n₂ = entered 4 d₂.c h k₂ d₂.kid (d₂.bound_same ∙ only_none s b) in
      let g : Handle = end_edge s Hs h (number k₂) in
      let t' : Tree (K × V) = mk (number t) es ks in
      let j = inner_after T least b t w s x es k ks g r q in
      let under : edge Hs (number t) (onward s i) ≡ number k₂ =
      ap (edge Hs (number t)) (onward_after s p.us x (length es) ∙ ap (λ a. edge_at s a (length es)) (sym j.1)) ∙ inner_edge T least (put s (Some g) b) t' j.0 s k₂ ks₂ (kids_mk (number t) es ks ∙ v.2) in
      record {
        n = suc h;
        low = omega arith;
        m = number t;
        i = i;
        past = u.past rest.0;
        found = λ a. subst (λ c. Found s Hs c (spot (number t) i a)) (sym top) (record { edged = pane_edged T least b t p s; node_is = refl; entry_is = pane_here T least b t p s x es r });
        us = ahead s p.us es;
        vs = beyond s p.vs es;
        cs = p.ks ++ (numbers t ++ p.ls);
        entry = pane_entry T least b t p s x es r;
        entry_at = ahead_length s p.us es;
        gone = λ y.
            omega (
              arith,
              u.gone y,
              occurs_mk y h (number t) es ks,
              occurs_parts y (suc h) t,
              ap (total (occurs y h)) q,
              total_cons (occurs y h) s k ks,
            );
        lie = u.lie;
        f = g;
        next_here = λ z. absurd (omega arith);
        next_below = λ a z.
            let y : h ≡ a = omega arith in
            subst (λ c. Chain s Hs c (edge Hs (number t) (onward s i)) × (g ≡ end_edge s Hs c (edge Hs (number t) (onward s i)))) y
            (subst (λ c. Chain s Hs h c) (sym under) n₂.chain, ap (λ c. end_edge s Hs h c) (sym under));
        number_same = refl;
        shown = inner_shown T least (put s (Some g) b) h t' j.0
            (subst (λ c. Among (Kid h) (put s (Some g) b) c) (sym (kids_mk (number t) es ks ∙ v.2))
            (subst (λ c. Among (Kid h) c (cons s k₂ ks₂)) (put_other s (Some g) b) (d₂.rebuild (Some g) k₂ n₂.shown)));
      }
    where
      next_kid : (ks : List (Tree (K × V))) → 0 < length ks → (k : Tree (K × V)) × (ls : List (Tree (K × V))) × (ks ≡ cons s k ls)
      next_kid ks l = elim (ends s ks) [ inl e ↦ absurd (omega (arith, ap length e)) | inr p ↦ p ]

  goes_under : Sized T → (least : ℕ) (b : Bounds) (h : ℕ) (t k : Tree (K × V)) (ks : List (Tree (K × V))) (e : Handle) (x : K × V) (t' : Tree (K × V)) → Inner T least b t → kids t ≡ cons s k ks
      → (d : EndKid (Kid h) s b k ks) → bound s b ≡ Some e → ((k' : Tree (K × V)) → step s h k ≡ Some (x, k') → Goes 4 d.c h k e x k') → Under s t k ks x t' (step s h k) → Goes least b (suc h) t e x t'
  goes_under sz least b h t k ks e x t' w q d o ih (inside k' a z) = subst (λ u. Goes least b (suc h) t e x u) (sym z) (goes_inside least b h t k ks e x k' w q d (ih k' a))
  goes_under sz least b h t k ks e x t' w q d o ih (above es a r z) =
      subst (λ u. Goes least b (suc h) t e x u) (sym z) (goes_above least b h t k ks e x es w q r d (exhausted sz 4 d.c h k e d.kid (d.bound_same ∙ o) a))

  pub goes : Sized T → (least : ℕ) (b : Bounds) (h : ℕ) (t : Tree (K × V)) (e : Handle) (x : K × V) (t' : Tree (K × V)) → Shown T least b h t → bound s b ≡ Some e → step s h t ≡ Some (x, t') → Goes least b h t e x t'
  goes sz least b zero t e x t' w q a =
      let l = shown_leaf T least b t w in
      let r = row_some s (number t) (kids t) (row t) x t' (sym (step_leaf s t) ∙ a) in
      subst (λ u. Goes least b zero t e x u) (sym r.2) (subst (λ g. Goes least b zero t g x (mk (number t) r.0 (kids t))) (sym (l.here s e q)) (goes_leaf least b t x r.0 l r.1))
  goes sz least b (suc h) t e x t' w q a =
      let i = shown_inner T least b h t w in
      let p = some_kid s h t i.fan in
      let d = end_kid (Kid h) s b p.0 p.1 (subst (λ r. Among (Kid h) b r) p.2 (shown_kids T least b h t w)) in
      goes_under sz least b h t p.0 p.1 e x t' i p.2 d q (λ k' o. goes sz 4 d.c h p.0 e x k' d.kid (d.bound_same ∙ q) o) (step_some s h t p.0 p.1 x t' p.2 a)
