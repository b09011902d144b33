-- A pass over a tree that is shown, of nodes that were not met, is without fault. Assumes nothing.
use Rattle.std.proofs.Common.{◌≡◌, ℕ, zero, suc, ◌+◌, ◌-◌, ◌*◌, ◌<◌, List, [], ◌∷◌, ◌++◌, map, length, get_or, Some, None, Option, sym, refl, ap, ap₂, ◌∙◌, subst, arith, length-append}
use lib.ListN.{length-map}
use Rattle.std.proofs.lemmas.List.{map-append}
use Rattle.std.specs.declared.cmp.Ordering.{Ordering}
use Rattle.node.specs.declared.head.Head.{Head}
use Rattle.node.specs.declared.ends.Handle.{Handle}
use Rattle.node.specs.declared.ends.Side.{Side}
use Rattle.node.specs.declared.ends.Side.TheVariants.{First, Last}
use Rattle.node.specs.Cells.{span, Run}
use Rattle.node.specs.Laws.{same, occurs}
use Rattle.node.specs.Links.{edge}
use Rattle.node.specs.Shape.{Tree, number, row, kids, flat, weave, total}
use Rattle.node.specs.Store.{Tables, Sized, Link, Linked, head_in, head_at, numbers, first, itself}
use Rattle.node.proofs.Frames.{linked_parts}
use Rattle.node.proofs.Numbers.{occurs_parts, occurs_root}
use Rattle.node.proofs.Runs.{run_parts, run_inside}
use Rattle.node.proofs.Spans.{span_at}
use Rattle.walk.specs.Climbs.{handle, up, up_from}
use Rattle.walk.specs.Steps.{cons}
use Rattle.walk.specs.Window.{Bounds, bound, only, edge_at, Pane, Leafs, Inner, Among, Shown}
use Rattle.walk.proofs.Climbing.{up_last}
use Rattle.walk.proofs.Panes.{pane_len, inner_link}
use Rattle.walk.proofs.Stepping.{some_kid}
use Rattle.walk.proofs.Windows.{end_kid, shown_leaf, shown_inner, shown_kids, shown_pane}
use Rattle.audit.specs.Runs.{Notes}
use Rattle.audit.specs.Marks.{Unmet}
use Rattle.audit.specs.Passes.{keys_of, Trail, Climbable, Under, index_in, begins, ends, Fits, Led, marked, stepped, pass, Steps, Passable}
use Rattle.audit.proofs.Passing.{moved, Kid, after, leaf_passable, above_passable, pass_leaf, pass_above, one_steps, more_steps, stepped_one, stepped_more}
use Rattle.audit.proofs.Taken.{took_leaf, took_one, took_more, took_above}
use Rattle.audit.proofs.Taking.{Took, Free, took_mark, took_keys, free_as, free_front, free_back, weight_unmet}

-- ---- the way up from an edge

module _ (H : List Head) where
  climb_last : (n : ℕ) (e : Handle) → Climbable H n e → (up_from H n e).node < length H → Climbable H (suc n) e
  unfolding Climbable up_from
  climb_last zero e c l = (l, tt)
  climb_last (suc n) e c l = (c.0, climb_last n (up H e) c.1 l)

  climb_none : (e : Handle) → Climbable H zero e
  unfolding Climbable
  climb_none e = tt

  up_none : (e : Handle) → up_from H zero e ≡ e
  unfolding up_from
  up_none e = refl

  -- from an edge that leads to edge i of node m
  pub record Up (h m i : ℕ) (e : Handle) : Type 0 where
    pub climb : Climbable H h e
    pub edge_is : up_from H h e ≡ handle m i

  index_is : (h m i d : ℕ) (o : Option Handle) → ((e : Handle) → o ≡ Some e → Up h m i e) → (o ≡ None → d ≡ i) → index_in H h o d ≡ i
  index_is h m i d None f g = g refl
  index_is h m i d (Some e) f g = ap (λ x. x.idx) (f e refl).edge_is

  under_is : (h m i : ℕ) (o : Option Handle) → ((e : Handle) → o ≡ Some e → Up h m i e) → Under H h m o
  under_is h m i None f = tt
  under_is h m i (Some e) f = let u = f e refl in (u.climb, ap (λ x. x.node) u.edge_is)

module _ {K V : Type 0} (T : Tables K V) where
  abbrev Hs : List Head
  Hs = T.heads

  -- an edge at one end lies under the node
  pub record Lower (h m : ℕ) (e : Handle) : Type 0 where
    pub climb : Climbable Hs h e
    pub node_is : (up_from Hs h e).node ≡ m

  up_leaf : (least : ℕ) (b : Bounds) (t : Tree (K × V)) (w : Leafs T least b t) (s : Side) (e : Handle) → bound s b ≡ Some e → Up Hs zero (number t) (edge_at s (length w.pane.us) (length (row t))) e
  up_leaf least b t w s e q = record { climb = climb_none Hs e; edge_is = up_none Hs e ∙ w.here s e q }

  up_inner : (least : ℕ) (b : Bounds) (h : ℕ) (t k : Tree (K × V)) (ks : List (Tree (K × V))) (w : Inner T least b t) (s : Side) (e : Handle) → kids t ≡ cons s k ks → number k < length Hs → Lower h (number k) e
      → Up Hs (suc h) (number t) (edge_at s (length w.pane.us) (length (row t))) e
  up_inner least b h t k ks w s e q l u =
      let link = inner_link T least b t w s k ks q in
      let over : up Hs (up_from Hs h e) ≡ handle (head_in Hs (number k)).parent (head_in Hs (number k)).place = ap (λ m. handle (head_in Hs m).parent (head_in Hs m).place) u.node_is in
      record {
        climb = climb_last Hs h e u.climb (subst (λ m. m < length Hs) (sym u.node_is) l);
        edge_is = up_last s Hs h e ∙ over ∙ ap₂ handle link.parent_is link.place_is;
      }

  lower_of : (h m i : ℕ) (e : Handle) → Up Hs h m i e → Lower h m e
  lower_of h m i e u = record { climb = u.climb; node_is = ap (λ x. x.node) u.edge_is }

  ups_inner : (least : ℕ) (b : Bounds) (h : ℕ) (t : Tree (K × V)) (w : Inner T least b t) → Among (λ c k. Shown T 4 c h k) b (kids t) → (s : Side) (e : Handle) → bound s b ≡ Some e
      → ((c : Bounds) (k : Tree (K × V)) → Shown T 4 c h k → bound s c ≡ Some e → Lower h (number k) e) → Up Hs (suc h) (number t) (edge_at s (length w.pane.us) (length (row t))) e
  ups_inner least b h t w a s e q f =
      let p = some_kid s h t w.fan in
      let k : Tree (K × V) = p.0 in
      let d = end_kid (λ c k. Shown T 4 c h k) s b k p.1 (subst (λ ks. Among (λ c k. Shown T 4 c h k) b ks) p.2 a) in
      up_inner least b h t k p.1 w s e p.2 (shown_pane T 4 d.c h k d.kid).node_is.inside (f d.c k d.kid (d.bound_same ∙ q))

  pub lower : (least : ℕ) (b : Bounds) (h : ℕ) (t : Tree (K × V)) (s : Side) (e : Handle) → Shown T least b h t → bound s b ≡ Some e → Lower h (number t) e
  lower least b zero t s e w q = let l = shown_leaf T least b t w in lower_of zero (number t) (edge_at s (length l.pane.us) (length (row t))) e (up_leaf least b t l s e q)
  lower least b (suc h) t s e w q =
      let i = shown_inner T least b h t w in
      lower_of (suc h) (number t) (edge_at s (length i.pane.us) (length (row t))) e
      (ups_inner least b h t i (shown_kids T least b h t w) s e q (λ c k v r. lower 4 c h k s e v r))

  -- ---- the window of a node

  pub record Window (least : ℕ) (b : Bounds) (h : ℕ) (t : Tree (K × V)) (a : ℕ) : Type 0 where
    pub fits : Fits T least b h (number t)
    pub begin_is : begins Hs h b ≡ a
    pub count_is : ends Hs h b (number t) - begins Hs h b ≡ length (row t)

  window : Sized T → (least : ℕ) (b : Bounds) (h : ℕ) (t : Tree (K × V)) (p : Pane T least b t) → ((s : Side) (e : Handle) → bound s b ≡ Some e → Up Hs h (number t) (edge_at s (length p.us) (length (row t))) e)
      → Window least b h t (length p.us)
  window sz least b h t p f =
      let m : ℕ = number t in
      let len : ℕ = (head_at T m).len in
      let a : ℕ = length p.us in
      let n : ℕ = length (row t) in
      let long : len ≡ a + (n + length p.vs) = pane_len T least b t p in
      let start : begins Hs h b ≡ a = index_is Hs h m a 0 b.front (f First) (λ q. sym (p.whole First q)) in
      let stop : ends Hs h b m ≡ a + n = index_is Hs h m (a + n) len b.back (f Last) (λ q. omega (arith, p.whole Last q)) in
      record {
        fits = record {
          lies = record { sized = sz; inside = p.node_is.inside; len_is = refl; few = omega (arith, p.node_is.len_is, p.node_is.few) };
          enough = omega (arith, p.enough, p.node_is.len_is);
          front = under_is Hs h m a b.front (f First);
          back = under_is Hs h m (a + n) b.back (f Last);
          ordered = omega arith;
          within = omega arith;
        };
        begin_is = start;
        count_is = omega arith;
      }

  keys_shown : (least : ℕ) (b : Bounds) (t : Tree (K × V)) (p : Pane T least b t) → Run first T.keys (11 * number t + length p.us) (row t)
  keys_shown least b t p =
      (run_parts first T.keys (11 * number t + length p.us) (row t) p.vs (run_parts first T.keys (11 * number t) p.us (row t ++ p.vs) p.node_is.keys_are).1).0

module _ {K V : Type 0} (compares : K → K → Ordering) (T : Tables K V) where
  unmet_root : (h : ℕ) (t : Tree (K × V)) (ks : List K) (s : Trail K) → number t < length T.heads → Sized T → Free compares (λ x. occurs x h t) ks s → Unmet s.met (number t)
  unmet_root h t ks s l sz f = weight_unmet s.met (number t) (omega (arith, f.room, sz.most)) (omega (arith, f.fresh (number t), occurs_root h t))

  -- ---- a tree that is passed over

  pub record Passes (least : ℕ) (b : Bounds) (h : ℕ) (t : Tree (K × V)) (s : Trail K) : Type 0 where
    pub passable : Passable compares T least b h (number t) s
    pub took : Took (λ x. occurs x h t) (map first (flat h t)) s (pass T b h (number t) s)

  flat_zero : (t : Tree (K × V)) → flat zero t ≡ row t
  unfolding flat
  flat_zero t = refl

  flat_suc : (h : ℕ) (t : Tree (K × V)) → flat (suc h) t ≡ weave (map (flat h) (kids t)) (row t)
  unfolding flat
  flat_suc h t = refl

  pass_over_leaf : Sized T → (least : ℕ) (b : Bounds) (t : Tree (K × V)) (s : Trail K) → Leafs T least b t → Free compares (λ x. occurs x zero t) (map first (flat zero t)) s → Passes least b zero t s
  pass_over_leaf sz least b t s w f =
      let m : ℕ = number t in
      let p = w.pane in
      let v = window T sz least b zero t p (up_leaf T least b t w) in
      let i : ℕ = begins T.heads zero b in
      let n : ℕ = ends T.heads zero b m - i in
      let keys : keys_of T m i n ≡ map first (flat zero t) =
      ap₂ (λ i n. span T.keys (11 * m + i) n) v.begin_is v.count_is ∙ keys_shown T least b t p ∙ ap (map first) (sym (flat_zero t)) in
      let u = unmet_root zero t (map first (flat zero t)) s p.node_is.inside sz f in
      let s1 : Trail K = marked m s in
      record {
        passable = leaf_passable compares T least b m s (record { fits = v.fits; unmet = u; notes = subst (λ ks. Notes compares ks s.run) (sym keys) f.notes });
        took = took_leaf T b t s u keys;
      }

  -- ---- children that are passed over

  pub record PassesKids (h m n i : ℕ) (b : Bounds) (ts : List (Tree (K × V))) (es : List (K × V)) (s : Trail K) : Type 0 where
    pub steps : Steps compares T (Kid compares T h) (after T h) m n i b s
    pub took : Took (λ x. total (occurs x h) ts) (map first (weave (map (flat h) ts) es)) s (stepped T (after T h) m n i b s)

  module _ (m : ℕ) (wide : (head_at T m).len < length (head_at T m).edges) where
    -- the edge and the link of the first of some children
    led_by : (i c : ℕ) (cs : List ℕ) → c < length T.heads → Run itself (head_at T m).edges i (c ∷ cs) → Linked T m i (c ∷ cs) → (c ≡ edge T.heads m i) × Led T m i
    led_by i c cs l r k =
        let e : Run itself (head_at T m).edges i (c ∷ []) = (run_parts itself (head_at T m).edges i (c ∷ []) cs r).0 in
        let is : c ≡ edge T.heads m i = first_of_run (head_at T m).edges i c e in
        let z : i + 0 ≡ i = omega arith in
        let link : Link T m i c = subst (λ j. Link T m j c) z (k 0 (omega arith)) in
        (is, record { wide = wide; inside = subst (λ c. c < length T.heads) is l; link = subst (λ c. Link T m i c) is link })
      where
        first_of_run : (xs : List ℕ) (i c : ℕ) → Run itself xs i (c ∷ []) → c ≡ get_or xs i 0
        first_of_run xs i c r = let z : i + 0 ≡ i = omega arith in ap (λ l. get_or l 0 0) (sym r) ∙ span_at xs i 1 0 0 (omega arith) ∙ ap (λ i. get_or xs i 0) z

    kids_one : (h i : ℕ) (b : Bounds) (t : Tree (K × V)) (s : Trail K) → number t < length T.heads → Run itself (head_at T m).edges i (number t ∷ []) → Linked T m i (number t ∷ []) → Passes 4 b h t s → PassesKids h m zero i b (t ∷ []) [] s
    kids_one h i b t s l r k p =
        let d = led_by i (number t) [] l r k in
        record {
          steps = one_steps compares T (Kid compares T h) (after T h) m i b s d.1 (subst (λ c. Passable compares T 4 b h c s) d.0 p.passable);
          took = took_one T h m i b t s (subst (λ c. Took (λ x. occurs x h t) (map first (flat h t)) s (after T h b c s)) d.0 p.took);
        }

    module _ (h : ℕ) (over : (c : Bounds) (t : Tree (K × V)) (s : Trail K) → Shown T 4 c h t → Free compares (λ x. occurs x h t) (map first (flat h t)) s → Passes 4 c h t s) where
      kids_over : (n i : ℕ) (b : Bounds) (ts : List (Tree (K × V))) (es : List (K × V)) (s : Trail K) → length es ≡ n → length ts ≡ suc n → Among (λ c k. Shown T 4 c h k) b ts
          → Run itself (head_at T m).edges i (map number ts) → Linked T m i (map number ts) → Run first T.keys (11 * m + i) es
          → Free compares (λ x. total (occurs x h) ts) (map first (weave (map (flat h) ts) es)) s → PassesKids h m n i b ts es s
      kids_over n i b [] es s z q a r k y f = absurd (omega arith)
      kids_over zero i b (t ∷ []) [] s z q a r k y f =
          kids_one h i b t s (shown_pane T 4 b h t a).node_is.inside r k (over b t s a (free_as compares (λ x. total (occurs x h) (t ∷ [])) (λ x. occurs x h t) (map first (flat h t)) (map first (flat h t)) s (λ x. omega arith) refl f))
      kids_over zero i b (t ∷ []) (e ∷ es) s z q a r k y f = absurd (omega arith)
      kids_over zero i b (t ∷ (t' ∷ ts)) es s z q a r k y f = absurd (omega arith)
      kids_over (suc n) i b (t ∷ ts) [] s z q a r k y f = absurd (omega arith)
      kids_over (suc n) i b (t ∷ []) (e ∷ es) s z q a r k y f = absurd (omega arith)
      kids_over (suc n) i b (t ∷ (t' ∷ ts)) (e ∷ es) s z q a r k y f =
          let us : List (Tree (K × V)) = t' ∷ ts in
          let d = led_by i (number t) (map number us) (shown_pane T 4 (only First b) h t a.0).node_is.inside r k in
          let c : ℕ = edge T.heads m i in
          let one : List K = keys_of T m i 1 in
          let parts = run_parts first T.keys (11 * m + i) (e ∷ []) es y in
          let ks : List K = map first (flat h t) in
          let ls : List K = map first (weave (map (flat h) us) es) in
          let split : map first (flat h t ++ e ∷ weave (map (flat h) us) es) ≡ ks ++ (one ++ ls) =
          map-append first (flat h t) (e ∷ weave (map (flat h) us) es) ∙ ap (λ o. ks ++ (o ++ ls)) (sym parts.0) in
          let f1 : Free compares (λ x. occurs x h t + (0 + total (occurs x h) us)) (ks ++ (one ++ ls)) s =
          free_as compares (λ x. total (occurs x h) (t ∷ us)) (λ x. occurs x h t + (0 + total (occurs x h) us)) (map first (flat h t ++ e ∷ weave (map (flat h) us) es)) (ks ++ (one ++ ls)) s (λ x. omega arith) split f in
          let p = over (only First b) t s a.0 (free_front compares (λ x. occurs x h t) (λ x. 0 + total (occurs x h) us) ks (one ++ ls) s f1) in
          let s1 : Trail K = after T h (only First b) c s in
          let s2 : Trail K = moved T m i 1 s1 in
          let t1 : Took (λ x. occurs x h t) ks s s1 = subst (λ c. Took (λ x. occurs x h t) ks s (after T h (only First b) c s)) d.0 p.took in
          let f2 : Free compares (λ x. 0 + total (occurs x h) us) (one ++ ls) s1 = free_back compares (λ x. occurs x h t) (λ x. 0 + total (occurs x h) us) ks (one ++ ls) s s1 t1 f1 in
          let f3 : Free compares (λ _. 0) one s1 = free_front compares (λ _. 0) (λ x. total (occurs x h) us) one ls s1 f2 in
          let t2 : Took (λ _. 0) one s1 s2 = took_keys one s1 in
          let f4 : Free compares (λ x. total (occurs x h) us) ls s2 = free_back compares (λ _. 0) (λ x. total (occurs x h) us) one ls s1 s2 t2 f2 in
          let at : 11 * m + i + 1 ≡ 11 * m + (i + 1) = omega arith in
          let rest = kids_over n (i + 1) (only Last b) us es s2 (omega arith) (omega arith) a.1 (run_parts itself (head_at T m).edges i (number t ∷ []) (map number us) r).1
          (linked_parts T m i (number t ∷ []) (map number us) k).1 (subst (λ a. Run first T.keys a es) at parts.1) f4 in
          record {
            steps = more_steps compares T (Kid compares T h) (after T h) m n i b s
                (record { led = d.1; kid = subst (λ c. Passable compares T 4 (only First b) h c s) d.0 p.passable; notes = f3.notes; rest = rest.steps });
            took = took_more T h m n i b t us e es s parts.0 t1 rest.took;
          }

  pass_over_inner : Sized T → (least : ℕ) (b : Bounds) (h : ℕ) (t : Tree (K × V)) (s : Trail K) (w : Inner T least b t) → Among (λ c k. Shown T 4 c h k) b (kids t)
      → ((s : Side) (e : Handle) → bound s b ≡ Some e → Up T.heads (suc h) (number t) (edge_at s (length w.pane.us) (length (row t))) e)
      → ((c : Bounds) (t : Tree (K × V)) (s : Trail K) → Shown T 4 c h t → Free compares (λ x. occurs x h t) (map first (flat h t)) s → Passes 4 c h t s)
      → Free compares (λ x. occurs x (suc h) t) (map first (flat (suc h) t)) s → Passes least b (suc h) t s
  pass_over_inner sz least b h t s w a ups over f =
      let m : ℕ = number t in
      let p = w.pane in
      let v = window T sz least b (suc h) t p ups in
      let i : ℕ = begins T.heads (suc h) b in
      let n : ℕ = ends T.heads (suc h) b m - i in
      let u = unmet_root (suc h) t (map first (flat (suc h) t)) s p.node_is.inside sz f in
      let s1 : Trail K = marked m s in
      let keys : List K = map first (weave (map (flat h) (kids t)) (row t)) in
      let flat-is : map first (flat (suc h) t) ≡ keys = ap (map first) (flat_suc h t) in
      let t1 : Took (λ x. same x m) [] s s1 = took_mark m s u in
      let f1 : Free compares (λ x. same x m + total (occurs x h) (kids t)) ([] ++ keys) s =
      free_as compares (λ x. occurs x (suc h) t) (λ x. same x m + total (occurs x h) (kids t)) (map first (flat (suc h) t)) keys s (λ x. occurs_parts x (suc h) t) flat-is f in
      let f2 : Free compares (λ x. total (occurs x h) (kids t)) keys s1 = free_back compares (λ x. same x m) (λ x. total (occurs x h) (kids t)) [] keys s s1 t1 f1 in
      let all : ℕ = length (p.ks ++ (numbers t ++ p.ls)) in
      let wide : (head_at T m).len < length (head_at T m).edges =
      omega (
        arith,
        run_inside itself (head_at T m).edges 0 (p.ks ++ (numbers t ++ p.ls)) p.node_is.edges_are,
        length-append p.ks (numbers t ++ p.ls),
        length-append (numbers t) p.ls,
        length-map (kids t) number,
        w.fan,
        w.before,
        w.behind,
        pane_len T least b t p,
      ) in
      let here : 0 + length p.ks ≡ i = omega (arith, w.before, v.begin_is) in
      let edges : Run itself (head_at T m).edges i (numbers t) =
      subst (λ j. Run itself (head_at T m).edges j (numbers t)) here
      (run_parts itself (head_at T m).edges (0 + length p.ks) (numbers t) p.ls (run_parts itself (head_at T m).edges 0 p.ks (numbers t ++ p.ls) p.node_is.edges_are).1).0 in
      let linked : Linked T m i (numbers t) = subst (λ j. Linked T m j (numbers t)) (sym v.begin_is) w.linked in
      let run : Run first T.keys (11 * m + i) (row t) = subst (λ i. Run first T.keys (11 * m + i) (row t)) (sym v.begin_is) (keys_shown T least b t p) in
      let g = kids_over m wide h over n i b (kids t) (row t) s1 (sym v.count_is) (w.fan ∙ ap suc (sym v.count_is)) a edges linked run f2 in
      record {
        passable = above_passable compares T least b h m s (record { fits = v.fits; unmet = u; steps = g.steps });
        took = took_above T b h t s u g.took;
      }

  pub passes : Sized T → (least : ℕ) (b : Bounds) (h : ℕ) (t : Tree (K × V)) (s : Trail K) → Shown T least b h t → Free compares (λ x. occurs x h t) (map first (flat h t)) s → Passes least b h t s
  passes sz least b zero t s w f = pass_over_leaf sz least b t s (shown_leaf T least b t w) f
  passes sz least b (suc h) t s w f =
      let i = shown_inner T least b h t w in
      let a = shown_kids T least b h t w in
      pass_over_inner sz least b h t s i a (λ u e q. ups_inner T least b h t i a u e q (λ c k v r. lower T 4 c h k u e v r)) (λ c t s w f. passes sz 4 c h t s w f) f
