-- One node of a tree shown between two edges. Assumes nothing.
use Rattle.std.proofs.Common.{◌≡◌, ℕ, suc, ◌+◌, ◌-◌, ◌<◌, ◌≤◌, List, [], ◌∷◌, ◌++◌, map, length, get_or, Some, None, sym, refl, ap, ◌∙◌, subst, ap₂, append_assoc, arith, length-append}
use lib.ListN.{length-map}
use lib.Seq.{get_or-append_seam}
use Rattle.std.proofs.lemmas.List.{get_or_append_left}
use Rattle.std.proofs.lemmas.Bool.Decides.{nat_tests}
use Rattle.node.specs.declared.ends.Handle.{Handle}
use Rattle.node.specs.declared.ends.Side.{Side}
use Rattle.node.specs.declared.ends.Side.TheVariants.{First, Last}
use Rattle.node.specs.Ends.{end_index}
use Rattle.node.specs.Links.{edge}
use Rattle.node.specs.Shape.{Tree, number, row, kids, mk}
use Rattle.node.specs.Store.{Tables, Node, Link, Linked, numbers, head_at}
use Rattle.node.proofs.Frames.{linked_parts}
use Rattle.node.proofs.Runs.{edge_is}
use Rattle.node.proofs.Weaves.{trees_forest}
use Rattle.walk.specs.Steps.{other, cons}
use Rattle.walk.specs.Climbs.{handle, beside, onward, Edged}
use Rattle.walk.specs.Window.{Bounds, bound, put, outer, edge_at, Pane, Leafs, Inner}
use Rattle.walk.proofs.Stepping.{some_is, length_cons, map_cons}

-- ---- indexes at an end

pub beside_none : (s : Side) (a n v : ℕ) → n ≡ 0 → (s ≡ First → v ≡ 0) → (s ≡ Last → a ≡ 0) → beside s (a + (n + v)) (edge_at s a n) ≡ None
beside_none First a n v z f l = let y : v ≡ 0 = f refl in grind (arith, nat_tests)
beside_none Last a n v z f l = let y : a ≡ 0 = l refl in grind (arith, nat_tests)

pub beside_some : (s : Side) (a n k v : ℕ) → n ≡ suc k → beside s (a + (n + v)) (edge_at s a n) ≡ Some (edge_at s a k)
beside_some First a n k v z = grind (arith, nat_tests)
beside_some Last a n k v z = let y : a + n - 1 ≡ a + k = omega arith in grind (arith, nat_tests)

pub edge_in : (s : Side) (a n v : ℕ) → edge_at s a n ≤ a + (n + v)
edge_in First a n v = omega arith
edge_in Last a n v = omega arith

-- ---- what leaves the row at an end

module _ {X : Type 0} where
  abbrev pub us_after : Side → List X → X → List X
  us_after First us e = us ++ e ∷ []
  us_after Last us e = us

  abbrev pub vs_after : Side → List X → X → List X
  vs_after First vs e = vs
  vs_after Last vs e = e ∷ vs

  pub after_same : (s : Side) (us vs : List X) (e : X) (es : List X) → us_after s us e ++ (es ++ vs_after s vs e) ≡ us ++ (cons s e es ++ vs)
  after_same First us vs e es = append_assoc us (e ∷ []) (es ++ vs)
  after_same Last us vs e es = ap (λ r. us ++ r) (sym (append_assoc es (e ∷ []) vs))

  -- the entry between what stands before it and behind it
  abbrev pub ahead : Side → List X → List X → List X
  ahead First us es = us
  ahead Last us es = us ++ es

  abbrev pub beyond : Side → List X → List X → List X
  beyond First vs es = es ++ vs
  beyond Last vs es = vs

  pub around : (s : Side) (us vs : List X) (e : X) (es : List X) → us ++ (cons s e es ++ vs) ≡ ahead s us es ++ e ∷ beyond s vs es
  around First us vs e es = refl
  around Last us vs e es = ap (λ r. us ++ r) (append_assoc es (e ∷ []) vs) ∙ sym (append_assoc us es (e ∷ vs))

  pub ahead_length : (s : Side) (us es : List X) → length (ahead s us es) ≡ edge_at s (length us) (length es)
  ahead_length First us es = refl
  ahead_length Last us es = length-append us es

  -- the next edge is the one at the end of what is left
  pub onward_after : (s : Side) (us : List X) (e : X) (n : ℕ) → onward s (edge_at s (length us) n) ≡ edge_at s (length (us_after s us e)) n
  onward_after First us e n = sym (length-append us (e ∷ []))
  onward_after Last us e n = refl

  -- what is shown whole on the other side still is
  pub after_whole : (s : Side) (us vs : List X) (e : X) (u : Side) (b : Bounds) (f : Handle) → ((u : Side) → bound u b ≡ None → length (outer u us vs) ≡ 0)
      → bound u (put s (Some f) b) ≡ None → length (outer u (us_after s us e) (vs_after s vs e)) ≡ 0
  after_whole First us vs e First b f w q = absurd (let z : ◌≡◌ {A = ℕ} 0 1 = cc in omega arith)
  after_whole First us vs e Last b f w q = w Last q
  after_whole Last us vs e First b f w q = w First q
  after_whole Last us vs e Last b f w q = absurd (let z : ◌≡◌ {A = ℕ} 0 1 = cc in omega arith)

  pub put_whole : (s : Side) (us vs : List X) (u : Side) (b : Bounds) (f : Handle) → ((u : Side) → bound u b ≡ None → length (outer u us vs) ≡ 0)
      → bound u (put s (Some f) b) ≡ None → length (outer u us vs) ≡ 0
  put_whole First us vs First b f w q = absurd (let z : ◌≡◌ {A = ℕ} 0 1 = cc in omega arith)
  put_whole First us vs Last b f w q = w Last q
  put_whole Last us vs First b f w q = w First q
  put_whole Last us vs Last b f w q = absurd (let z : ◌≡◌ {A = ℕ} 0 1 = cc in omega arith)

pub after_lengths : {X Y : Type 0} (s : Side) (us vs : List X) (e : X) (ks ls : List Y) (k : Y) → length ks ≡ length us → length ls ≡ length vs
    → (length (us_after s ks k) ≡ length (us_after s us e)) × (length (vs_after s ls k) ≡ length (vs_after s vs e))
after_lengths First us vs e ks ls k p q = (length-append ks (k ∷ []) ∙ ap (λ n. n + 1) p ∙ sym (length-append us (e ∷ [])), q)
after_lengths Last us vs e ks ls k p q = (p, ap suc q)

module _ {K V : Type 0} (T : Tables K V) (least : ℕ) (b : Bounds) (t : Tree (K × V)) (p : Pane T least b t) where
  pub pane_len : (head_at T (number t)).len ≡ length p.us + (length (row t) + length p.vs)
  pane_len = p.node_is.len_is ∙ length-append p.us (row t ++ p.vs) ∙ ap (λ n. length p.us + n) (length-append (row t) p.vs)

  pub pane_edged : (s : Side) → Edged T.heads (handle (number t) (edge_at s (length p.us) (length (row t))))
  pane_edged s = record {
    inside = p.node_is.inside;
    few = omega (arith, p.node_is.few, p.node_is.len_is);
    within = omega (arith, pane_len, edge_in s (length p.us) (length (row t)) (length p.vs));
  }

  pub pane_past : (s : Side) → bound (other s) b ≡ None → row t ≡ [] → beside s (head_at T (number t)).len (edge_at s (length p.us) (length (row t))) ≡ None
  pane_past First q e = ap (λ n. beside First n (length p.us)) pane_len ∙ beside_none First (length p.us) (length (row t)) (length p.vs) (ap length e) (λ _. p.whole Last q) (λ z. absurd (let y : ◌≡◌ {A = ℕ} 0 1 = cc in omega arith))
  pane_past Last q e = ap (λ n. beside Last n (length p.us + length (row t))) pane_len ∙ beside_none Last (length p.us) (length (row t)) (length p.vs) (ap length e) (λ z. absurd (let y : ◌≡◌ {A = ℕ} 0 1 = cc in omega arith)) (λ _. p.whole First q)

  pub pane_here : (s : Side) (e : K × V) (es : List (K × V)) → row t ≡ cons s e es → beside s (head_at T (number t)).len (edge_at s (length p.us) (length (row t))) ≡ Some (edge_at s (length p.us) (length es))
  pane_here s e es q =
      ap (λ n. beside s n (edge_at s (length p.us) (length (row t)))) pane_len ∙ beside_some s (length p.us) (length (row t)) (length es) (length p.vs) (ap length q ∙ length_cons s e es)

  pub pane_entry : (s : Side) (e : K × V) (es : List (K × V)) → row t ≡ cons s e es → Node T (number t) (ahead s p.us es ++ e ∷ beyond s p.vs es) (p.ks ++ (numbers t ++ p.ls))
  pane_entry s e es q = subst (λ r. Node T (number t) r (p.ks ++ (numbers t ++ p.ls))) (ap (λ r. p.us ++ (r ++ p.vs)) q ∙ around s p.us p.vs e es) p.node_is

  -- the edge at an end that is shown whole
  pub pane_end : (s : Side) → bound s b ≡ None → end_index s (head_at T (number t)).len ≡ edge_at s (length p.us) (length (row t))
  pane_end First q = sym (p.whole First q)
  pane_end Last q = omega (arith, pane_len, p.whole Last q)

-- ---- children by number

-- the one at an end
end_at : (s : Side) (c : ℕ) (cs : List ℕ) → get_or (cons s c cs) (end_index s (length cs)) 0 ≡ c
end_at First c cs = refl
end_at Last c cs = get_or-append_seam cs c [] 0

end_in : (s : Side) (n : ℕ) → end_index s n < suc n
end_in First n = omega arith
end_in Last n = omega arith

pub end_edge_lem : (s : Side) (a n : ℕ) → a + end_index s n ≡ edge_at s a n
end_edge_lem First a n = omega arith
end_edge_lem Last a n = refl

module _ {K V : Type 0} where
  numbers_cons : (s : Side) (t k : Tree (K × V)) (ks : List (Tree (K × V))) → kids t ≡ cons s k ks → numbers t ≡ cons s (number k) (map number ks)
  numbers_cons s t k ks q = ap (map number) q ∙ map_cons number s k ks

  pub numbers_mk : (m : ℕ) (es : List (K × V)) (ks : List (Tree (K × V))) → numbers (mk m es ks) ≡ map number ks
  numbers_mk m es ks = ap (map number) (trees_forest ks)

  pub kids_mk : (m : ℕ) (es : List (K × V)) (ks : List (Tree (K × V))) → kids (mk m es ks) ≡ ks
  kids_mk m es ks = trees_forest ks

  linked_after : (T : Tables K V) (s : Side) (m c : ℕ) (cs : List ℕ) (us : List (K × V)) (e : K × V) → Linked T m (length us) (cons s c cs) → Linked T m (length (us_after s us e)) cs
  linked_after T First m c cs us e w = subst (λ n. Linked T m n cs) (sym (length-append us (e ∷ []))) (linked_parts T m (length us) (c ∷ []) cs w).1
  linked_after T Last m c cs us e w = (linked_parts T m (length us) cs (c ∷ []) w).0

module _ {K V : Type 0} (T : Tables K V) (least : ℕ) (b : Bounds) (t : Tree (K × V)) where
  fan_rest : (s : Side) (k : Tree (K × V)) (ks : List (Tree (K × V))) → length (kids t) ≡ suc (length (row t)) → kids t ≡ cons s k ks → length (map number ks) ≡ length (row t)
  fan_rest s k ks f q = omega (arith, length-map ks number, length_cons s k ks, ap length q)

  pub inner_link : (i : Inner T least b t) (s : Side) (k : Tree (K × V)) (ks : List (Tree (K × V))) → kids t ≡ cons s k ks → Link T (number t) (edge_at s (length i.pane.us) (length (row t))) (number k)
  inner_link i s k ks q =
      let cs : List ℕ = map number ks in
      let n : length cs ≡ length (row t) = fan_rest s k ks i.fan q in
      let j : ℕ = end_index s (length cs) in
      let is : numbers t ≡ cons s (number k) cs = numbers_cons s t k ks q in
      let l : j < length (numbers t) = omega (arith, end_in s (length cs), ap length is, length_cons s (number k) cs) in
      subst (λ x. Link T (number t) (edge_at s (length i.pane.us) (length (row t))) x) (ap (λ r. get_or r j 0) is ∙ end_at s (number k) cs)
      (subst (λ a. Link T (number t) a (get_or (numbers t) j 0)) (ap (λ r. length i.pane.us + end_index s r) n ∙ end_edge_lem s (length i.pane.us) (length (row t))) (i.linked j l))

  pub inner_edge : (i : Inner T least b t) (s : Side) (k : Tree (K × V)) (ks : List (Tree (K × V))) → kids t ≡ cons s k ks → edge T.heads (number t) (edge_at s (length i.pane.us) (length (row t))) ≡ number k
  inner_edge i s k ks q =
      let cs : List ℕ = map number ks in
      let p = i.pane in
      let n : length cs ≡ length (row t) = fan_rest s k ks i.fan q in
      let j : ℕ = end_index s (length cs) in
      let is : numbers t ≡ cons s (number k) cs = numbers_cons s t k ks q in
      let l : j < length (numbers t) = omega (arith, end_in s (length cs), ap length is, length_cons s (number k) cs) in
      let z : edge_at s (length p.us) (length (row t)) ≡ length p.ks + j = sym (end_edge_lem s (length p.us) (length (row t))) ∙ ap₂ (λ a r. a + end_index s r) (sym i.before) (sym n) in
      edge_is (head_at T (number t)).edges p.ks (numbers t ++ p.ls) (length p.ks) j (edge_at s (length p.us) (length (row t))) p.node_is.edges_are refl (omega (arith, length-append (numbers t) p.ls)) z
      ∙ get_or_append_left (numbers t) p.ls 0 j l ∙ ap (λ r. get_or r j 0) is ∙ end_at s (number k) cs

  -- ---- another edge at an end

  put_here : (s u : Side) (x f : Handle) (g : Side → Handle) → ((u : Side) (x : Handle) → bound u b ≡ Some x → x ≡ g u) → f ≡ g s → bound u (put s (Some f) b) ≡ Some x → x ≡ g u
  put_here First First x f g w q r = some_is x f (sym r) ∙ q
  put_here First Last x f g w q r = w Last x r
  put_here Last First x f g w q r = w First x r
  put_here Last Last x f g w q r = some_is x f (sym r) ∙ q

  after_here : (s u : Side) (us : List (K × V)) (e : K × V) (es : List (K × V)) (m : ℕ) (x f : Handle)
      → ((u : Side) (x : Handle) → bound u b ≡ Some x → x ≡ handle m (edge_at u (length us) (length (cons s e es)))) → f ≡ handle m (edge_at s (length (us_after s us e)) (length es))
      → bound u (put s (Some f) b) ≡ Some x → x ≡ handle m (edge_at u (length (us_after s us e)) (length es))
  after_here First First us e es m x f w q r = some_is x f (sym r) ∙ q
  after_here First Last us e es m x f w q r = let z : length us + suc (length es) ≡ length (us ++ e ∷ []) + length es = omega (arith, length-append us (e ∷ [])) in w Last x r ∙ ap (handle m) z
  after_here Last First us e es m x f w q r = w First x r
  after_here Last Last us e es m x f w q r = some_is x f (sym r) ∙ q

  pane_put : (s : Side) (f : Handle) → Pane T least b t → Pane T least (put s (Some f) b) t
  pane_put s f p = record {
    us = p.us;
    vs = p.vs;
    ks = p.ks;
    ls = p.ls;
    node_is = p.node_is;
    enough = p.enough;
    whole = λ u q. put_whole s p.us p.vs u b f p.whole q;
  }

  pub leaf_put : (i : Leafs T least b t) (s : Side) (f : Handle) → f ≡ handle (number t) (edge_at s (length i.pane.us) (length (row t))) → Leafs T least (put s (Some f) b) t
  unfolding pane_put
  leaf_put i s f q = record {
    pane = pane_put s f i.pane;
    bare = i.bare;
    no_edges = i.no_edges;
    here = λ u x r. put_here s u x f (λ u. handle (number t) (edge_at u (length i.pane.us) (length (row t)))) i.here q r;
  }

  -- the same node with other children of the same numbers
  pub inner_put : (i : Inner T least b t) (s : Side) (f : Handle) (ks : List (Tree (K × V))) → map number ks ≡ numbers t → Inner T least (put s (Some f) b) (mk (number t) (row t) ks)
  inner_put i s f ks q =
      let same : numbers (mk (number t) (row t) ks) ≡ numbers t = numbers_mk (number t) (row t) ks ∙ q in
      let p = i.pane in
      record {
        pane = record {
          us = p.us;
          vs = p.vs;
          ks = p.ks;
          ls = p.ls;
          node_is = subst (λ ns. Node T (number t) (p.us ++ (row t ++ p.vs)) (p.ks ++ (ns ++ p.ls))) (sym same) p.node_is;
          enough = p.enough;
          whole = λ u r. put_whole s p.us p.vs u b f p.whole r;
        };
        fan = sym (length-map (kids (mk (number t) (row t) ks)) number) ∙ ap length same ∙ length-map (kids t) number ∙ i.fan;
        before = i.before;
        behind = i.behind;
        linked = subst (λ ns. Linked T (number t) (length p.us) ns) (sym same) i.linked;
      }

  -- the node without the entry at an end
  pub leaf_after : (i : Leafs T least b t) (s : Side) (e : K × V) (es : List (K × V)) (f : Handle) → row t ≡ cons s e es → f ≡ handle (number t) (edge_at s (length (us_after s i.pane.us e)) (length es))
      → Leafs T least (put s (Some f) b) (mk (number t) es (kids t))
  leaf_after i s e es f q w =
      let p = i.pane in
      let same : numbers (mk (number t) es (kids t)) ≡ numbers t = numbers_mk (number t) es (kids t) in
      let rows : p.us ++ (row t ++ p.vs) ≡ us_after s p.us e ++ (es ++ vs_after s p.vs e) = ap (λ r. p.us ++ (r ++ p.vs)) q ∙ sym (after_same s p.us p.vs e es) in
      record {
        pane = record {
          us = us_after s p.us e;
          vs = vs_after s p.vs e;
          ks = p.ks;
          ls = p.ls;
          node_is = subst (λ r. Node T (number t) r (p.ks ++ (numbers (mk (number t) es (kids t)) ++ p.ls))) rows (subst (λ ns. Node T (number t) (p.us ++ (row t ++ p.vs)) (p.ks ++ (ns ++ p.ls))) (sym same) p.node_is);
          enough = subst (λ r. least ≤ length r) rows p.enough;
          whole = λ u r. after_whole s p.us p.vs e u b f p.whole r;
        };
        bare = ap length (kids_mk (number t) es (kids t)) ∙ i.bare;
        no_edges = i.no_edges;
        here = λ u x r. after_here s u p.us e es (number t) x f (λ u x r. i.here u x r ∙ ap (λ l. handle (number t) (edge_at u (length p.us) (length l))) q) w r;
      }

  -- and without the child there
  pub inner_after : (i : Inner T least b t) (s : Side) (e : K × V) (es : List (K × V)) (k : Tree (K × V)) (ks : List (Tree (K × V))) (f : Handle) → row t ≡ cons s e es → kids t ≡ cons s k ks
      → (j : Inner T least (put s (Some f) b) (mk (number t) es ks)) × (length j.pane.us ≡ length (us_after s i.pane.us e))
  inner_after i s e es k ks f q w =
      let p = i.pane in
      let cs : List ℕ = map number ks in
      let same : numbers (mk (number t) es ks) ≡ cs = numbers_mk (number t) es ks in
      let was : numbers t ≡ cons s (number k) cs = numbers_cons s t k ks w in
      let rows : p.us ++ (row t ++ p.vs) ≡ us_after s p.us e ++ (es ++ vs_after s p.vs e) = ap (λ r. p.us ++ (r ++ p.vs)) q ∙ sym (after_same s p.us p.vs e es) in
      let edges : p.ks ++ (numbers t ++ p.ls) ≡ us_after s p.ks (number k) ++ (numbers (mk (number t) es ks) ++ vs_after s p.ls (number k)) =
      ap (λ r. p.ks ++ (r ++ p.ls)) was ∙ sym (after_same s p.ks p.ls (number k) cs) ∙ ap (λ r. us_after s p.ks (number k) ++ (r ++ vs_after s p.ls (number k))) (sym same) in
      let long = after_lengths s p.us p.vs e p.ks p.ls (number k) i.before i.behind in (
        record {
          pane = record {
            us = us_after s p.us e;
            vs = vs_after s p.vs e;
            ks = us_after s p.ks (number k);
            ls = vs_after s p.ls (number k);
            node_is = subst (λ r. Node T (number t) r (us_after s p.ks (number k) ++ (numbers (mk (number t) es ks) ++ vs_after s p.ls (number k)))) rows (subst (λ ns. Node T (number t) (p.us ++ (row t ++ p.vs)) ns) edges p.node_is);
            enough = subst (λ r. least ≤ length r) rows p.enough;
            whole = λ u r. after_whole s p.us p.vs e u b f p.whole r;
          };
          fan = ap length (kids_mk (number t) es ks) ∙ omega (arith, i.fan, ap length w, length_cons s k ks, ap length q, length_cons s e es);
          before = long.0;
          behind = long.1;
          linked = subst (λ ns. Linked T (number t) (length (us_after s p.us e)) ns) (sym same) (linked_after T s (number t) (number k) cs p.us e (subst (λ ns. Linked T (number t) (length p.us) ns) was i.linked));
        },
        refl,
      )
