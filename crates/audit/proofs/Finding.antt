-- A pass without fault finds a tree. Assumes nothing.
use Rattle.std.proofs.Common.{◌≡◌, ℕ, zero, suc, ◌+◌, ◌-◌, ◌*◌, ◌<◌, ◌≤◌, List, [], ◌∷◌, ◌++◌, map, length, take, drop, Some, None, Option, sym, refl, ap, ap₂, ◌∙◌, subst, arith, length-append, length-drop}
use lib.ListN.{length-map}
use Rattle.std.proofs.lemmas.List.{take-append-drop, length-take-le, map-append, get_or_default}
use Rattle.std.specs.declared.cmp.Ordering.{Ordering}
use Rattle.node.specs.declared.head.Head.{Head}
use Rattle.node.specs.declared.ends.Handle.{Handle}
use Rattle.node.specs.declared.ends.Side.{Side}
use Rattle.node.specs.declared.ends.Side.TheVariants.{First, Last}
use Rattle.node.specs.Cells.{span, Run}
use Rattle.node.specs.Laws.{same, occurs}
use Rattle.node.specs.Links.{edge}
use Rattle.node.specs.Shape.{Tree, number, mk, flat, weave, total}
use Rattle.node.specs.Store.{Tables, Link, Linked, head_at, first, second, itself}
use Rattle.node.proofs.Frames.{linked_append}
use Rattle.node.proofs.Numbers.{occurs_mk, occurs_parts}
use Rattle.node.proofs.Runs.{run_append, run_parts, itself_map}
use Rattle.node.proofs.Spans.{span_length, span_one}
use Rattle.node.proofs.Weaves.{flat_mk}
use Rattle.walk.specs.Climbs.{handle, up_from}
use Rattle.walk.specs.Window.{Bounds, bound, only, outer, edge_at, Pane, Among, Shown}
use Rattle.walk.proofs.Panes.{numbers_mk, kids_mk}
use Rattle.walk.proofs.Windows.{leaf_shown, inner_shown}
use Rattle.audit.specs.Runs.{Notes}
use Rattle.audit.specs.Passes.{count, keys_of, Trail, Under, index_in, begins, ends, Fits, Led, marked, stepped, pass, Steps, Passable}
use Rattle.audit.proofs.Notes.{notes_append}
use Rattle.audit.proofs.Passing.{moved, Kid, after, Leaf, Above, passable_leaf, passable_above, pass_leaf, pass_above, More, steps_one, steps_more, stepped_one, stepped_more}
use Rattle.audit.proofs.Taken.{took_leaf, took_one, took_more, took_above}
use Rattle.audit.proofs.Taking.{Took, took_keys}

-- ---- entries from their keys and values

pub record Pairs {K V : Type 0} (ks : List K) (vs : List V) : Type 0 where
  pub es : List (K × V)
  pub keys : ks ≡ map first es
  pub values : vs ≡ map second es

pub pairs : {K V : Type 0} (ks : List K) (vs : List V) → length ks ≡ length vs → Pairs ks vs
pairs [] [] z = record { es = []; keys = refl; values = refl }
pairs [] (v ∷ vs) z = absurd (omega arith)
pairs (k ∷ ks) [] z = absurd (omega arith)
pairs (k ∷ ks) (v ∷ vs) z =
    let p = pairs ks vs (omega arith) in record { es = (k, v) ∷ p.es; keys = ap (λ r. k ∷ r) p.keys; values = ap (λ r. v ∷ r) p.values }

-- a list in three parts
pub record Three {X : Type 0} (es : List X) (i n : ℕ) : Type 0 where
  pub us : List X
  pub row : List X
  pub vs : List X
  pub is : es ≡ us ++ (row ++ vs)
  pub before : length us ≡ i
  pub shown : length row ≡ n

pub three : {X : Type 0} (es : List X) (i n : ℕ) → i + n ≤ length es → Three es i n
three es i n l =
    let e = drop i es in
    record {
      us = take i es;
      row = take n e;
      vs = drop n e;
      is = sym (ap (λ r. take i es ++ r) (take-append-drop n e) ∙ take-append-drop i es);
      before = length-take-le i es (omega arith);
      shown = length-take-le n e (omega (arith, length-drop i es));
    }

-- ---- the entries of a node, of which n are shown from i on

pub record Rows {K V : Type 0} (T : Tables K V) (m i n : ℕ) : Type 0 where
  pub us : List (K × V)
  pub row : List (K × V)
  pub vs : List (K × V)
  pub before : length us ≡ i
  pub shown : length row ≡ n
  pub len_is : (head_at T m).len ≡ length (us ++ (row ++ vs))
  pub keys_are : Run first T.keys (11 * m) (us ++ (row ++ vs))
  pub values_are : Run second T.values (11 * m) (us ++ (row ++ vs))
  pub keys_here : Run first T.keys (11 * m + i) row

module _ {K V : Type 0} (T : Tables K V) where
  rows_of : (m i n : ℕ) (es : List (K × V)) → Three es i n → (head_at T m).len ≡ length es → Run first T.keys (11 * m) es → Run second T.values (11 * m) es → Rows T m i n
  rows_of m i n es p l a b =
      let a' : Run first T.keys (11 * m) (p.us ++ (p.row ++ p.vs)) = subst (λ es. Run first T.keys (11 * m) es) p.is a in
      let c = (run_parts first T.keys (11 * m) p.us (p.row ++ p.vs) a').1 in
      let d = (run_parts first T.keys (11 * m + length p.us) p.row p.vs c).0 in
      record {
        us = p.us;
        row = p.row;
        vs = p.vs;
        before = p.before;
        shown = p.shown;
        len_is = l ∙ ap length p.is;
        keys_are = a';
        values_are = subst (λ es. Run second T.values (11 * m) es) p.is b;
        keys_here = subst (λ i. Run first T.keys (11 * m + i) p.row) p.before d;
      }

  pub rows : (least : ℕ) (b : Bounds) (h m : ℕ) → Fits T least b h m → Rows T m (begins T.heads h b) (count T h b m)
  rows least b h m w =
      let len : ℕ = (head_at T m).len in
      let sz = w.lies.sized in
      let room : 11 * m + len ≤ 11 * length T.heads = omega (arith, w.lies.inside, w.lies.few) in
      let a : length (span T.keys (11 * m) len) ≡ len = span_length T.keys (11 * m) len (omega (arith, sz.keys_room)) in
      let c : length (span T.values (11 * m) len) ≡ len = span_length T.values (11 * m) len (omega (arith, sz.values_room)) in
      let p = pairs (span T.keys (11 * m) len) (span T.values (11 * m) len) (a ∙ sym c) in
      let n : len ≡ length p.es = sym a ∙ ap length p.keys ∙ length-map p.es first in
      rows_of m (begins T.heads h b) (count T h b m) p.es
      (three p.es (begins T.heads h b) (count T h b m) (omega (arith, w.ordered, w.within)))
      n (ap (span T.keys (11 * m)) (sym n) ∙ p.keys) (ap (span T.values (11 * m)) (sym n) ∙ p.values)

-- ---- bounds

index_none : (H : List Head) (h : ℕ) (o : Option Handle) (d : ℕ) → o ≡ None → index_in H h o d ≡ d
index_none H h o d q = ap (λ o. index_in H h o d) q

under_some : (H : List Head) (h m : ℕ) (o : Option Handle) (d : ℕ) (e : Handle) → o ≡ Some e → Under H h m o → up_from H h e ≡ handle m (index_in H h o d)
under_some H h m o d e q u = let v = subst (Under H h m) q u in ap₂ handle v.1 (sym (ap (λ o. index_in H h o d) q))

up_zero : (H : List Head) (e : Handle) → up_from H zero e ≡ e
unfolding up_from
up_zero H e = refl

module _ {K V : Type 0} (T : Tables K V) (least : ℕ) (b : Bounds) (h m : ℕ) (w : Fits T least b h m) (r : Rows T m (begins T.heads h b) (count T h b m)) where
  long : (head_at T m).len ≡ length r.us + (length r.row + length r.vs)
  long = r.len_is ∙ length-append r.us (r.row ++ r.vs) ∙ ap (λ n. length r.us + n) (length-append r.row r.vs)

  pub rows_whole : (s : Side) → bound s b ≡ None → length (outer s r.us r.vs) ≡ 0
  rows_whole First q = r.before ∙ index_none T.heads h b.front 0 q
  rows_whole Last q =
      let z : ends T.heads h b m ≡ (head_at T m).len = index_none T.heads h b.back (head_at T m).len q in
      omega (arith, long, r.before, r.shown, w.ordered)

  pub rows_edge : (s : Side) (e : Handle) → bound s b ≡ Some e → up_from T.heads h e ≡ handle m (edge_at s (length r.us) (length r.row))
  rows_edge First e q = under_some T.heads h m b.front 0 e q w.front ∙ ap (handle m) (sym r.before)
  rows_edge Last e q =
      let z : ends T.heads h b m ≡ length r.us + length r.row = omega (arith, r.before, r.shown, w.ordered) in
      under_some T.heads h m b.back (head_at T m).len e q w.back ∙ ap (handle m) z

  -- the node with its children
  pub rows_pane : (ts : List (Tree (K × V))) (ks ls : List ℕ) → Run itself (head_at T m).edges 0 (ks ++ (map number ts ++ ls))
      → (p : Pane T least b (mk m r.row ts)) × (p.us ≡ r.us) × (p.vs ≡ r.vs) × (p.ks ≡ ks) × (p.ls ≡ ls)
  rows_pane ts ks ls e = (
    record {
      us = r.us;
      vs = r.vs;
      ks = ks;
      ls = ls;
      node_is = record {
        inside = w.lies.inside;
        few = omega (arith, r.len_is, w.lies.few);
        len_is = r.len_is;
        keys_are = r.keys_are;
        values_are = r.values_are;
        edges_are = subst (λ ns. Run itself (head_at T m).edges 0 (ks ++ (ns ++ ls))) (sym (numbers_mk m r.row ts)) e;
      };
      enough = omega (arith, r.len_is, w.enough);
      whole = rows_whole;
    },
    refl,
    refl,
    refl,
    refl,
  )

-- ---- a tree that was found

pub record Finds {K V : Type 0} (compares : K → K → Ordering) (T : Tables K V) (least : ℕ) (b : Bounds) (h m : ℕ) (s : Trail K) : Type 0 where
  pub t : Tree (K × V)
  pub number_is : number t ≡ m
  pub shown : Shown T least b h t
  pub notes : Notes compares (map first (flat h t)) s.run
  pub took : Took (λ x. occurs x h t) (map first (flat h t)) s (pass T b h m s)

module _ {K V : Type 0} (compares : K → K → Ordering) (T : Tables K V) where
  flat_leaf : (m : ℕ) (es : List (K × V)) → flat zero (mk m es []) ≡ es
  unfolding flat
  flat_leaf m es = refl

  find_leaf : (least : ℕ) (b : Bounds) (m : ℕ) (s : Trail K) → Leaf compares T least b m s → Finds compares T least b zero m s
  find_leaf least b m s w =
      let i : ℕ = begins T.heads zero b in
      let n : ℕ = ends T.heads zero b m - i in
      let r = rows T least b zero m w.fits in
      let p = rows_pane T least b zero m w.fits r [] [] [] refl in
      let keys : keys_of T m i n ≡ map first r.row = ap (span T.keys (11 * m + i)) (sym r.shown) ∙ r.keys_here in
      let keys' : keys_of T m i n ≡ map first (flat zero (mk m r.row [])) = keys ∙ ap (map first) (sym (flat_leaf m r.row)) in
      let s1 : Trail K = marked m s in
      record {
        t = mk m r.row [];
        number_is = refl;
        shown = leaf_shown T least b (mk m r.row []) (record {
          pane = p.0;
          bare = refl;
          no_edges = ap₂ (λ ks ls. length ks + length ls) p.3 p.4;
          here = λ u e q. sym (up_zero T.heads e) ∙ rows_edge T least b zero m w.fits r u e q ∙ ap (λ us. handle m (edge_at u (length us) (length r.row))) (sym p.1);
        });
        notes = subst (λ ks. Notes compares ks s.run) keys' w.notes;
        took = took_leaf T b (mk m r.row []) s w.unmet keys';
      }

  -- ---- the children from i on, with the entries es between them

  pub record FindsKids (h m n i : ℕ) (b : Bounds) (es : List (K × V)) (s : Trail K) : Type 0 where
    pub ts : List (Tree (K × V))
    pub many : length ts ≡ suc (length es)
    pub among : Among (λ c k. Shown T 4 c h k) b ts
    pub edges : Run itself (head_at T m).edges i (map number ts)
    pub linked : Linked T m i (map number ts)
    pub notes : Notes compares (map first (weave (map (flat h) ts) es)) s.run
    pub took : Took (λ x. total (occurs x h) ts) (map first (weave (map (flat h) ts) es)) s (stepped T (after T h) m n i b s)

  among_cons : {X : Type 0} (P : Bounds → X → Type 0) (b : Bounds) (k : X) (ks : List X) → 0 < length ks → P (only First b) k → Among P (only Last b) ks → Among P b (k ∷ ks)
  among_cons P b k [] l p a = absurd (omega arith)
  among_cons P b k (k' ∷ ks) l p a = (p, a)

  edge_run : (m i c : ℕ) → i < length (head_at T m).edges → c ≡ edge T.heads m i → Run itself (head_at T m).edges i (c ∷ [])
  edge_run m i c l q = span_one (head_at T m).edges i c l (q ∙ get_or_default (head_at T m).edges i 0 c l)

  link_one : (m i c : ℕ) → Link T m i c → Linked T m i (c ∷ [])
  link_one m i c l zero b = let z : i ≡ i + 0 = omega arith in subst (λ j. Link T m j c) z l
  link_one m i c l (suc j) b = absurd (omega arith)

  find_one : (h m i : ℕ) (b : Bounds) (s : Trail K) → i ≤ (head_at T m).len → Led T m i → Finds compares T 4 b h (edge T.heads m i) s → FindsKids h m zero i b [] s
  find_one h m i b s l d f = record {
    ts = f.t ∷ [];
    many = refl;
    among = f.shown;
    edges = edge_run m i (number f.t) (omega (arith, d.wide)) f.number_is;
    linked = link_one m i (number f.t) (subst (λ c. Link T m i c) (sym f.number_is) d.link);
    notes = f.notes;
    took = took_one T h m i b f.t s f.took;
  }

  find_more : (h m n i : ℕ) (b : Bounds) (e : K × V) (es : List (K × V)) (s : Trail K) → i ≤ (head_at T m).len → keys_of T m i 1 ≡ first e ∷ [] → More compares T (Kid compares T h) (after T h) m n i b s
      → (f : Finds compares T 4 (only First b) h (edge T.heads m i) s)
      → FindsKids h m n (i + 1) (only Last b) es (moved T m i 1 (after T h (only First b) (edge T.heads m i) s))
      → FindsKids h m (suc n) i b (e ∷ es) s
  find_more h m n i b e es s l q w f g =
      let H = T.heads in
      let c : ℕ = edge H m i in
      let s1 : Trail K = after T h (only First b) c s in
      let s2 : Trail K = moved T m i 1 s1 in
      let ks : List K = map first (flat h f.t) in
      let ls : List K = map first (weave (map (flat h) g.ts) es) in
      let one : List K = keys_of T m i 1 in
      let es-is : List (K × V) = weave (map (flat h) g.ts) es in
      let split : ks ++ (one ++ ls) ≡ map first (flat h f.t ++ e ∷ es-is) = ap (λ o. ks ++ (o ++ ls)) q ∙ sym (map-append first (flat h f.t) (e ∷ es-is)) in
      let t2 : Took (λ _. 0) one s1 s2 = took_keys one s1 in
      record {
        ts = f.t ∷ g.ts;
        many = ap suc g.many;
        among = among_cons (λ c k. Shown T 4 c h k) b f.t g.ts (omega (arith, g.many)) f.shown g.among;
        edges = run_append itself (head_at T m).edges i (number f.t ∷ []) (map number g.ts) (edge_run m i (number f.t) (omega (arith, w.led.wide)) f.number_is) g.edges;
        linked = linked_append T m i (number f.t ∷ []) (map number g.ts) (link_one m i (number f.t) (subst (λ c. Link T m i c) (sym f.number_is) w.led.link)) g.linked;
        notes = subst (λ ks. Notes compares ks s.run) split
            (notes_append compares ks (one ++ ls) s.run f.notes
            (subst (λ r. Notes compares (one ++ ls) r) f.took.run (notes_append compares one ls s1.run w.notes (subst (λ r. Notes compares ls r) t2.run g.notes))));
        took = took_more T h m n i b f.t g.ts e es s q f.took g.took;
      }

  module _ (h : ℕ) (sound : (c : Bounds) (k : ℕ) (s : Trail K) → Passable compares T 4 c h k s → Finds compares T 4 c h k s) where
    find_kids : (m n i : ℕ) (b : Bounds) (es : List (K × V)) (s : Trail K) → length es ≡ n → i + n ≤ (head_at T m).len → Run first T.keys (11 * m + i) es
        → Steps compares T (Kid compares T h) (after T h) m n i b s → FindsKids h m n i b es s
    find_kids m zero i b [] s z l r w =
        let v = steps_one compares T (Kid compares T h) (after T h) m i b s w in find_one h m i b s (omega arith) v.0 (sound b (edge T.heads m i) s v.1)
    find_kids m zero i b (e ∷ es) s z l r w = absurd (omega arith)
    find_kids m (suc n) i b [] s z l r w = absurd (omega arith)
    find_kids m (suc n) i b (e ∷ es) s z l r w =
        let v = steps_more compares T (Kid compares T h) (after T h) m n i b s w in
        let p = run_parts first T.keys (11 * m + i) (e ∷ []) es r in
        let y : 11 * m + i + 1 ≡ 11 * m + (i + 1) = omega arith in
        let s2 = moved T m i 1 (after T h (only First b) (edge T.heads m i) s) in
        find_more h m n i b e es s (omega arith) p.0 v (sound (only First b) (edge T.heads m i) s v.kid)
        (find_kids m n (i + 1) (only Last b) es s2 (omega arith) (omega arith) (subst (λ a. Run first T.keys a es) y p.1) v.rest)

  -- all edges of a node, of which those of ts are shown
  edges_three : (xs : List ℕ) (i n len : ℕ) (ns : List ℕ) → len < length xs → i + n ≤ len → length ns ≡ suc n → Run itself xs i ns
      → (ks : List ℕ) × (ls : List ℕ) × Run itself xs 0 (ks ++ (ns ++ ls)) × (length ks ≡ i) × (length ls ≡ len - (i + n))
  edges_three xs i n len ns l q z r =
      let ks = span xs 0 i in
      let a : length ks ≡ i = span_length xs 0 i (omega arith) in
      let j : ℕ = i + length ns in
      let ls = span xs j (len - (i + n)) in
      let b : length ls ≡ len - (i + n) = span_length xs j (len - (i + n)) (omega arith) in
      let k-run : Run itself xs 0 ks = ap (span xs 0) a ∙ sym (itself_map ks) in
      let l-run : Run itself xs j ls = ap (span xs j) b ∙ sym (itself_map ls) in
      let y : i ≡ 0 + length ks = omega arith in
      (ks, ls, run_append itself xs 0 ks (ns ++ ls) k-run (subst (λ a. Run itself xs a (ns ++ ls)) y (run_append itself xs i ns ls r l-run)), a, b)

  find_above : (least : ℕ) (b : Bounds) (h m : ℕ) (s : Trail K) (w : Above compares T least b h m s) (r : Rows T m (begins T.heads (suc h) b) (count T (suc h) b m))
      → Led T m (begins T.heads (suc h) b)
      → FindsKids h m (count T (suc h) b m) (begins T.heads (suc h) b) b r.row (marked m s) → Finds compares T least b (suc h) m s
  find_above least b h m s w r d g =
      let i : ℕ = begins T.heads (suc h) b in
      let n : ℕ = ends T.heads (suc h) b m - i in
      let t : Tree (K × V) = mk m r.row g.ts in
      let len : ℕ = (head_at T m).len in
      let few : i + n ≤ len = omega (arith, w.fits.ordered, w.fits.within) in
      let e = edges_three (head_at T m).edges i n len (map number g.ts) d.wide few (length-map g.ts number ∙ g.many ∙ ap suc r.shown) g.edges in
      let p = rows_pane T least b (suc h) m w.fits r g.ts e.0 e.1 e.2 in
      let s1 : Trail K = marked m s in
      let s2 : Trail K = stepped T (after T h) m n i b s1 in
      let keys : List K = map first (weave (map (flat h) g.ts) r.row) in
      let flat-is : keys ≡ map first (flat (suc h) t) = ap (map first) (sym (flat_mk h m r.row g.ts)) in
      record {
        t = t;
        number_is = refl;
        shown = inner_shown T least b h t
            (record {
              pane = p.0;
              fan = ap length (kids_mk m r.row g.ts) ∙ g.many;
              before = ap length p.3 ∙ e.3 ∙ sym r.before ∙ ap length (sym p.1);
              behind = ap length p.4 ∙ e.4 ∙ omega (arith, long T least b (suc h) m w.fits r, r.before, r.shown, w.fits.ordered, w.fits.within, ap length p.2);
              linked = subst (λ ns. Linked T m (length p.0.us) ns) (sym (numbers_mk m r.row g.ts)) (subst (λ j. Linked T m j (map number g.ts)) (sym r.before ∙ ap length (sym p.1)) g.linked);
            })
            (subst (λ ts. Among (λ c k. Shown T 4 c h k) b ts) (sym (kids_mk m r.row g.ts)) g.among);
        notes = subst (λ ks. Notes compares ks s.run) flat-is (subst (λ r. Notes compares keys r) refl g.notes);
        took = took_above T b h t s w.unmet (subst (λ ts. Took (λ x. total (occurs x h) ts) (map first (weave (map (flat h) ts) r.row)) s1 s2) (sym (kids_mk m r.row g.ts)) g.took);
      }

  first_led : (h m n i : ℕ) (b : Bounds) (s : Trail K) → Steps compares T (Kid compares T h) (after T h) m n i b s → Led T m i
  first_led h m zero i b s w = (steps_one compares T (Kid compares T h) (after T h) m i b s w).0
  first_led h m (suc n) i b s w = (steps_more compares T (Kid compares T h) (after T h) m n i b s w).led

  pub finds : (least : ℕ) (b : Bounds) (h m : ℕ) (s : Trail K) → Passable compares T least b h m s → Finds compares T least b h m s
  finds least b zero m s w = find_leaf least b m s (passable_leaf compares T least b m s w)
  finds least b (suc h) m s w =
      let v = passable_above compares T least b h m s w in
      let i : ℕ = begins T.heads (suc h) b in
      let n : ℕ = ends T.heads (suc h) b m - i in
      let r = rows T least b (suc h) m v.fits in
      find_above least b h m s v r (first_led h m n i b (marked m s) v.steps)
      (find_kids h (λ c k s p. finds 4 c h k s p) m n i b r.row (marked m s) r.shown (omega (arith, v.fits.ordered, v.fits.within)) r.keys_here v.steps)
