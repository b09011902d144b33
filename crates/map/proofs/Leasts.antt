-- What comes first among entries that are the same as a query. Assumes nothing.
use Rattle.std.proofs.Common.{◌≡◌, ℕ, zero, suc, ◌+◌, ◌-◌, ◌*◌, ◌<◌, Bool, true, false, cond, List, [], ◌∷◌, ◌++◌, map, length, get_or, take, drop, Some, None, Option, Ordering, Less, Equal, Greater, sym, refl, ap, ◌∙◌, subst, ap₂, arith, take-append-drop}
use Rattle.std.specs.Ordering.{is_lt, is_le, is_gt, is_eq}
use lib.ListN.{length-map}
use lib.Seq.{split_at}
use Rattle.std.proofs.lemmas.List.{get_or-map, length-take-le}
use Rattle.std.proofs.lemmas.List.Elements.{All-nil, All-cons, All-head, All-tail}
use Rattle.order.specs.Found.{first_not_below, found_at}
use Rattle.order.specs.Laws.{Placed}
use Rattle.node.specs.declared.nodes.NodeRef.{NodeRef}
use Rattle.node.specs.declared.nodes.Internal.{Internal}
use Rattle.node.specs.declared.nodes.ForceResult.TheVariants as kind
use Rattle.node.specs.Kinds.{forced}
use Rattle.node.specs.Shape.{Tree, node, none, number, row, kids, kid, flat, before, after, weave}
use Rattle.node.specs.Sorted.{Sorted, Downward, Rising}
use Rattle.node.specs.Store.{Tables, Node, Holds, head_at, first, second, numbers}
use Rattle.node.proofs.Forced.{forced_inner}
use Rattle.node.proofs.Frames.{height_suc, holds_node, holds_fan, holds_kid}
use Rattle.node.proofs.Runs.{run_at, edge_is}
use Rattle.node.proofs.Sorting.{sorted_rises}
use Rattle.rules.proofs.Nodes.{flat_open}
use Rattle.rules.proofs.Sorts.{sorted_parts}
use Rattle.rules.proofs.Ways.{before_yes}
use Rattle.order.specs.declared.search.SearchResult.{SearchResult}
use Rattle.order.specs.declared.search.SearchResult.TheVariants.{Found, GoDown}
use Rattle.order.specs.Found.{index_of}
use Rattle.node.specs.Cells.{span, Run}
use Rattle.rules.proofs.Searches.{first_map, found_map, found_within}
use Rattle.map.specs.Lookup.{nth, InOrder, SearchedIn, keys_at}
use Rattle.map.proofs.Seeking.{was_found, was_passed, nth_at}
use Rattle.std.specs.Option.{option_or}
use Rattle.map.specs.Least.{first_same, same_in, Hits, LeastIn, LeastStands}
use Rattle.map.proofs.Finds.{at, at_le, hit, Not, stops_above, above_not, below_not, after_above, front_below}

pub or_assoc : {E : Type 0} (x y z : Option E) → option_or (option_or x y) z ≡ option_or x (option_or y z)
or_assoc None y z = refl
or_assoc (Some x) y z = refl

pub or_none : {E : Type 0} (x : Option E) → option_or x None ≡ x
or_none None = refl
or_none (Some x) = refl

module _ {E : Type 0} (place : E → Ordering) where
  eq_not : (o : Ordering) → (o ≡ Equal → ⊥) → is_eq o ≡ false
  eq_not Less n = refl
  eq_not Equal n = absurd (n refl)
  eq_not Greater n = refl

  pub same_none : (l : List E) → Not place l → first_same place l ≡ None
  same_none [] n = refl
  same_none (e ∷ es) n =
      ap (λ x. cond x (Some e) (first_same place es)) (eq_not (place e) (All-head (λ e. place e ≡ Equal → ⊥) e es n)) ∙ same_none es (All-tail (λ e. place e ≡ Equal → ⊥) e es n)

  pub same_append : (xs ys : List E) → first_same place (xs ++ ys) ≡ option_or (first_same place xs) (first_same place ys)
  same_append [] ys = refl
  same_append (x ∷ xs) ys = go (is_eq (place x)) (same_append xs ys)
    where
      go : (f : Bool) → first_same place (xs ++ ys) ≡ option_or (first_same place xs) (first_same place ys)
          → cond f (Some x) (first_same place (xs ++ ys)) ≡ option_or (cond f (Some x) (first_same place xs)) (first_same place ys)
      go true ih = refl
      go false ih = ih

  same_first : (e : E) (es : List E) → place e ≡ Equal → first_same place (e ∷ es) ≡ Some e
  same_first e es q = ap (λ o. cond (is_eq o) (Some e) (first_same place es)) q

  module _ (le : E → E → Bool) (up : (x y : E) → le x y ≡ true → place x ≡ Less → place y ≡ Less) (down : Downward le (λ e. is_gt (place e))) where
    -- what stands behind the entries below the query
    behind : (t : Tree E) (ls : List (List E)) → Sorted le (after ls (drop (at place t) (row t))) → first_same place (after ls (drop (at place t) (row t))) ≡ same_in place (row t)
    behind t ls s = go (found_at place (row t)) refl
      where
        go : (f : Bool) → found_at place (row t) ≡ f → first_same place (after ls (drop (at place t) (row t))) ≡ cond f (nth (row t) (at place t)) None
        go true f = let x = hit place (row t) f in ap (λ l. first_same place (after ls l)) x.there ∙ same_first x.entry (weave ls x.rest) x.same ∙ sym x.nth_is
        go false f = same_none (after ls (drop (at place t) (row t))) (above_not place le up down (after ls (drop (at place t) (row t))) (after_above place le up down ls (drop (at place t) (row t)) (stops_above place (row t) f)) s)

    leaf_behind : (t : Tree E) → Sorted le (drop (at place t) (row t)) → first_same place (drop (at place t) (row t)) ≡ same_in place (row t)
    leaf_behind t s = go (found_at place (row t)) refl
      where
        go : (f : Bool) → found_at place (row t) ≡ f → first_same place (drop (at place t) (row t)) ≡ cond f (nth (row t) (at place t)) None
        go true f = let x = hit place (row t) f in ap (first_same place) x.there ∙ same_first x.entry x.rest x.same ∙ sym x.nth_is
        go false f = same_none (drop (at place t) (row t)) (above_not place le up down (drop (at place t) (row t)) (stops_above place (row t) f) s)

    pub least_leaf : (t : Tree E) → Sorted le (row t) → first_same place (row t) ≡ same_in place (row t)
    least_leaf t s =
        let e : take (at place t) (row t) ++ drop (at place t) (row t) ≡ row t = take-append-drop (at place t) (row t) in
        let p = sorted_parts le (take (at place t) (row t)) (drop (at place t) (row t)) (subst (Sorted le) (sym e) s) in
        ap (first_same place) (sym e) ∙ same_append (take (at place t) (row t)) (drop (at place t) (row t))
        ∙ ap (λ x. option_or x (first_same place (drop (at place t) (row t)))) (same_none (take (at place t) (row t)) (below_not place le up down (take (at place t) (row t)) (front_below place le up down t)))
        ∙ leaf_behind t p.1

    module _ (h : ℕ) (t : Tree E) (fan : length (kids t) ≡ suc (length (row t))) (s : Sorted le (flat (suc h) t)) where
      abbrev ante : List E
      ante = before (map (flat h) (take (at place t) (kids t))) (take (at place t) (row t))

      abbrev ls : List (List E)
      ls = map (flat h) (drop (suc (at place t)) (kids t))

      abbrev post : List E
      post = after ls (drop (at place t) (row t))

      abbrev mid : List E
      mid = flat h (kid t (at place t))

      open_at : flat (suc h) t ≡ ante ++ (mid ++ post)
      open_at = flat_open h t (at place t) (at_le place t) fan

      parts : Sorted le ante × (Sorted le mid × Sorted le post)
      parts =
          let p = sorted_parts le ante (mid ++ post) (subst (Sorted le) open_at s) in
          (p.0, sorted_parts le mid post p.1)

      pub least_inner : first_same place (flat (suc h) t) ≡ option_or (first_same place mid) (same_in place (row t))
      least_inner =
          let r : Rising (λ e. is_gt (place e)) ante = sorted_rises le (λ e. is_gt (place e)) down ante parts.0 in
          let n : first_same place ante ≡ None =
          same_none ante (below_not place le up down ante
          (before_yes (λ e. is_gt (place e)) (map (flat h) (take (at place t) (kids t))) (take (at place t) (row t)) (front_below place le up down t) r)) in
          ap (first_same place) open_at ∙ same_append ante (mid ++ post) ∙ ap (λ x. option_or x (first_same place (mid ++ post))) n
          ∙ same_append mid post ∙ ap (option_or (first_same place mid)) (behind t ls parts.1.1)

      pub mid_sorted : Sorted le mid
      mid_sorted = parts.1.0

    -- the first is the least
    pub least_in : (l : List E) → Sorted le l → LeastIn place l (first_same place l)
    least_in [] s = All-nil (λ e. place e ≡ Equal → ⊥)
    least_in (e ∷ es) s = go (place e) refl (least_in es s.1)
      where
        over : place e ≡ Greater → (r : Option E) → LeastIn place es r → LeastIn place (e ∷ es) r
        over p None a = All-cons (λ e. place e ≡ Equal → ⊥) e es (λ q. let z : ◌≡◌ {A = Ordering} Greater Equal = sym p ∙ q in let y : ◌≡◌ {A = ℕ} 0 1 = cc in omega arith) a
        over p (Some x) a = record { ante = e ∷ a.ante; post = a.post; was = ap (λ l. e ∷ l) a.was; same = a.same; below = All-cons (λ x. place x ≡ Greater) e a.ante p a.below }

        go : (o : Ordering) → place e ≡ o → LeastIn place es (first_same place es) → LeastIn place (e ∷ es) (cond (is_eq o) (Some e) (first_same place es))
        go Less p a =
            let n = above_not place le up down (e ∷ es) p s in
            subst (LeastIn place (e ∷ es)) (sym (same_none es (All-tail (λ e. place e ≡ Equal → ⊥) e es n))) n
        go Equal p a = record { ante = []; post = es; was = refl; same = p; below = All-nil (λ x. place x ≡ Greater) }
        go Greater p a = over p (first_same place es) a

-- ---- for queries

less_le : (o : Ordering) → is_lt o ≡ true → is_le o ≡ true
less_le Less e = refl
less_le Equal e = let z : ◌≡◌ {A = ℕ} 0 1 = cc in absurd (omega arith)
less_le Greater e = let z : ◌≡◌ {A = ℕ} 0 1 = cc in absurd (omega arith)

gt_is : (o : Ordering) → is_gt o ≡ true → o ≡ Greater
gt_is Less e = let z : ◌≡◌ {A = ℕ} 0 1 = cc in absurd (omega arith)
gt_is Equal e = let z : ◌≡◌ {A = ℕ} 0 1 = cc in absurd (omega arith)
gt_is Greater e = refl

module _ {K V Q : Type 0} {compares : K → K → Ordering} {places : Q → K → Ordering} (p : Placed compares places) (q : Q) where
  abbrev pub before_key : K × V → K × V → Bool
  before_key x y = is_lt (compares (first x) (first y))

  abbrev pub placing : K × V → Ordering
  placing e = places q (first e)

  pub rises : (x y : K × V) → before_key x y ≡ true → placing x ≡ Less → placing y ≡ Less
  rises x y l u = p.under q (first x) (first y) (less_le (compares (first x) (first y)) l) u

  pub falls : Downward before_key (λ e. is_gt (placing e))
  falls x y l u = let g : placing y ≡ Greater = gt_is (placing y) u in ap is_gt (p.over q (first x) (first y) (less_le (compares (first x) (first y)) l) g)

pub least_stands : {K V Q : Type 0} → LeastStands K V Q
least_stands compares places q l p s = least_in (λ e. places q (first e)) (λ x y. is_lt (compares (first x) (first y))) (rises p q) (falls p q) l s

-- ---- in one node

entry_is : {K V : Type 0} (ks : List K) (vs : List V) (a i : ℕ) (es : List (K × V)) (k : K) (v : V) → Run first ks a es → Run second vs a es → i < length es
    → k ≡ get_or ks (a + i) k → v ≡ get_or vs (a + i) v → nth es i ≡ Some (k, v)
entry_is ks vs a i [] k v r s l p q = absurd (omega arith)
entry_is {K} {V} ks vs a i (d ∷ ds) k v r s l p q =
    let es : List (K × V) = d ∷ ds in
    let e : K × V = get_or es i d in
    let parts : es ≡ take i es ++ e ∷ drop (suc i) es = split_at es i d l in
    let n : length (take i es) ≡ i = length-take-le i es (omega arith) in
    let x : k ≡ first e = run_at first ks a i (take i es) e (drop (suc i) es) k (subst (λ (l : List (K × V)). Run first ks a l) parts r) n p in
    let y : v ≡ second e = run_at second vs a i (take i es) e (drop (suc i) es) v (subst (λ (l : List (K × V)). Run second vs a l) parts s) n q in
    ap (λ l. nth l i) parts ∙ nth_at (take i es) e (drop (suc i) es) i n ∙ ap Some (sym (ap₂ (λ (a : K) (b : V). (a, b)) x y))

module _ {K V : Type 0} (place : K → Ordering) (T : Tables K V) (m : ℕ) {r : SearchResult} (made : ℕ) (w : SearchedIn place T m r made) (i : ℕ) where
  abbrev here : K × V → Ordering
  here e = place (first e)

  module _ (es : List (K × V)) (ks : List ℕ) (n : Node T m es ks) where
    keys : keys_at T m ≡ map first es
    keys = ap (span T.keys (11 * m)) n.len_is ∙ n.keys_are

    found_is : found_at place (keys_at T m) ≡ found_at here es
    found_is = ap (found_at place) keys ∙ found_map first place es

    index_is : first_not_below place (keys_at T m) ≡ first_not_below here es
    index_is = ap (first_not_below place) keys ∙ first_map first place es

  pub hits_found : (k : K) (v : V) → r ≡ Found i → k ≡ get_or T.keys (11 * m + i) k → v ≡ get_or T.values (11 * m + i) v → Hits place T m i (Some (k, v))
  hits_found k v e p q =
      let f = was_found (found_at place (keys_at T m)) (first_not_below place (keys_at T m)) i (w.result ∙ e) in
      record {
        lies = w.lies;
        few = omega (arith, w.few, ap index_of e);
        here = λ es ks n. sym f.1 ∙ index_is es ks n;
        hit_is = λ es ks n.
            let yes' : found_at here es ≡ true = sym (found_is es ks n) ∙ f.0 in
            let j : first_not_below here es ≡ i = sym (index_is es ks n) ∙ f.1 in
            let l : i < length es = omega (arith, j, found_within here es yes') in
            sym (ap (λ b. cond b (nth es (first_not_below here es)) None) yes' ∙ ap (nth es) j ∙ entry_is T.keys T.values (11 * m) i es k v n.keys_are n.values_are l p q);
      }

  pub hits_none : r ≡ GoDown i → Hits place T m i None
  hits_none e =
      let f = was_passed (found_at place (keys_at T m)) (first_not_below place (keys_at T m)) i (w.result ∙ e) in
      record {
        lies = w.lies;
        few = omega (arith, w.few, ap index_of e);
        here = λ es ks n. sym f.1 ∙ index_is es ks n;
        hit_is = λ es ks n. sym (ap (λ b. cond b (nth es (first_not_below here es)) None) (sym (found_is es ks n) ∙ f.0));
      }

-- ---- on the way down

-- from the root the search came to node n: what it finds under n is the answer, or else what it met above
pub record CameLeast {K V : Type 0} (compares : K → K → Ordering) (place : K → Ordering) (T : Tables K V) (root n : NodeRef) (least : Option (K × V)) : Type 0 where
  pub under : (t : Tree (K × V)) → Holds T root.height t → number t ≡ root.node → InOrder compares (flat root.height t)
      → (u : Tree (K × V)) × Holds T n.height u × (number u ≡ n.node) × InOrder compares (flat n.height u)
      × (first_same (λ e. place (first e)) (flat root.height t) ≡ option_or (first_same (λ e. place (first e)) (flat n.height u)) least)

pub came_root : {K V : Type 0} (compares : K → K → Ordering) (place : K → Ordering) (T : Tables K V) (root : NodeRef) → CameLeast compares place T root root None
came_root compares place T root = record { under = λ t w e s. (t, w, e, s, sym (or_none (first_same (λ e. place (first e)) (flat root.height t)))) }

module _ {K V Q : Type 0} {compares : K → K → Ordering} {places : Q → K → Ordering} (p : Placed compares places) (q : Q) (T : Tables K V) (root n : NodeRef) (least : Option (K × V))
    (c : CameLeast compares (places q) T root n least) (i : ℕ) (hit' : Option (K × V)) (v : Hits (places q) T n.node i hit') where
  abbrev pl : K × V → Ordering
  pl e = places q (first e)

  abbrev le : K × V → K × V → Bool
  le x y = is_lt (compares (first x) (first y))

  leaf_is : (h : ℕ) → h ≡ 0 → (u : Tree (K × V)) → Holds T h u → number u ≡ n.node → InOrder compares (flat h u) → first_same pl (flat h u) ≡ hit'
  unfolding flat
  leaf_is zero z u w e s =
      let nd = subst (λ x. Node T x (row u) (numbers u)) e (holds_node T 0 u w) in
      least_leaf pl le (rises p q) (falls p q) u s ∙ sym (v.hit_is (row u) (numbers u) nd)
  leaf_is (suc h) z u w e s = absurd (omega arith)

  -- at a leaf
  pub came_leaf : n.height ≡ 0 → (t : Tree (K × V)) → Holds T root.height t → number t ≡ root.node → InOrder compares (flat root.height t) → first_same pl (flat root.height t) ≡ option_or hit' least
  came_leaf z t w e s =
      let u = c.under t w e s in
      u.4 ∙ ap (λ x. option_or x least) (leaf_is n.height z u.0 u.1 u.2 u.3)

  lower : (h : ℕ) (u : Tree (K × V)) → Holds T (suc h) u → number u ≡ n.node → InOrder compares (flat (suc h) u)
      → Holds T h (kid u i) × (number (kid u i) ≡ get_or (head_at T n.node).edges i 0) × InOrder compares (flat h (kid u i))
      × (first_same pl (flat (suc h) u) ≡ option_or (first_same pl (flat h (kid u i))) hit')
  lower h u w e s =
      let nd = subst (λ x. Node T x (row u) (numbers u)) e (holds_node T (suc h) u w) in
      let fan = holds_fan T h u w in
      let j : i ≡ first_not_below pl (row u) = v.here (row u) (numbers u) nd in
      let inside : i < length (kids u) = omega (arith, j, fan, at_le pl u) in
      let m = least_inner pl le (rises p q) (falls p q) h u fan s in
      let o = mid_sorted pl le (rises p q) (falls p q) h u fan s in (
        holds_kid T h u i w inside,
        sym (edge_is (head_at T n.node).edges [] (numbers u) 0 i i nd.edges_are refl (omega (arith, inside, length-map (kids u) number)) (omega arith) ∙ get_or-map number (kids u) i (node 0 [] none) 0 inside),
        subst (λ k. InOrder compares (flat h (kid u k))) (sym j) o,
        m ∙ ap (λ k. option_or (first_same pl (flat h (kid u k))) (same_in pl (row u))) (sym j) ∙ ap (option_or (first_same pl (flat h (kid u i)))) (sym (v.hit_is (row u) (numbers u) nd)),
      )

  -- one level lower
  pub came_lower : (inner : Internal) (x : NodeRef) → kind.Internal inner ≡ forced n → x.node ≡ get_or (head_at T inner.node).edges i 0 → x.height ≡ inner.height - 1
      → CameLeast compares (places q) T root x (option_or hit' least)
  came_lower inner x f node-is height-is =
      let k = forced_inner n inner f in
      let up : 0 < n.height = k.0 in
      let z : x.height ≡ n.height - 1 = height-is ∙ ap (λ h. h - 1) k.2 in
      record {
        under = λ t w e s.
            let u = c.under t w e s in
            let d = lower (n.height - 1) u.0 (subst (λ h. Holds T h u.0) (height_suc n.height up) u.1) u.2 (subst (λ h. InOrder compares (flat h u.0)) (height_suc n.height up) u.3) in (
              kid u.0 i,
              subst (λ h. Holds T h (kid u.0 i)) (sym z) d.0,
              d.1 ∙ sym (subst (λ m. x.node ≡ get_or (head_at T m).edges i 0) k.1 node-is),
              subst (λ h. InOrder compares (flat h (kid u.0 i))) (sym z) d.2,
              u.4 ∙ ap (λ h. option_or (first_same pl (flat h u.0)) least) (height_suc n.height up) ∙ ap (λ y. option_or y least) d.3
                  ∙ or_assoc (first_same pl (flat (n.height - 1) (kid u.0 i))) hit' least
                  ∙ ap (λ h. option_or (first_same pl (flat h (kid u.0 i))) (option_or hit' least)) (sym z),
            );
      }
