-- Lookup in one node, and down from it. Assumes nothing.
use Rattle.rules.proofs.Searches.{first_map, found_map, made_map, first_within, found_within}
use Rattle.std.proofs.Common.{◌≡◌, ℕ, zero, suc, ◌+◌, ◌-◌, ◌*◌, ◌<◌, ◌≤◌, Bool, true, false, cond, List, [], ◌∷◌, ◌++◌, map, length, get_or, take, drop, Some, None, Ok, Result, Ordering, sym, refl, ap, ◌∙◌, subst, ap₂, arith}
use lib.ListN.{length-map}
use lib.Seq.{split_at}
use Rattle.std.proofs.lemmas.List.{length-take-le, get_or-map}
use Rattle.order.specs.declared.search.SearchResult.{SearchResult}
use Rattle.order.specs.declared.search.SearchResult.TheVariants.{Found, GoDown}
use Rattle.order.specs.Found.{first_not_below, found_at, comparisons}
use Rattle.node.specs.declared.nodes.NodeRef.{NodeRef}
use Rattle.node.specs.declared.nodes.Internal.{Internal}
use Rattle.node.specs.declared.nodes.ForceResult.TheVariants as kind
use Rattle.node.specs.Kinds.{forced}
use Rattle.node.proofs.Forced.{forced_inner}
use Rattle.node.specs.Cells.{span, Run}
use Rattle.node.specs.Shape.{Tree, node, none, number, row, kids, kid}
use Rattle.node.specs.Store.{Tables, Node, Holds, head_at, first, second, numbers}
use Rattle.node.proofs.Runs.{run_at, edge_is}
use Rattle.node.proofs.Frames.{height_suc, holds_node, holds_fan, holds_kid}
use Rattle.map.specs.Lookup.{nth, seek, looks, value_of, SearchedIn, keys_at}

-- what a result says of the flag and the index
pub was_found : (b : Bool) (i j : ℕ) → cond b (Found i) (GoDown i) ≡ Found j → (b ≡ true) × (i ≡ j)
was_found true i j e = (refl, cc)
was_found false i j e = let z : ◌≡◌ {A = ℕ} 0 1 = cc in absurd (omega arith)

pub was_passed : (b : Bool) (i j : ℕ) → cond b (Found i) (GoDown i) ≡ GoDown j → (b ≡ false) × (i ≡ j)
was_passed true i j e = let z : ◌≡◌ {A = ℕ} 0 1 = cc in absurd (omega arith)
was_passed false i j e = (refl, cc)

-- ---- the rule at a node

module _ {E : Type 0} (place : E → Ordering) (t : Tree E) where
  abbrev at : ℕ
  at = first_not_below place (row t)

  pub seek_here : (h : ℕ) → found_at place (row t) ≡ true → (seek place h t ≡ nth (row t) at) × (looks place h t ≡ comparisons place (row t))
  unfolding seek looks
  seek_here zero f = (ap (λ b. cond b (nth (row t) at) None) f, refl)
  seek_here (suc h) f = (
    ap (λ b. cond b (nth (row t) at) (seek place h (kid t at))) f,
    ap (λ b. comparisons place (row t) + cond b 0 (looks place h (kid t at))) f ∙ omega arith,
  )

  pub seek_leaf : (h : ℕ) → h ≡ 0 → found_at place (row t) ≡ false → (seek place h t ≡ None) × (looks place h t ≡ comparisons place (row t))
  unfolding seek looks
  seek_leaf h z f = subst (λ k. (seek place k t ≡ None) × (looks place k t ≡ comparisons place (row t))) (sym z) (ap (λ b. cond b (nth (row t) at) None) f, refl)

  pub seek_down : (h : ℕ) → 0 < h → found_at place (row t) ≡ false
      → (seek place h t ≡ seek place (h - 1) (kid t at)) × (looks place h t ≡ comparisons place (row t) + looks place (h - 1) (kid t at))
  unfolding seek looks
  seek_down h up f =
      subst (λ k. (seek place k t ≡ seek place (h - 1) (kid t at)) × (looks place k t ≡ comparisons place (row t) + looks place (h - 1) (kid t at))) (sym (height_suc h up)) (
        ap (λ b. cond b (nth (row t) at) (seek place (h - 1) (kid t at))) f,
        ap (λ b. comparisons place (row t) + cond b 0 (looks place (h - 1) (kid t at))) f,
      )

-- ---- values

pub nth_at : {E : Type 0} (es : List E) (e : E) (fs : List E) (i : ℕ) → length es ≡ i → nth (es ++ e ∷ fs) i ≡ Some e
nth_at [] e fs zero p = refl
nth_at [] e fs (suc i) p = absurd (omega arith)
nth_at (x ∷ es) e fs zero p = absurd (omega arith)
nth_at (x ∷ es) e fs (suc i) p = nth_at es e fs i (omega arith)

pub value_at : {K V : Type 0} (vs : List V) (a i : ℕ) (es : List (K × V)) (x : V) → Run second vs a es → i < length es → x ≡ get_or vs (a + i) x → value_of (nth es i) ≡ Some x
value_at vs a i [] x r l q = absurd (omega arith)
value_at {K} {V} vs a i (d ∷ ds) x r l q =
    let es : List (K × V) = d ∷ ds in
    let e : K × V = get_or es i d in
    let parts : es ≡ take i es ++ e ∷ drop (suc i) es = split_at es i d l in
    let n : length (take i es) ≡ i = length-take-le i es (omega arith) in
    let same : x ≡ second e = run_at second vs a i (take i es) e (drop (suc i) es) x (subst (λ (l : List (K × V)). Run second vs a l) parts r) n q in
    ap (λ l. value_of (nth l i)) parts ∙ ap value_of (nth_at (take i es) e (drop (suc i) es) i n) ∙ ap Some (sym same)

-- ---- in the tables

module _ {K V : Type 0} (place : K → Ordering) (T : Tables K V) (h m : ℕ) (t : Tree (K × V)) (w : Holds T h t) (at-m : number t ≡ m) where
  abbrev pl : K × V → Ordering
  pl e = place (first e)

  here : Node T m (row t) (numbers t)
  here = subst (λ x. Node T x (row t) (numbers t)) at-m (holds_node T h t w)

  keys : keys_at T m ≡ map first (row t)
  keys = ap (span T.keys (11 * m)) here.len_is ∙ here.keys_are

  pub found_is : found_at place (keys_at T m) ≡ found_at pl (row t)
  found_is = ap (found_at place) keys ∙ found_map first place (row t)

  pub index_is : first_not_below place (keys_at T m) ≡ first_not_below pl (row t)
  index_is = ap (first_not_below place) keys ∙ first_map first place (row t)

  pub made_is : comparisons place (keys_at T m) ≡ comparisons pl (row t)
  made_is = ap (comparisons place) keys ∙ made_map first place (row t)

  -- the search came to r
  module _ {r : SearchResult} (made : ℕ) (v : SearchedIn place T m r made) where
    -- it found a key, whose value is x
    pub sought_here : (i : ℕ) (x : V) → r ≡ Found i → x ≡ get_or T.values (11 * m + i) x → (value_of (seek pl h t) ≡ Some x) × (looks pl h t ≡ made)
    sought_here i x e value =
        let f = was_found (found_at place (keys_at T m)) (first_not_below place (keys_at T m)) i (v.result ∙ e) in
        let yes' : found_at pl (row t) ≡ true = sym found_is ∙ f.0 in
        let s = seek_here pl t h yes' in
        let j : first_not_below pl (row t) ≡ i = sym index_is ∙ f.1 in
        let l : i < length (row t) = omega (arith, found_within pl (row t) yes') in (
          ap value_of (s.0 ∙ ap (nth (row t)) j) ∙ value_at T.values (11 * m) i (row t) x here.values_are l value,
          s.1 ∙ sym made_is ∙ sym v.count,
        )

  module _ {r : SearchResult} (i made : ℕ) (v : SearchedIn place T m r made) (e : r ≡ GoDown i) where
    pub passed_by : (found_at place (keys_at T m) ≡ false) × (first_not_below place (keys_at T m) ≡ i)
    passed_by = was_passed (found_at place (keys_at T m)) (first_not_below place (keys_at T m)) i (v.result ∙ e)

    -- it found none, in a leaf
    pub sought_none : h ≡ 0 → (value_of (seek pl h t) ≡ None) × (looks pl h t ≡ made)
    sought_none z = let s = seek_leaf pl t h z (sym found_is ∙ passed_by.0) in (ap value_of s.0, s.1 ∙ sym made_is ∙ sym v.count)

    -- it goes on in the child at i
    module _ (up : 0 < h) where
      j : first_not_below pl (row t) ≡ i
      j = sym index_is ∙ passed_by.1

      above : Holds T (suc (h - 1)) t
      above = subst (λ k. Holds T k t) (height_suc h up) w

      pub inside : i < length (kids t)
      inside = omega (arith, j, holds_fan T (h - 1) t above, first_within pl (row t))

      pub child_holds : Holds T (h - 1) (kid t i)
      child_holds = holds_kid T (h - 1) t i above inside

      pub child_number : number (kid t i) ≡ get_or (head_at T m).edges i 0
      child_number =
          sym (edge_is (head_at T m).edges [] (numbers t) 0 i i here.edges_are refl (omega (arith, inside, length-map (kids t) number)) (omega arith)
          ∙ get_or-map number (kids t) i (node 0 [] none) 0 inside)

      pub sought_below : (value_of (seek pl h t) ≡ value_of (seek pl (h - 1) (kid t i))) × (looks pl h t ≡ made + looks pl (h - 1) (kid t i))
      sought_below =
          let s = seek_down pl t h up (sym found_is ∙ passed_by.0) in (
            ap value_of (s.0 ∙ ap (λ k. seek pl (h - 1) (kid t k)) j),
            s.1 ∙ ap₂ (λ a b. a + b) (sym made_is ∙ sym v.count) (ap (λ k. looks pl (h - 1) (kid t k)) j),
          )

-- the child that the search goes on in is held, one level lower, and what is found there is the answer
pub child_under : {K V : Type 0} (place : K → Ordering) (T : Tables K V) (n : NodeRef) (inner : Internal) (x : NodeRef) {r : SearchResult} (i made : ℕ) (t : Tree (K × V))
    → Holds T n.height t → number t ≡ n.node → SearchedIn place T n.node r made → r ≡ GoDown i → kind.Internal inner ≡ forced n
    → x.node ≡ get_or (head_at T inner.node).edges i 0 → x.height ≡ inner.height - 1
    → Holds T x.height (kid t i) × (number (kid t i) ≡ x.node)
    × (value_of (seek (λ e. place (first e)) n.height t) ≡ value_of (seek (λ e. place (first e)) x.height (kid t i)))
    × (looks (λ e. place (first e)) n.height t ≡ made + looks (λ e. place (first e)) x.height (kid t i))
child_under place T n inner x i made t w at v e f node-is height-is =
    let k = forced_inner n inner f in
    let z : x.height ≡ n.height - 1 = height-is ∙ ap (λ h. h - 1) k.2 in
    let b = sought_below place T n.height n.node t w at i made v e k.0 in (
      subst (λ h. Holds T h (kid t i)) (sym z) (child_holds place T n.height n.node t w at i made v e k.0),
      child_number place T n.height n.node t w at i made v e k.0 ∙ sym (subst (λ m. x.node ≡ get_or (head_at T m).edges i 0) k.1 node-is),
      b.0 ∙ ap (λ h. value_of (seek (λ e. place (first e)) h (kid t i))) (sym z),
      b.1 ∙ ap (λ h. made + looks (λ e. place (first e)) h (kid t i)) (sym z),
    )

-- the answer of a child, with the comparisons made above it
pub answer_below : {X E : Type 0} (v x y : X) (b c m n : ℕ) → ◌≡◌ {A = X × ℕ} (v, b) (x, m) → y ≡ x → n ≡ c + m → ◌≡◌ {A = Result (X × ℕ) E} (Ok (v, c + b)) (Ok (y, n))
answer_below v x y b c m n r p q = ap (λ a. Ok (a.0, c + a.1)) r ∙ ap₂ (λ a k. Ok (a, k)) (sym p) (sym q)

-- ---- on the way down

-- from the root the search came to node n, with so many comparisons: what it finds under n is the answer
pub record Came {K V : Type 0} (place : K → Ordering) (T : Tables K V) (root n : NodeRef) (made : ℕ) : Type 0 where
  pub few : made + 11 * (n.height + 1) ≤ 11 * (root.height + 1)
  pub under : (t : Tree (K × V)) → Holds T root.height t → number t ≡ root.node
      → (u : Tree (K × V)) × Holds T n.height u × (number u ≡ n.node)
      × (value_of (seek (λ e. place (first e)) root.height t) ≡ value_of (seek (λ e. place (first e)) n.height u))
      × (looks (λ e. place (first e)) root.height t ≡ made + looks (λ e. place (first e)) n.height u)

module _ {K V : Type 0} (place : K → Ordering) (T : Tables K V) (root : NodeRef) where
  pub came_here : Came place T root root 0
  came_here = record { few = omega arith; under = λ t w e. (t, w, e, refl, omega arith) }

  pub came_down : (n : NodeRef) (inner : Internal) (x : NodeRef) {r : SearchResult} (i made count : ℕ) → Came place T root n made
      → SearchedIn place T n.node r count → r ≡ GoDown i → kind.Internal inner ≡ forced n
      → x.node ≡ get_or (head_at T inner.node).edges i 0 → x.height ≡ inner.height - 1
      → Came place T root x (made + count)
  came_down n inner x i made count c v e f node-is height-is =
      let k = forced_inner n inner f in
      let low : x.height + 1 ≡ n.height = omega (arith, height-is, k.0, k.2) in
      record {
        few = omega (arith, c.few, v.most);
        under = λ t w at.
            let u = c.under t w at in
            let d = child_under place T n inner x i count u.0 u.1 u.2 v e f node-is height-is in
            (kid u.0 i, d.0, d.1, u.3 ∙ d.2, omega (arith, u.4, d.3));
      }
