-- The border mended from a node down: the two children beside it joined, and the border one mended. Assumes nothing.
use Rattle.std.proofs.Common.{◌≡◌, ℕ, zero, suc, ◌+◌, ◌-◌, ◌<◌, ◌≤◌, List, [], ◌∷◌, ◌++◌, map, length, take, drop, Ok, Err, All, Result, sym, refl, ap, ◌∙◌, subst, ap₂, ⊎_elim, append_assoc, arith, length-append, length-drop, take-append-drop, length-take}
use lib.Seq.{drop-nil}
use Rattle.std.proofs.lemmas.List.Elements.{All-nil, All-cons, All-head, All-tail, All-append}
use Rattle.std.proofs.lemmas.List.{nil_from_length, map-append}
use Rattle.std.proofs.lemmas.Bool.{cases_eq}
use Rattle.supply.specs.declared.faults.Fault.{Fault}
use Rattle.supply.specs.Stocks.{Stock}
use Rattle.node.specs.declared.ends.Side.{Side}
use Rattle.node.specs.declared.ends.Side.TheVariants.{First, Last}
use Rattle.node.specs.Shape.{Tree, Forest, node, none, more, trees, forest, number, row, kids, kid, mk, total}
use Rattle.node.specs.Store.{Tables, Node, Linked, Holds, SameLink, times, head_at}
use Rattle.node.specs.Laws.{occurs, same}
use Rattle.node.specs.Rules.{Grown, whole, parted, joint}
use Rattle.node.specs.Balance.{mark, Owns, Beside}
use Rattle.node.proofs.Adopts.{times_append}
use Rattle.node.proofs.Balances.{mark_most, balanced_as, beside_more, beside_holds}
use Rattle.node.proofs.Frames.{height_suc, holds_node, holds_fan, holds_linked, holds_kids, holds_from, node_same, linked_same}
use Rattle.node.proofs.Numbers.{same_self, same_other, occurs_mk, tops_occur}
use Rattle.node.proofs.Tabled.{err_not_ok, ok_same}
use Rattle.node.proofs.Weaves.{trees_forest, total_append, all_front, all_back}
use Rattle.rules.proofs.Nodes.{risen}
use Rattle.parts.specs.Rules.{beside, onward, fill, mend_at, mend}
use Rattle.parts.proofs.Mends.{beside_end, two_at}
use Rattle.repair.specs.Repair.{Became, Mended, Mends}
use Rattle.repair.specs.Joint.{border, Neighbours, Joined, Joins}
use Rattle.repair.proofs.Becoming.{became_none, became_both, became_owns}

-- ---- a child in another form

module _ {K V : Type 0} (T T' : Tables K V) (S : Stock) (f : ℕ → ℕ) (h : ℕ) (b : Beside T T' S f) where
  pub beside_all : (ts : List (Tree (K × V))) → ((x : ℕ) → f x + total (occurs x h) ts ≤ mark S x) → All (Holds T h) ts → All (Holds T' h) ts
  beside_all [] e w = All-nil (Holds T' h)
  beside_all (t ∷ ts) e w =
      All-cons (Holds T' h) t ts
      (beside_holds T T' S f h t b (λ x. omega (arith, e x)) (All-head (Holds T h) t ts w))
      (beside_all ts (λ x. omega (arith, e x)) (All-tail (Holds T h) t ts w))

module _ {K V : Type 0} (T T' : Tables K V) (S S' : Stock) (h p : ℕ) (es : List (K × V)) (A : List (Tree (K × V))) (k : Tree (K × V)) (B : List (Tree (K × V))) (k' : Tree (K × V))
    (o : Owns T S (suc h) (mk p es (A ++ k ∷ B))) where
  abbrev old : Tree (K × V)
  old = mk p es (A ++ k ∷ B)

  abbrev new : Tree (K × V)
  new = mk p es (A ++ k' ∷ B)

  same_kids : kids old ≡ A ++ k ∷ B
  same_kids = trees_forest (A ++ k ∷ B)

  whole_sum : (x : ℕ) → occurs x (suc h) old ≡ same x p + (total (occurs x h) A + (occurs x h k + total (occurs x h) B))
  whole_sum x = omega (arith, occurs_mk x h p es (A ++ k ∷ B), total_append (occurs x h) A (k ∷ B))

  sum : (x : ℕ) → same x p + (total (occurs x h) A + (occurs x h k + total (occurs x h) B)) ≤ mark S x
  sum x = omega (arith, whole_sum x, o.owned x)

  all_kids : All (Holds T h) (A ++ k ∷ B)
  all_kids = subst (All (Holds T h)) same_kids (holds_kids T h old o.holds)

  pub kid_owns : Owns T S h k
  kid_owns = record {
    sized = o.sized;
    fits = o.fits;
    holds = All-head (Holds T h) k B (all_back (Holds T h) A (k ∷ B) all_kids);
    owned = λ x. omega (arith, sum x);
  }

  module _ (v : Became T T' S S' h k h k') (link : SameLink T T' (number k)) (same_number : number k' ≡ number k) where
    names : map number (A ++ k' ∷ B) ≡ map number (kids old)
    names = map-append number A (k' ∷ B) ∙ ap (λ n. map number A ++ n ∷ map number B) same_number ∙ sym (map-append number A (k ∷ B)) ∙ sym (ap (map number) same_kids)

    times_names : (x : ℕ) → times x (map number (kids old)) ≡ times x (map number A) + (same x (number k) + times x (map number B))
    times_names x = ap (λ ts. times x (map number ts)) same_kids ∙ ap (times x) (map-append number A (k ∷ B)) ∙ times_append x (map number A) (number k ∷ map number B)

    links : (x : ℕ) → 0 < times x (map number (kids old)) → SameLink T T' x
    links x q =
        ⊎_elim
        (λ (z : x ≡ number k). subst (SameLink T T') (sym z) link)
        (λ (z : x ≡ number k → ⊥). v.beside.links x (omega (arith, sum x, times_names x, same_other x (number k) z, tops_occur x h A, tops_occur x h B, mark_most S x)))
        (cases_eq x (number k))

    new_holds : Holds T' (suc h) new
    new_holds =
        holds_from T' h p es (A ++ k' ∷ B)
        (subst (λ ns. Node T' p es ns) (sym names) (node_same T T' p es (map number (kids old)) v.beside.heads_len (v.beside.bodies p (omega (arith, sum p, same_self p, mark_most S p))) (holds_node T (suc h) old o.holds)))
        (length-append A (k' ∷ B) ∙ sym (length-append A (k ∷ B)) ∙ sym (ap length same_kids) ∙ holds_fan T h old o.holds)
        (subst (λ ns. Linked T' p 0 ns) (sym names) (linked_same T T' p 0 (map number (kids old)) links (holds_linked T h old o.holds)))
        (All-append (Holds T' h) A (k' ∷ B)
        (beside_all T T' S (λ x. occurs x h k) h v.beside A (λ x. omega (arith, sum x)) (all_front (Holds T h) A (k ∷ B) all_kids))
        (All-cons (Holds T' h) k' B v.holds (beside_all T T' S (λ x. occurs x h k) h v.beside B (λ x. omega (arith, sum x)) (All-tail (Holds T h) k B (all_back (Holds T h) A (k ∷ B) all_kids)))))

    pub kid_became : Became T T' S S' (suc h) old (suc h) new
    kid_became = record {
      holds = new_holds;
      balanced = balanced_as S S' (λ x. occurs x h k) (λ x. occurs x h k') (λ x. occurs x (suc h) old) (λ x. occurs x (suc h) new)
          (λ x. omega (arith, whole_sum x, occurs_mk x h p es (A ++ k' ∷ B), total_append (occurs x h) A (k' ∷ B))) v.balanced;
      beside = beside_more T T' S (λ x. occurs x h k) (λ x. occurs x (suc h) old) (λ x. omega (arith, whole_sum x)) v.beside;
    }

    pub kid_link : SameLink T T' p
    kid_link = v.beside.links p (omega (arith, sum p, same_self p, mark_most S p))

-- ---- the rule

module _ {E : Type 0} where
  forest_trees : (f : Forest E) → forest (trees f) ≡ f
  forest_trees none = refl
  forest_trees (more t f) = ap (more t) (forest_trees f)

  mk_is : (t : Tree E) → mk (number t) (row t) (kids t) ≡ t
  mk_is (node m es f) = ap (node m es) (forest_trees f)

  -- what stands left and right of the border one, among the children
  abbrev front_of : Side → List (Tree E) → Grown E → List (Tree E)
  front_of First A g = A
  front_of Last A (whole k) = A
  front_of Last A (parted l x r) = A ++ l ∷ []

  abbrev back_of : Side → List (Tree E) → Grown E → List (Tree E)
  back_of First B (whole k) = B
  back_of First B (parted l x r) = r ∷ B
  back_of Last B g = B

  fill_onward : (s : Side) (f : Tree E → Tree E) (p : ℕ) (us ws : List E) (A B : List (Tree E)) (g : Grown E)
      → fill p us ws A B (onward s f g) ≡ mk p (us ++ (risen g ++ ws)) (front_of s A g ++ f (border s g) ∷ back_of s B g)
  fill_onward First f p us ws A B (whole k) = refl
  fill_onward First f p us ws A B (parted l x r) = refl
  fill_onward Last f p us ws A B (whole k) = refl
  fill_onward Last f p us ws A B (parted l x r) = ap (mk p (us ++ x ∷ ws)) (sym (append_assoc A (l ∷ []) (f r ∷ B)))

  fill_border : (s : Side) (p : ℕ) (us ws : List E) (A B : List (Tree E)) (g : Grown E) → fill p us ws A B g ≡ mk p (us ++ (risen g ++ ws)) (front_of s A g ++ border s g ∷ back_of s B g)
  fill_border First p us ws A B (whole k) = refl
  fill_border First p us ws A B (parted l x r) = refl
  fill_border Last p us ws A B (whole k) = refl
  fill_border Last p us ws A B (parted l x r) = ap (mk p (us ++ x ∷ ws)) (sym (append_assoc A (l ∷ []) (r ∷ B)))

  fill_number : (p : ℕ) (us ws : List E) (A B : List (Tree E)) (g : Grown E) → number (fill p us ws A B g) ≡ p
  fill_number p us ws A B (whole k) = refl
  fill_number p us ws A B (parted l x r) = refl

  pub mend_number : (s : Side) (h : ℕ) (t : Tree E) → number (mend s h t) ≡ number t
  unfolding mend
  mend_number s zero t = refl
  mend_number s (suc h) t = go (beside s (length (row t))) (drop (beside s (length (row t))) (row t))
    where
      go : (i : ℕ) (fs : List E) → number (mend_at s (mend s h) t i fs) ≡ number t
      go i [] = refl
      go i (e ∷ fs) = fill_number (number t) (take i (row t)) fs (take i (kids t)) (drop (suc (suc i)) (kids t)) (onward s (mend s h) (joint s (kid t i) e (kid t (suc i))))

  mend_leaf : (s : Side) (t : Tree E) → mend s zero t ≡ t
  unfolding mend
  mend_leaf s t = refl

  mend_none : (s : Side) (h : ℕ) (t : Tree E) → row t ≡ [] → mend s (suc h) t ≡ t
  unfolding mend
  mend_none s h t z =
      ap (mend_at s (mend s h) t (beside s (length (row t)))) (ap (drop (beside s (length (row t)))) z ∙ drop-nil (beside s (length (row t))))

  mend_some : (s : Side) (h : ℕ) (t : Tree E) (i : ℕ) (e : E) (ws : List E) → i ≡ beside s (length (row t)) → drop i (row t) ≡ e ∷ ws
      → mend s (suc h) t ≡ fill (number t) (take i (row t)) ws (take i (kids t)) (drop (suc (suc i)) (kids t)) (onward s (mend s h) (joint s (kid t i) e (kid t (suc i))))
  unfolding mend
  mend_some s h t i e ws at z = ap (λ j. mend_at s (mend s h) t j (drop j (row t))) (sym at) ∙ ap (mend_at s (mend s h) t i) z

-- ---- one level

module _ {K V : Type 0} (s : Side) (T : Tables K V) (S : Stock) (h : ℕ) (t : Tree (K × V)) (o : Owns T S (suc h) t) (i : ℕ) (at : i ≡ beside s (length (row t))) (some : 0 < length (row t))
    (e : K × V) (ws : List (K × V)) (cut : drop i (row t) ≡ e ∷ ws) where
  abbrev p : ℕ
  p = number t

  abbrev us : List (K × V)
  us = take i (row t)

  abbrev A : List (Tree (K × V))
  A = take i (kids t)

  abbrev l : Tree (K × V)
  l = kid t i

  abbrev r : Tree (K × V)
  r = kid t (suc i)

  abbrev B : List (Tree (K × V))
  B = drop (suc (suc i)) (kids t)

  abbrev spread : Tree (K × V)
  spread = mk p (us ++ e ∷ ws) (A ++ l ∷ r ∷ B)

  low : i < length (row t)
  low = omega (arith, beside_end s (length (row t)) some)

  is_spread : t ≡ spread
  is_spread =
      sym (mk_is t) ∙ ap₂ (mk p) (sym (take-append-drop i (row t)) ∙ ap (λ z. us ++ z) cut) (two_at (kids t) i (node 0 [] none) (omega (arith, low, holds_fan T h t o.holds)))

  pub neighbours : Neighbours T S (suc h) p i us e ws A l r B
  neighbours = record {
    above = omega arith;
    here = omega (arith, length-take i (row t), low);
    edges_here = omega (arith, length-take i (kids t), low, holds_fan T h t o.holds);
    owns = subst (Owns T S (suc h)) is_spread o;
  }

  abbrev g : Grown (K × V)
  g = joint s l e r

  module _ (T₁ T₂ : Tables K V) (S₁ S₂ : Stock) (res : Result ℕ Fault) (joined : Joined s T T₁ S S₁ (suc h) p us e ws A l r B g res) where
    abbrev k : Tree (K × V)
    k = border s g

    abbrev mid : Tree (K × V)
    mid = mk p (us ++ (risen g ++ ws)) (front_of s A g ++ k ∷ back_of s B g)

    first : Became T T₁ S S₁ (suc h) t (suc h) mid
    first =
        subst (λ z. Became T T₁ S S₁ (suc h) t (suc h) z) (fill_border s p us ws A B g)
        (subst (λ z. Became T T₁ S S₁ (suc h) z (suc h) (fill p us ws A B g)) (sym is_spread) joined.became)

    mid_owns : Owns T₁ S₁ (suc h) mid
    mid_owns = became_owns T T₁ S S₁ (suc h) t (suc h) mid o first

    pub level : (r' : Result (Unit {0}) Fault) → Mends s T₁ T₂ S₁ S₂ h (number k) r' → Mended s T T₂ S S₂ (suc h) t r'
    unfolding Mends
    level r' ih =
        let m : Mended s T₁ T₂ S₁ S₂ h k r' = ih k (kid_owns T₁ T₂ S₁ S₂ h p (us ++ (risen g ++ ws)) (front_of s A g) k (back_of s B g) k mid_owns) refl in
        let c = kid_became T₁ T₂ S₁ S₂ h p (us ++ (risen g ++ ws)) (front_of s A g) k (back_of s B g) (mend s h k) mid_owns m.became m.link (mend_number s h k) in
        let n = kid_link T₁ T₂ S₁ S₂ h p (us ++ (risen g ++ ws)) (front_of s A g) k (back_of s B g) (mend s h k) mid_owns m.became m.link (mend_number s h k) in
        let made = mend_some s h t i e ws at cut ∙ fill_onward s (mend s h) p us ws A B g in
        record {
          answer = m.answer;
          became = subst (λ z. Became T T₂ S S₂ (suc h) t (suc h) z) (sym made)
              (became_both T T₁ T₂ S S₁ S₂ (suc h) t (suc h) mid (suc h) (mk p (us ++ (risen g ++ ws)) (front_of s A g ++ mend s h k ∷ back_of s B g)) first c);
          link = record { parent_same = n.parent_same ∙ joined.link.parent_same; place_same = n.place_same ∙ joined.link.place_same };
        }

-- ---- for the code

abbrev Opened : {X : Type 0} → List X → Type 0
Opened {X} xs = (e : X) × ((ws : List X) × (xs ≡ e ∷ ws))

opened : {X : Type 0} (xs : List X) → 0 < length xs → Opened xs
opened [] l = absurd (omega arith)
opened (x ∷ xs) l = (x, (xs, refl))

module _ {K V : Type 0} (s : Side) (T : Tables K V) (S : Stock) (h m : ℕ) where
  stays : (t : Tree (K × V)) → Owns T S h t → mend s h t ≡ t → Mended s T T S S h t (Ok tt)
  stays t o z = record {
    answer = refl;
    became = subst (λ u. Became T T S S h t h u) (sym z) (became_none T S h t o.holds);
    link = record { parent_same = refl; place_same = refl };
  }

  pub mends_leaf : h ≡ 0 → Mends s T T S S h m (Ok tt)
  unfolding Mends
  mends_leaf z t o e = stays t o (subst (λ k. mend s k t ≡ t) (sym z) (mend_leaf s t))

  length_is : (t : Tree (K × V)) → Owns T S h t → number t ≡ m → (head_at T m).len ≡ length (row t)
  length_is t o e = ap (λ x. (head_at T x).len) (sym e) ∙ (holds_node T h t o.holds).len_is

  module _ (up : 0 < h) where
    pub mends_none : (head_at T m).len ≡ 0 → Mends s T T S S h m (Ok tt)
    unfolding Mends
    mends_none z t o e =
        stays t o (subst (λ k. mend s k t ≡ t) (sym (height_suc h up)) (mend_none s (h - 1) t (nil_from_length (row t) (sym (length_is t o e) ∙ z))))

    module _ (n i : ℕ) (len : (head_at T m).len ≡ n) (some : 0 < n) (at : i ≡ beside s n) (T₁ : Tables K V) (S₁ : Stock) where
      module _ (t : Tree (K × V)) (o : Owns T S h t) (e : number t ≡ m) where
        o' : Owns T S (suc (h - 1)) t
        o' = subst (λ k. Owns T S k t) (height_suc h up) o

        long : length (row t) ≡ n
        long = sym (length_is t o e) ∙ len

        at' : i ≡ beside s (length (row t))
        at' = at ∙ ap (beside s) (sym long)

        some' : 0 < length (row t)
        some' = omega (arith, long)

        open_row : Opened (drop i (row t))
        open_row = opened (drop i (row t)) (omega (arith, length-drop i (row t), beside_end s (length (row t)) some', at'))

        abbrev Joint : Result ℕ Fault → Type 0
        Joint res = Joined s T T₁ S S₁ (suc (h - 1)) (number t) (take i (row t)) open_row.0 open_row.1.0 (take i (kids t)) (kid t i) (kid t (suc i)) (drop (suc (suc i)) (kids t)) (joint s (kid t i) open_row.0 (kid t (suc i))) res

        joins : (res : Result ℕ Fault) → Joins s T T₁ S S₁ h m i res → Joint res
        unfolding Joins
        joins res did =
            let did' : Joins s T T₁ S S₁ (suc (h - 1)) (number t) i res = subst (λ x. Joins s T T₁ S S₁ (suc (h - 1)) x i res) (sym e) (subst (λ k. Joins s T T₁ S S₁ k m i res) (height_suc h up) did) in
            did' (take i (row t)) open_row.0 open_row.1.0 (take i (kids t)) (kid t i) (kid t (suc i)) (drop (suc (suc i)) (kids t))
            (neighbours s T S (h - 1) t o' i at' some' open_row.0 open_row.1.0 open_row.1.1)

      pub joins_not : (f : Fault) → Joins s T T₁ S S₁ h m i (Err f) → (t : Tree (K × V)) → Owns T S h t → number t ≡ m → ⊥
      joins_not f did t o e = err_not_ok _ _ (joins t o e (Err f) did).answer

      pub mends_level : (child : ℕ) → Joins s T T₁ S S₁ h m i (Ok child) → (T₂ : Tables K V) (S₂ : Stock) (r' : Result (Unit {0}) Fault) → Mends s T₁ T₂ S₁ S₂ (h - 1) child r' → Mends s T T₂ S S₂ h m r'
      unfolding Mends
      mends_level child did T₂ S₂ r' ih t o e =
          let j = joins t o e (Ok child) did in
          let k : Tree (K × V) = border s (joint s (kid t i) (open_row t o e).0 (kid t (suc i))) in
          let ih' : Mends s T₁ T₂ S₁ S₂ (h - 1) (number k) r' = subst (λ x. Mends s T₁ T₂ S₁ S₂ (h - 1) x r') (ok_same _ _ j.answer) ih in
          subst (λ q. Mended s T T₂ S S₂ q t r') (sym (height_suc h up))
          (level s T S (h - 1) t (o' t o e) i (at' t o e) (some' t o e) (open_row t o e).0 (open_row t o e).1.0 (open_row t o e).1.1 T₁ T₂ S₁ S₂ (Ok child) j r' ih')
