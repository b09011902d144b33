-- Tables that agree on the nodes of a tree hold the same tree. Assumes nothing.
use Rattle.std.proofs.Common.{◌≡◌, ℕ, zero, suc, ◌+◌, ◌-◌, ◌*◌, ◌<◌, ◌≤◌, List, [], ◌∷◌, ◌++◌, map, length, get_or, take, drop, All, sym, refl, ap, ◌∙◌, subst, ⊎_elim, arith, length-append}
use lib.ListN.{length-map}
use lib.Seq.{split_at}
use Rattle.std.proofs.lemmas.List.Elements.{All-get_or, All-weaker, All-append, All-take, All-drop, All-nil, All-cons, All-head, All-tail}
use Rattle.std.proofs.lemmas.List.{nil_from_length, map-append, get_or_append_left, get_or-append_right, get_or-append-add}
use Rattle.std.proofs.lemmas.Bool.{cases_lt}
use Rattle.node.specs.Cells.{Run}
use Rattle.node.specs.Shape.{Tree, node, none, number, row, kids, kid, mk, total}
use Rattle.node.specs.Store.{Tables, Sized, Node, Link, Linked, SameBody, SameLink, Changed, Holds, numbers, times, first, second, itself}
use Rattle.node.specs.Laws.{occurs, below, Frame, FrameChanged, FrameApart, HeldInside, HeldLow}
use Rattle.node.specs.Operations.{Strange}
use Rattle.node.proofs.Adopts.{times_at}
use Rattle.node.proofs.Tabled.{not_strange}
use Rattle.node.proofs.Runs.{run_same}
use Rattle.node.proofs.Weaves.{trees_forest, total_each, total_some, all_both}
use Rattle.node.proofs.Numbers.{occurs_parts, occurs_root, occurs_below, tops_occur, same_at, low}

-- a height above 0
pub height_suc : (h : ℕ) → 0 < h → h ≡ suc (h - 1)
height_suc h l = omega arith

module _ {K V : Type 0} where
  -- ---- views of what the tables hold

  pub holds_node : (T : Tables K V) (h : ℕ) (t : Tree (K × V)) → Holds T h t → Node T (number t) (row t) (numbers t)
  unfolding Holds
  holds_node T zero t w = subst (λ ks. Node T (number t) (row t) ks) (sym (nil_from_length (numbers t) (length-map (kids t) number ∙ w.1))) w.0
  holds_node T (suc h) t w = w.0

  pub held_not_strange : (T : Tables K V) (h m : ℕ) (t : Tree (K × V)) → Sized T → Holds T h t → number t ≡ m → Strange T m → ⊥
  held_not_strange T h m t s w e z = not_strange T (number t) (row t) (numbers t) s (holds_node T h t w) (subst (Strange T) (sym e) z)

  pub holds_leaf : (T : Tables K V) (t : Tree (K × V)) → Holds T zero t → Node T (number t) (row t) [] × (length (kids t) ≡ 0)
  unfolding Holds
  holds_leaf T t w = w

  pub holds_fan : (T : Tables K V) (h : ℕ) (t : Tree (K × V)) → Holds T (suc h) t → length (kids t) ≡ suc (length (row t))
  unfolding Holds
  holds_fan T h t w = w.1

  pub holds_linked : (T : Tables K V) (h : ℕ) (t : Tree (K × V)) → Holds T (suc h) t → Linked T (number t) 0 (numbers t)
  unfolding Holds
  holds_linked T h t w = w.2

  pub holds_kids : (T : Tables K V) (h : ℕ) (t : Tree (K × V)) → Holds T (suc h) t → All (Holds T h) (kids t)
  unfolding Holds
  holds_kids T h t w = w.3

  pub holds_kid : (T : Tables K V) (h : ℕ) (t : Tree (K × V)) (i : ℕ) → Holds T (suc h) t → i < length (kids t) → Holds T h (kid t i)
  holds_kid T h t i w l = All-get_or (Holds T h) (kids t) i (node 0 [] none) l (holds_kids T h t w)

  -- ---- a tree from its parts

  pub holds_from : (T : Tables K V) (h m : ℕ) (es : List (K × V)) (ts : List (Tree (K × V))) → Node T m es (map number ts) → length ts ≡ suc (length es)
      → Linked T m 0 (map number ts) → All (Holds T h) ts → Holds T (suc h) (mk m es ts)
  unfolding Holds
  holds_from T h m es ts n f l a = (
    subst (λ us. Node T m es (map number us)) (sym (trees_forest ts)) n,
    ap length (trees_forest ts) ∙ f,
    subst (λ us. Linked T m 0 (map number us)) (sym (trees_forest ts)) l,
    subst (λ us. All (Holds T h) us) (sym (trees_forest ts)) a,
  )

  pub holds_from_leaf : (T : Tables K V) (m : ℕ) (es : List (K × V)) → Node T m es [] → Holds T zero (mk m es [])
  unfolding Holds
  holds_from_leaf T m es n = (n, refl)

  -- ---- links in parts

  pub linked_append : (T : Tables K V) (p i : ℕ) (cs ds : List ℕ) → Linked T p i cs → Linked T p (i + length cs) ds → Linked T p i (cs ++ ds)
  linked_append T p i cs ds u v j l =
      ⊎_elim
      (λ (b : j < length cs). subst (λ c. Link T p (i + j) c) (sym (get_or_append_left cs ds 0 j b)) (u j b))
      (λ (b : length cs ≤ j).
      let z : i + length cs + (j - length cs) ≡ i + j = omega arith in
      subst (λ c. Link T p (i + j) c) (sym (get_or-append_right cs ds (length cs) j 0 refl b))
      (subst (λ n. Link T p n (get_or ds (j - length cs) 0)) z (v (j - length cs) (omega (arith, length-append cs ds)))))
      (cases_lt j (length cs))

  pub linked_parts : (T : Tables K V) (p i : ℕ) (cs ds : List ℕ) → Linked T p i (cs ++ ds) → Linked T p i cs × Linked T p (i + length cs) ds
  linked_parts T p i cs ds u = (
    (λ j l. subst (λ c. Link T p (i + j) c) (get_or_append_left cs ds 0 j l) (u j (omega (arith, length-append cs ds)))),
    (λ j l.
        let z : i + (length cs + j) ≡ i + length cs + j = omega arith in
        subst (λ n. Link T p n (get_or ds j 0)) z (subst (λ c. Link T p (i + (length cs + j)) c) (get_or-append-add cs ds j 0) (u (length cs + j) (omega (arith, length-append cs ds))))),
  )

  -- ---- the frame

  module _ (T T' : Tables K V) where
    pub node_same : (m : ℕ) (es : List (K × V)) (ks : List ℕ) → length T'.heads ≡ length T.heads → SameBody T T' m → Node T m es ks → Node T' m es ks
    node_same m es ks l s n = record {
      inside = omega (arith, n.inside);
      few = n.few;
      len_is = s.len_same ∙ n.len_is;
      keys_are = run_same first T.keys T'.keys (11 * m) es s.keys_same n.few n.keys_are;
      values_are = run_same second T.values T'.values (11 * m) es s.values_same n.few n.values_are;
      edges_are = subst (λ (es : List ℕ). Run itself es 0 ks) (sym s.edges_same) n.edges_are;
    }

    pub linked_same : (p i : ℕ) (cs : List ℕ) → ((x : ℕ) → 0 < times x cs → SameLink T T' x) → Linked T p i cs → Linked T' p i cs
    linked_same p i cs f l j b =
        let s = f (get_or cs j 0) (omega (arith, times_at cs j b)) in
        record { parent_is = s.parent_same ∙ (l j b).parent_is; place_is = s.place_same ∙ (l j b).place_is }

  pub frame : Frame K V
  unfolding Holds
  frame T T' zero t l f g w = (node_same T T' (number t) (row t) [] l (f (number t) (occurs_root zero t)) w.0, w.1)
  frame T T' (suc h) t l f g w = (
    node_same T T' (number t) (row t) (numbers t) l (f (number t) (occurs_root (suc h) t)) w.0,
    w.1,
    linked_same T T' (number t) 0 (numbers t) (λ x p. g x (omega (arith, tops_occur x h (kids t)))) w.2,
    all_both (λ k. (x : ℕ) → occurs x h k ≤ below x (suc h) t) (Holds T h) (Holds T' h)
        (λ k o v. frame T T' h k l (λ x p. f x (omega (arith, o x, occurs_below x (suc h) t))) (λ x p. g x (omega (arith, o x, occurs_below x h k))) v)
        (kids t) (total_each (λ x. occurs x h) (kids t)) w.3,
  )

  -- the same of several trees
  pub frame_all : (T T' : Tables K V) (h : ℕ) (ts : List (Tree (K × V))) → length T'.heads ≡ length T.heads
      → ((x : ℕ) → 0 < total (occurs x h) ts → SameBody T T' x) → ((x : ℕ) → 0 < total (below x h) ts → SameLink T T' x)
      → All (Holds T h) ts → All (Holds T' h) ts
  frame_all T T' h [] l f g w = All-nil (Holds T' h)
  frame_all T T' h (t ∷ ts) l f g w =
      All-cons (Holds T' h) t ts
      (frame T T' h t l (λ x p. f x (omega arith)) (λ x p. g x (omega arith)) (All-head (Holds T h) t ts w))
      (frame_all T T' h ts l (λ x p. f x (omega arith)) (λ x p. g x (omega arith)) (All-tail (Holds T h) t ts w))

  -- ---- after a change elsewhere

  module _ (T T' : Tables K V) (bs ls : List ℕ) where
    pub node_kept : (m : ℕ) (es : List (K × V)) (ks : List ℕ) → Changed T T' bs ls → times m bs ≡ 0 → Node T m es ks → Node T' m es ks
    node_kept m es ks c z n = node_same T T' m es ks c.heads_len (c.bodies m z) n

    pub linked_kept : (p i : ℕ) (cs : List ℕ) → Changed T T' bs ls → ((x : ℕ) → 0 < times x cs → times x ls ≡ 0) → Linked T p i cs → Linked T' p i cs
    linked_kept p i cs c f l = linked_same T T' p i cs (λ x p. c.links x (f x p)) l

    pub all_kept : (h : ℕ) (ts : List (Tree (K × V))) → Changed T T' bs ls
        → ((x : ℕ) → 0 < total (occurs x h) ts → times x bs ≡ 0) → ((x : ℕ) → 0 < total (below x h) ts → times x ls ≡ 0)
        → All (Holds T h) ts → All (Holds T' h) ts
    all_kept h ts c f g w = frame_all T T' h ts c.heads_len (λ x p. c.bodies x (f x p)) (λ x p. c.links x (g x p)) w

  pub frame_changed : FrameChanged K V
  frame_changed T T' bs ls h t c f g w = frame T T' h t c.heads_len (λ x p. c.bodies x (f x p)) (λ x p. c.links x (g x p)) w

  pub frame_apart : FrameApart K V
  frame_apart T T' bs ls h t k s a c inside w =
      frame_changed T T' bs ls h t c
      (λ x p. none (times x bs) (λ q. a x p (inside x (omega arith))))
      (λ x p. none (times x ls) (λ q. a x (omega (arith, occurs_below x h t)) (inside x (omega arith))))
      w
    where
      none : (n : ℕ) → (0 < n → ⊥) → n ≡ 0
      none zero f = refl
      none (suc n) f = absurd (f (omega arith))

  -- a tree with child i in another form, k, under the same number
  pub holds_swap : (T T' : Tables K V) (bs ls : List ℕ) (h : ℕ) (t : Tree (K × V)) (i : ℕ) (k : Tree (K × V)) → Changed T T' bs ls → i < length (kids t) → number k ≡ number (kid t i)
      → times (number t) bs ≡ 0 → ((x : ℕ) → 0 < times x (numbers t) → times x ls ≡ 0)
      → ((x : ℕ) → 0 < total (occurs x h) (take i (kids t)) + total (occurs x h) (drop (suc i) (kids t)) → times x bs ≡ 0)
      → ((x : ℕ) → 0 < total (below x h) (take i (kids t)) + total (below x h) (drop (suc i) (kids t)) → times x ls ≡ 0)
      → Holds T (suc h) t → Holds T' h k → Holds T' (suc h) (mk (number t) (row t) (take i (kids t) ++ k ∷ drop (suc i) (kids t)))
  holds_swap T T' bs ls h t i k c l e root tops f g w v =
      let ks : List (Tree (K × V)) = take i (kids t) in
      let ms : List (Tree (K × V)) = drop (suc i) (kids t) in
      let parts : kids t ≡ ks ++ kid t i ∷ ms = split_at (kids t) i (node 0 [] none) l in
      let same_numbers : map number (ks ++ k ∷ ms) ≡ numbers t =
      map-append number ks (k ∷ ms) ∙ ap (λ n. map number ks ++ n ∷ map number ms) e ∙ sym (map-append number ks (kid t i ∷ ms)) ∙ ap (map number) (sym parts) in
      let size : length (ks ++ k ∷ ms) ≡ suc (length (row t)) =
      sym (length-map (ks ++ k ∷ ms) number) ∙ ap length same_numbers ∙ length-map (kids t) number ∙ holds_fan T h t w in
      let all = holds_kids T h t w in
      holds_from T' h (number t) (row t) (ks ++ k ∷ ms)
      (subst (λ ns. Node T' (number t) (row t) ns) (sym same_numbers) (node_kept T T' bs ls (number t) (row t) (numbers t) c root (holds_node T (suc h) t w)))
      size
      (subst (λ ns. Linked T' (number t) 0 ns) (sym same_numbers) (linked_kept T T' bs ls (number t) 0 (numbers t) c tops (holds_linked T h t w)))
      (All-append (Holds T' h) ks (k ∷ ms)
      (all_kept T T' bs ls h ks c (λ x p. f x (omega arith)) (λ x p. g x (omega arith)) (All-take (Holds T h) i (kids t) all))
      (All-cons (Holds T' h) k ms v (all_kept T T' bs ls h ms c (λ x p. f x (omega arith)) (λ x p. g x (omega arith)) (All-drop (Holds T h) (suc i) (kids t) all))))

  -- ---- numbers in the table

  pub held_inside : HeldInside K V
  unfolding Holds
  held_inside T zero t w x p =
      let e : x ≡ number t = same_at x (number t) (omega (arith, occurs_parts x zero t)) in
      omega (arith, w.0.inside)
  held_inside T (suc h) t w x p =
      ⊎_elim
      (λ (b : 0 < below x (suc h) t).
      total_some (occurs x h) (x < length T.heads) (kids t)
      (All-weaker (Holds T h) (λ k. 0 < occurs x h k → x < length T.heads) (λ k v. held_inside T h k v x) (kids t) w.3) b)
      (λ (b : below x (suc h) t ≤ 0).
      let e : x ≡ number t = same_at x (number t) (omega (arith, occurs_parts x (suc h) t)) in
      omega (arith, w.0.inside))
      (cases_lt 0 (below x (suc h) t))

  pub held_low : HeldLow K V
  held_low T h t s w f d = low (length T.heads) h t f d (held_inside T h t w) s.most
