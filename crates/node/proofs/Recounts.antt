-- The entries under a node, counted child by child. Assumes nothing.
use Rattle.std.proofs.Common.{◌≡◌, ℕ, zero, suc, ◌+◌, ◌-◌, ◌*◌, ◌<◌, ◌≤◌, List, [], ◌∷◌, map, length, take, get_or, All, sym, refl, ap, ◌∙◌, subst, mul-le-mul_right, arith, length-take}
use lib.ListN.{length-map}
use Rattle.std.proofs.lemmas.List.Elements.{All-get_or, All-push, All-weaker, All-map, All-nil}
use Rattle.std.proofs.lemmas.List.{take_more, take_all}
use Rattle.node.specs.declared.head.Head.{Head}
use Rattle.node.specs.Shape.{Tree, number, row, kids, flat, weave, total}
use Rattle.node.specs.Store.{Tables, Holds, head_in, head_at, numbers}
use Rattle.node.specs.Counts.{Stands, fan, Reached, count, Counted}
use Rattle.node.specs.Laws.{Recount}
use Rattle.node.proofs.Runs.{itself_map}
use Rattle.node.proofs.Weaves.{total_append, total_most, total_map, total_same, weave_size}
use Rattle.node.proofs.Frames.{height_suc, holds_node, holds_fan, holds_kids}

-- a node that the tables hold stands there, with the numbers of its children as its fan
module _ {K V : Type 0} (T : Tables K V) where
  pub held_stands : (h : ℕ) (t : Tree (K × V)) → Holds T h t → Stands T.heads (number t)
  held_stands h t w = let n = holds_node T h t w in record { inside = n.inside; few = omega (arith, n.few, n.len_is) }

  pub held_fan : (h : ℕ) (t : Tree (K × V)) → Holds T (suc h) t → fan T.heads (number t) ≡ numbers t
  held_fan h t w =
      let n = holds_node T (suc h) t w in
      let z : (head_at T (number t)).len + 1 ≡ length (numbers t) = omega (arith, n.len_is, holds_fan T h t w, length-map (kids t) number) in
      ap (λ k. take k (head_at T (number t)).edges) z ∙ n.edges_are ∙ itself_map (numbers t)

-- the most entries under a node of height h
abbrev most : ℕ → ℕ
most zero = 11
most (suc h) = 11 + 12 * most h

most_four : (h : ℕ) → h ≤ 4 → most h ≤ 248831
most_four zero l = omega arith
most_four (suc zero) l = omega arith
most_four (suc (suc zero)) l = omega arith
most_four (suc (suc (suc zero))) l = omega arith
most_four (suc (suc (suc (suc zero)))) l = omega arith
most_four (suc (suc (suc (suc (suc h))))) l = absurd (omega arith)

module _ (H : List Head) where
  pub reached_stands : (h m : ℕ) → Reached H h m → Stands H m
  unfolding Reached
  reached_stands zero m w = w
  reached_stands (suc h) m w = w.0

  -- a leaf, and a node above its children
  counted_zero : (m : ℕ) → Stands H m → Counted H zero m (head_in H m).len
  unfolding Reached count
  counted_zero m s = record { reached = s; count_is = refl }

  counted_suc : (h m : ℕ) → Stands H m → All (Reached H h) (fan H m) → Counted H (suc h) m ((head_in H m).len + total (count H h) (fan H m))
  unfolding Reached count
  counted_suc h m s a = record { reached = (s, a); count_is = refl }

  reached_fan : (h m : ℕ) → Reached H (suc h) m → All (Reached H h) (fan H m)
  unfolding Reached
  reached_fan h m w = w.1

  pub counted_leaf : (h m : ℕ) → h ≡ 0 → Stands H m → Counted H h m (head_in H m).len
  counted_leaf h m z s = subst (λ k. Counted H k m (head_in H m).len) (sym z) (counted_zero m s)

  pub reached_kid : (h m i : ℕ) → 0 < h → Reached H h m → i < length (fan H m) → Reached H (h - 1) (get_or (fan H m) i 0)
  reached_kid h m i l w b = All-get_or (Reached H (h - 1)) (fan H m) i 0 b (reached_fan (h - 1) m (subst (λ k. Reached H k m) (height_suc h l) w))

  -- the same, where n is the number of entries as it was read
  pub reached_child : (h m i n : ℕ) → n ≡ (head_in H m).len → 0 < h → Reached H h m → i < length (take (n + 1 - 0) (head_in H m).edges) → Reached H (h - 1) (get_or (take (n + 1 - 0) (head_in H m).edges) i 0)
  reached_child h m i n q up w l =
      let z : n + 1 - 0 ≡ (head_in H m).len + 1 = omega arith in
      let e = ap (λ k. take k (head_in H m).edges) z in
      subst (λ cs. Reached H (h - 1) (get_or cs i 0)) (sym e) (reached_kid h m i up w (subst (λ (cs : List ℕ). i < length cs) e l))

  counted_most : (h m : ℕ) → Reached H h m → count H h m ≤ most h
  unfolding Reached count
  counted_most zero m w = omega (arith, w.few)
  counted_most (suc h) m w =
      let few = w.0.few in
      let each : All (λ x. count H h x ≤ most h) (fan H m) = All-weaker (Reached H h) (λ x. count H h x ≤ most h) (λ x v. counted_most h x v) (fan H m) w.1 in
      let sum = total_most (count H h) (most h) (fan H m) each in
      let wide : length (fan H m) ≤ 12 = simp length-take (omega arith) in
      let times : length (fan H m) * most h ≤ 12 * most h = mul-le-mul_right (most h) wide in
      omega arith

-- the entries of m itself and of its first i children, which are of height h
pub record Summed (H : List Head) (h m i n : ℕ) : Type 0 where
  pub reached : All (Reached H h) (take i (fan H m))
  pub sum_is : n ≡ (head_in H m).len + total (count H h) (take i (fan H m))

module _ (H : List Head) (h m : ℕ) where
  pub summed_none : Summed H h m 0 (head_in H m).len
  summed_none = record { reached = All-nil (Reached H h); sum_is = omega arith }

  pub summed_more : (i n k : ℕ) → Summed H h m i n → i < length (fan H m) → Counted H h (get_or (fan H m) i 0) k → Summed H h m (i + 1) (n + k)
  summed_more i n k w l c =
      let e = take_more (fan H m) i 0 l in
      record {
        reached = subst (λ cs. All (Reached H h) cs) (sym e) (All-push (Reached H h) (take i (fan H m)) (get_or (fan H m) i 0) w.reached c.reached);
        sum_is = omega (arith, w.sum_is, c.count_is, ap (total (count H h)) e, total_append (count H h) (take i (fan H m)) (get_or (fan H m) i 0 ∷ []));
      }

  -- no sum on the way is large
  pub summed_small : (i n x k : ℕ) → h ≤ 4 → Stands H m → Summed H h m i n → Counted H h x k → n + k < 4000000
  summed_small i n x k l s w c =
      let top = most_four h l in
      let few = s.few in
      let each : All (λ y. count H h y ≤ 248831) (take i (fan H m)) =
      All-weaker (Reached H h) (λ y. count H h y ≤ 248831) (λ y v. omega (arith, counted_most H h y v)) (take i (fan H m)) w.reached in
      let sum = total_most (count H h) 248831 (take i (fan H m)) each in
      let wide : length (take i (fan H m)) ≤ 12 = simp length-take (omega arith) in
      omega (arith, w.sum_is, c.count_is, counted_most H h x c.reached)

pub summed_all : (H : List Head) (h m i n : ℕ) → 0 < h → Stands H m → length (fan H m) ≤ i → Summed H (h - 1) m i n → Counted H h m n
summed_all H h m i n l s all w =
    let e : take i (fan H m) ≡ fan H m = take_all i (fan H m) all in
    let r = subst (λ cs. All (Reached H (h - 1)) cs) e w.reached in
    let k = w.sum_is ∙ ap (λ cs. (head_in H m).len + total (count H (h - 1)) cs) e in
    subst (λ k. Counted H k m n) (sym (height_suc h l)) (subst (λ k. Counted H (suc (h - 1)) m k) (sym k) (counted_suc H (h - 1) m s r))

-- what is counted under a held tree
module _ {K V : Type 0} where
  pub recount : Recount K V
  unfolding flat
  recount T zero t w =
      let n = holds_node T zero t w in
      subst (λ k. Counted T.heads zero (number t) k) n.len_is (counted_zero T.heads (number t) (held_stands T zero t w))
  recount T (suc h) t w =
      let H : List Head = T.heads in
      let ks : List (Tree (K × V)) = kids t in
      let is : fan H (number t) ≡ map number ks = held_fan T h t w in
      let each : All (λ k. Counted H h (number k) (length (flat h k))) ks =
      All-weaker (Holds T h) (λ k. Counted H h (number k) (length (flat h k))) (λ k v. recount T h k v) ks (holds_kids T h t w) in
      let reached : All (Reached H h) (map number ks) =
      All-map (Reached H h) number ks (All-weaker (λ k. Counted H h (number k) (length (flat h k))) (λ k. Reached H h (number k)) (λ k v. v.reached) ks each) in
      let counts : total (λ k. count H h (number k)) ks ≡ total (λ k. length (flat h k)) ks =
      total_same (λ k. count H h (number k)) (λ k. length (flat h k)) ks
      (All-weaker (λ k. Counted H h (number k) (length (flat h k))) (λ k. count H h (number k) ≡ length (flat h k)) (λ k v. v.count_is) ks each) in
      let size : length (weave (map (flat h) ks) (row t)) ≡ length (row t) + total length (map (flat h) ks) =
      weave_size (map (flat h) ks) (row t) (length-map ks (flat h) ∙ holds_fan T h t w) in
      let same : (head_in H (number t)).len + total (count H h) (fan H (number t)) ≡ length (weave (map (flat h) ks) (row t)) =
      omega (
        arith,
        (holds_node T (suc h) t w).len_is,
        ap (total (count H h)) is,
        total_map (count H h) number ks,
        counts,
        total_map length (flat h) ks,
        size,
      ) in
      subst (λ n. Counted H (suc h) (number t) n) same (counted_suc H h (number t) (held_stands T (suc h) t w) (subst (λ cs. All (Reached H h) cs) (sym is) reached))
