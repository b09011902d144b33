-- A root without entries taken off. Assumes nothing.
use Rattle.std.proofs.Common.{◌≡◌, ℕ, zero, suc, ◌+◌, ◌-◌, ◌<◌, ◌≤◌, List, [], ◌∷◌, map, length, get_or, Ok, Result, sym, refl, ap, ◌∙◌, subst, ap₂, arith, length-set, get_or-set_other, get_or-set_same}
use Rattle.std.proofs.lemmas.List.{nil_from_length}
use Rattle.supply.specs.declared.faults.Fault.{Fault}
use Rattle.supply.specs.Stocks.{Stock, Returned, Declined}
use Rattle.node.specs.declared.head.Head.{Head}
use Rattle.node.specs.declared.nodes.NodeRef.{NodeRef}
use Rattle.node.specs.Links.{edge}
use Rattle.node.specs.Shape.{Tree, node, none, number, row, kids, kid, total}
use Rattle.node.specs.Store.{Tables, tables, Node, Holds, Changed, head_in, head_at, no_head, numbers}
use Rattle.node.specs.Laws.{occurs, below, same}
use Rattle.node.specs.Balance.{mark, Owns, Rooted}
use Rattle.node.specs.Levels.{pop_level}
use Rattle.node.proofs.Adopts.{times_one, kept_by_set}
use Rattle.node.proofs.Balances.{mark_most, guard_most, mark_unused, balanced_as, balanced_returned, beside_changed}
use Rattle.node.proofs.Frames.{height_suc, holds_node, holds_fan, holds_kid, frame_changed}
use Rattle.node.proofs.Numbers.{same_self, occurs_parts}
use Rattle.node.proofs.Runs.{edge_is}
use Rattle.parts.specs.Rules.{fix_top, lifted}
use Rattle.repair.specs.Repair.{Became, Topped, FixesTop}
use Rattle.repair.proofs.Becoming.{became_none, became_both, became_owns}

-- ---- trees

one_of : {X : Type 0} (xs : List X) (d : X) → length xs ≡ 1 → xs ≡ get_or xs 0 d ∷ []
one_of [] d l = absurd (omega arith)
one_of (x ∷ []) d l = refl
one_of (x ∷ (y ∷ xs)) d l = absurd (omega arith)

module _ {E : Type 0} where
  top_leaf : (t : Tree E) → fix_top zero t ≡ (zero, t)
  unfolding fix_top
  top_leaf t = refl

  top_kept : (h : ℕ) (t : Tree E) → 0 < length (row t) → fix_top (suc h) t ≡ (suc h, t)
  unfolding fix_top
  top_kept h t l = go (row t) l
    where
      go : (es : List E) → 0 < length es → lifted es (fix_top h (kid t 0)) (suc h, t) ≡ (suc h, t)
      go [] l = absurd (omega arith)
      go (e ∷ es) l = refl

  top_off : (h : ℕ) (t : Tree E) → row t ≡ [] → fix_top (suc h) t ≡ fix_top h (kid t 0)
  unfolding fix_top
  top_off h t z = ap (λ es. lifted es (fix_top h (kid t 0)) (suc h, t)) z

-- a node by its number and its height
pub ref_is : (n : NodeRef) (m k : ℕ) → n.node ≡ m → n.height ≡ k → n ≡ record { node = m; height = k }
ref_is n m k p q = ap₂ (λ a b. record { node = a; height = b }) p q

-- ---- a root that stays

module _ {K V : Type 0} (T : Tables K V) (S : Stock) (root : NodeRef) where
  stays : (h : ℕ) (t : Tree (K × V)) → Owns T S h t → number t ≡ root.node → Rooted T root.node → root.height ≡ h → fix_top h t ≡ (h, t) → Topped T T S S h t (fix_top h t) (Ok root)
  stays h t o e z q f = subst (λ p. Topped T T S S h t p (Ok root)) (sym f) (record {
    answer = ap Ok (ref_is root (number t) h (sym e) q);
    root = subst (λ m. Rooted T m) (sym e) z;
    became = became_none T S h t o.holds;
  })

  pub stays_leaf : root.height ≡ 0 → FixesTop T T S S root.height root.node (Ok root)
  unfolding FixesTop
  stays_leaf q t o e z low =
      subst (λ k. Topped T T S S k t (fix_top k t) (Ok root)) (sym q) (stays 0 t (subst (λ k. Owns T S k t) q o) e z q (top_leaf t))

  pub stays_inner : 0 < root.height → 0 < (head_at T root.node).len → FixesTop T T S S root.height root.node (Ok root)
  unfolding FixesTop
  stays_inner up some t o e z low =
      let h : ℕ = root.height - 1 in
      let q : root.height ≡ suc h = height_suc root.height up in
      let n : (head_at T root.node).len ≡ length (row t) = ap (λ m. (head_at T m).len) (sym e) ∙ (holds_node T root.height t o.holds).len_is in
      subst (λ k. Topped T T S S k t (fix_top k t) (Ok root)) (sym q) (stays (suc h) t (subst (λ k. Owns T S k t) q o) e z q (top_kept h t (omega arith)))

-- ---- a root taken off

module _ {K V : Type 0} (H : List Head) (ks : List K) (vs : List V) (c : ℕ) (c-in : c < length H) where
  abbrev popped : Head
  popped = record { parent = 65535; place = (head_in H c).place; len = (head_in H c).len; edges = (head_in H c).edges }

  pop_changed : Changed (tables H ks vs) (tables (pop_level H c) ks vs) [] (c ∷ [])
  pop_changed = record {
    heads_len = length-set H c popped;
    keys_len = refl;
    values_len = refl;
    bodies = λ x z. record {
      len_same = kept_by_set (λ h. h.len) H c popped refl c-in x;
      edges_same = kept_by_set (λ h. h.edges) H c popped refl c-in x;
      keys_same = refl;
      values_same = refl;
    };
    links = λ x z. record {
      parent_same = ap (λ h. h.parent) (get_or-set_other H c x popped no_head (times_one x c z));
      place_same = ap (λ h. h.place) (get_or-set_other H c x popped no_head (times_one x c z));
    };
  }

  pop_root : Rooted (tables (pop_level H c) ks vs) c
  pop_root = ap (λ h. h.parent) (get_or-set_same H c popped no_head c-in)

module _ {K V : Type 0} (H : List Head) (ks : List K) (vs : List V) (S : Stock) (h m : ℕ) (t : Tree (K × V)) (o : Owns (tables H ks vs) S (suc h) t) (e : number t ≡ m) (bare : (head_in H m).len ≡ 0) where
  abbrev T : Tables K V
  T = tables H ks vs

  abbrev k : Tree (K × V)
  k = kid t 0

  here : Node T m (row t) (numbers t)
  here = subst (λ x. Node T x (row t) (numbers t)) e (holds_node T (suc h) t o.holds)

  empty : row t ≡ []
  empty = nil_from_length (row t) (sym here.len_is ∙ bare)

  only : kids t ≡ k ∷ []
  only = one_of (kids t) (node 0 [] none) (holds_fan T h t o.holds ∙ ap (λ es. suc (length es)) empty)

  child_held : Holds T h k
  child_held = holds_kid T h t 0 o.holds (omega (arith, holds_fan T h t o.holds))

  pub child_in : number k < length H
  child_in = (holds_node T h k child_held).inside

  pub node_in : m < length H
  node_in = here.inside

  pub child_edge : edge H m 0 ≡ number k
  child_edge = edge_is (head_in H m).edges [] (number k ∷ []) 0 0 0 (subst (λ ns. Node T m (row t) ns) (ap (map number) only) here).edges_are refl (omega arith) (omega arith)

  sum : (x : ℕ) → occurs x (suc h) t ≡ same x m + occurs x h k
  sum x =
      let b : below x (suc h) t ≡ occurs x h k + 0 = ap (total (occurs x h)) only in
      omega (arith, occurs_parts x (suc h) t, ap (same x) e)

  pub node_out : 0 < mark S m
  node_out = omega (arith, o.owned m, sum m, same_self m)

  once : (x : ℕ) → same x m + occurs x h k ≤ 1
  once x = omega (arith, sum x, o.owned x, mark_most S x)

  module _ (S₁ : Stock) (given : Returned S S₁ m) where
    abbrev T₁ : Tables K V
    T₁ = tables (pop_level H (number k)) ks vs

    became : Became T T₁ S S₁ (suc h) t h k
    became = record {
      holds = frame_changed T T₁ [] (number k ∷ []) h k (pop_changed H ks vs (number k) child_in)
          (λ x l. refl)
          (λ x l. omega (arith, once x, occurs_parts x h k))
          child_held;
      balanced = balanced_as S S₁ (λ x. same x m + occurs x h k) (λ x. occurs x h k) (λ x. occurs x (suc h) t) (λ x. occurs x h k)
          (λ x. omega (arith, sum x)) (balanced_returned S S₁ m (λ x. occurs x h k) given);
      beside = beside_changed T T₁ S (λ x. occurs x (suc h) t) [] (number k ∷ []) (pop_changed H ks vs (number k) child_in)
          (λ x l. refl)
          (λ x l. omega (arith, sum x, occurs_parts x h k, guard_most S x));
    }

    taken_off : (T'' : Tables K V) (S'' : Stock) (r : Result NodeRef Fault) → FixesTop T₁ T'' S₁ S'' h (number k) r → suc h ≤ 5 → Topped T T'' S S'' (suc h) t (fix_top (suc h) t) r
    unfolding FixesTop
    taken_off T'' S'' r ih low =
        let v : Topped T₁ T'' S₁ S'' h k (fix_top h k) r = ih k (became_owns T T₁ S S₁ (suc h) t h k o became) refl (pop_root H ks vs (number k) child_in) (omega arith) in
        subst (λ p. Topped T T'' S S'' (suc h) t p r) (sym (top_off h t empty)) (record {
          answer = v.answer;
          root = v.root;
          became = became_both T T₁ T'' S S₁ S'' (suc h) t h k (fix_top h k).0 (fix_top h k).1 became v.became;
        })

-- ---- for the code

module _ {K V : Type 0} (H : List Head) (ks : List K) (vs : List V) (S : Stock) (h m : ℕ) (up : 0 < h) (bare : (head_in H m).len ≡ 0) where
  lowered : (t : Tree (K × V)) → Owns (tables H ks vs) S h t → Owns (tables H ks vs) S (suc (h - 1)) t
  lowered t o = subst (λ k. Owns (tables H ks vs) S k t) (height_suc h up) o

  pub not_popped : (t : Tree (K × V)) → Owns (tables H ks vs) S h t → number t ≡ m → (m < length H → edge H m 0 < length H → ⊥) → ⊥
  not_popped t o e refused =
      refused (node_in H ks vs S (h - 1) m t (lowered t o) e bare)
      (subst (λ x. x < length H) (sym (child_edge H ks vs S (h - 1) m t (lowered t o) e bare)) (child_in H ks vs S (h - 1) m t (lowered t o) e bare))

  pub not_declined : (t : Tree (K × V)) → Owns (tables H ks vs) S h t → number t ≡ m → (S₁ : Stock) (f : Fault) → Declined S S₁ m f → ⊥
  not_declined t o e S₁ f d = omega (arith, node_out H ks vs S (h - 1) m t (lowered t o) e bare, mark_unused S m d.not_out)

  pub goes_down : (low : NodeRef) → low.node ≡ edge H m 0 → low.height ≡ h - 1 → (G : List Head) → G ≡ pop_level H low.node → (S₁ : Stock) → Returned S S₁ m
      → (T'' : Tables K V) (S'' : Stock) (r : Result NodeRef Fault) → FixesTop (tables G ks vs) T'' S₁ S'' low.height low.node r → FixesTop (tables H ks vs) T'' S S'' h m r
  unfolding FixesTop
  goes_down low at down G made S₁ given T'' S'' r ih t o e z few =
      let o' = lowered t o in
      let k : Tree (K × V) = kid t 0 in
      let ck : low.node ≡ number k = at ∙ child_edge H ks vs S (h - 1) m t o' e bare in
      let ih₁ : FixesTop (tables (pop_level H low.node) ks vs) T'' S₁ S'' (h - 1) low.node r =
      subst (λ n. FixesTop (tables (pop_level H low.node) ks vs) T'' S₁ S'' n low.node r) down (subst (λ F. FixesTop (tables F ks vs) T'' S₁ S'' low.height low.node r) made ih) in
      let ih₂ : FixesTop (tables (pop_level H (number k)) ks vs) T'' S₁ S'' (h - 1) (number k) r = subst (λ x. FixesTop (tables (pop_level H x) ks vs) T'' S₁ S'' (h - 1) x r) ck ih₁ in
      subst (λ j. Topped (tables H ks vs) T'' S S'' j t (fix_top j t) r) (sym (height_suc h up))
      (taken_off H ks vs S (h - 1) m t o' e bare S₁ given T'' S'' r ih₂ (omega arith))
