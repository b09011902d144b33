-- The way to the first or the last leaf. Assumes nothing.
use Rattle.std.proofs.Common.{◌≡◌, ℕ, zero, suc, ◌+◌, ◌-◌, ◌<◌, ◌≤◌, List, [], length, get_or, Ok, Err, Result, sym, refl, ap, ◌∙◌, subst, arith, MatchResult}
use Rattle.std.proofs.lemmas.List.{get_or-take, get_or-map}
use Rattle.supply.specs.declared.faults.Fault.{Fault}
use Rattle.supply.specs.declared.faults.Fault.TheVariants.{Breach}
use Rattle.node.specs.declared.head.Head.{Head}
use Rattle.node.specs.declared.ends.Handle.{Handle}
use Rattle.node.specs.declared.ends.Side.{Side}
use Rattle.node.specs.declared.ends.Side.TheVariants.{First, Last}
use Rattle.node.specs.Shape.{node, none, number, row, kids, kid}
use Rattle.node.specs.Store.{head_in}
use Rattle.node.specs.Links.{edge}
use Rattle.node.specs.Counts.{Stands}
use Rattle.node.specs.Ends.{end_index, end_below, end_leaf, Chain, end_edge, end_tree}
use Rattle.node.specs.Laws.{EndsStand}
use Rattle.node.proofs.Frames.{height_suc, holds_node, holds_fan, holds_kid}
use Rattle.node.proofs.Recounts.{held_stands, held_fan}

-- an index among a node's edges
pub end_index_lem : (s : Side) (n : ℕ) → end_index s n ≤ n
end_index_lem First n = omega arith
end_index_lem Last n = omega arith

module _ (s : Side) (H : List Head) where
  pub chain_stands : (h m : ℕ) → Chain s H h m → Stands H m
  unfolding Chain
  chain_stands zero m w = w
  chain_stands (suc h) m w = w.0

  -- what a descent from m has to answer
  abbrev pub Descent : ℕ → ℕ → Result Handle Fault → Type 0
  Descent h m r = MatchResult r (λ e. Chain s H h m × (e ≡ end_edge s H h m)) (λ f. (f ≡ Breach) × (Chain s H h m → ⊥))

  -- at a leaf, and one level above the answer
  arrived : (m : ℕ) → Stands H m → Chain s H zero m × (end_edge s H zero m ≡ record { node = m; idx = end_index s (head_in H m).len })
  unfolding Chain end_leaf
  arrived m w = (w, refl)

  pub descent_leaf : (h m n i : ℕ) → h ≡ 0 → Stands H m → n ≡ (head_in H m).len → i ≡ end_index s n
      → Chain s H h m × (◌≡◌ {A = Handle} (record { node = m; idx = i }) (end_edge s H h m))
  descent_leaf h m n i z w p q =
      subst (λ k. Chain s H k m × (◌≡◌ {A = Handle} (record { node = m; idx = i }) (end_edge s H k m))) (sym z)
      ((arrived m w).0, ap (λ j. record { node = m; idx = j }) (q ∙ ap (end_index s) p) ∙ sym (arrived m w).1)

  risen : (h m : ℕ) (r : Result Handle Fault) → Stands H m → Descent h (end_below s H m) r → Descent (suc h) m r
  unfolding Chain end_leaf
  risen h m (Ok e) w d = ((w, d.0), d.1)
  risen h m (Err y) w d = (d.0, λ c. d.1 c.1)

  pub descent_more : (h m n i x : ℕ) (r : Result Handle Fault) → 0 < h → Stands H m → n ≡ (head_in H m).len → i ≡ end_index s n → x ≡ edge H m i → Descent (h - 1) x r → Descent h m r
  descent_more h m n i x r l w p q e d =
      subst (λ k. Descent k m r) (sym (height_suc h l))
      (risen (h - 1) m r w (subst (λ y. Descent (h - 1) y r) (e ∙ ap (edge H m) (q ∙ ap (end_index s) p)) d))

-- in tables that hold a tree
module _ {K V : Type 0} where
  pub ends_stand : EndsStand K V
  unfolding Chain end_leaf end_tree
  ends_stand T s zero t w =
      let n = holds_node T zero t w in
      record { chain = held_stands T zero t w; edge_is = ap (λ k. record { node = number t; idx = end_index s k }) n.len_is }
  ends_stand T s (suc h) t w =
      let n = holds_node T (suc h) t w in
      let H : List Head = T.heads in
      let m : ℕ = number t in
      let i : ℕ = end_index s (length (row t)) in
      let fan-is = held_fan T h t w in
      let b : i < length (kids t) = omega (arith, holds_fan T h t w, end_index_lem s (length (row t))) in
      let below : end_below s H m ≡ number (kid t i) =
      ap (λ k. edge H m (end_index s k)) n.len_is
      ∙ sym (get_or-take ((head_in H m).len + 1) (head_in H m).edges i 0 (omega (arith, n.len_is, end_index_lem s (length (row t)))))
      ∙ ap (λ ks. get_or ks i 0) fan-is ∙ get_or-map number (kids t) i (node 0 [] none) 0 b in
      let ih = ends_stand T s h (kid t i) (holds_kid T h t i w b) in
      record {
        chain = (held_stands T (suc h) t w, subst (λ x. Chain s H h x) (sym below) ih.chain);
        edge_is = ap (λ x. end_edge s H h x) below ∙ ih.edge_is;
      }
