-- The way up to the node without a parent. Assumes nothing.
use Rattle.std.proofs.Common.{◌≡◌, ℕ, zero, suc, ◌+◌, ◌<◌, ◌≤◌, List, length, Some, Option, sym, refl, ap, ◌∙◌, subst, arith}
use Rattle.node.specs.declared.head.Head.{Head}
use Rattle.node.specs.declared.ends.Handle.{Handle}
use Rattle.node.specs.declared.ends.Side.{Side}
use Rattle.node.specs.declared.nodes.NodeRef.{NodeRef}
use Rattle.node.specs.Shape.{Tree, number}
use Rattle.node.specs.Store.{Tables, Sized, head_in}
use Rattle.walk.specs.Climbs.{up, up_from, Tops}
use Rattle.walk.specs.Window.{Bounds, bound, Among, Shown}
use Rattle.walk.proofs.Panes.{inner_link}
use Rattle.walk.proofs.Stepping.{some_kid}
use Rattle.walk.proofs.Windows.{end_kid, shown_leaf, shown_inner, shown_kids, shown_pane}
use Rattle.audit.specs.Audits.{ancestor, node_ref, Leads}

module _ (H : List Head) where
  tops_zero : (m : ℕ) → Tops H zero m → (head_in H m).parent ≡ 65535
  unfolding Tops
  tops_zero m w = w.1

  tops_suc : (n m : ℕ) → Tops H (suc n) m → ((head_in H m).parent < 65535) × Tops H n (head_in H m).parent
  unfolding Tops
  tops_suc n m w = (w.1, w.2)

  tops_up : (n m p : ℕ) → m < length H → (head_in H m).parent ≡ p → p < 65535 → Tops H n p → Tops H (suc n) m
  unfolding Tops
  tops_up n m p l q o v = (l, omega arith, subst (λ x. Tops H n x) (sym q) v)

  pub tops_none : (m : ℕ) → m < length H → (head_in H m).parent ≡ 65535 → Tops H zero m
  unfolding Tops
  tops_none m l e = (l, e)

  ancestor_zero : (m : ℕ) → ancestor H zero m ≡ m
  unfolding ancestor
  ancestor_zero m = refl

  ancestor_suc : (n m : ℕ) → ancestor H (suc n) m ≡ ancestor H n (head_in H m).parent
  unfolding ancestor
  ancestor_suc n m = refl

  pub top_here : (level m n : ℕ) → (head_in H m).parent ≡ 65535 → Tops H n m → Leads H n m (level + n) (Some (node_ref m level))
  top_here level m zero e w =
      let z : level ≡ level + 0 = omega arith in
      ap (λ l. Some (node_ref m l)) z ∙ ap (λ x. Some (node_ref x (level + 0))) (sym (ancestor_zero m))
  top_here level m (suc n) e w = absurd (omega (arith, (tops_suc n m w).0))

  pub top_more : (level m : ℕ) (r : Option NodeRef) → ((head_in H m).parent ≡ 65535 → ⊥) → ((n : ℕ) → level + 1 + n ≤ 5 → Tops H n (head_in H m).parent → Leads H n (head_in H m).parent (level + 1 + n) r)
      → (n : ℕ) → level + n ≤ 5 → Tops H n m → Leads H n m (level + n) r
  top_more level m r e f zero l w = absurd (e (tops_zero m w))
  top_more level m r e f (suc n) l w =
      let z : level + 1 + n ≡ level + suc n = omega arith in
      f n (omega arith) (tops_suc n m w).1 ∙ ap (λ h. Some (node_ref (ancestor H n (head_in H m).parent) h)) z ∙ ap (λ x. Some (node_ref x (level + suc n))) (sym (ancestor_suc n m))

  pub top_above : (m n : ℕ) → ((head_in H m).parent ≡ 65535 → ⊥) → Tops H n m → 0 < n
  top_above m zero e w = absurd (e (tops_zero m w))
  top_above m (suc n) e w = omega arith

  -- an ancestor is told by the edges above
  pub ancestor_up : (n : ℕ) (e : Handle) → ancestor H n e.node ≡ (up_from H n e).node
  unfolding ancestor up_from
  ancestor_up zero e = refl
  ancestor_up (suc n) e = ancestor_up n (up H e)

-- from the edge of a leaf that is shown, up to the top and on
module _ {K V : Type 0} (T : Tables K V) (sz : Sized T) where
  pub tops : (least : ℕ) (b : Bounds) (h : ℕ) (t : Tree (K × V)) (s : Side) (e : Handle) → Shown T least b h t → bound s b ≡ Some e → (n : ℕ) → Tops T.heads n (number t) → Tops T.heads (h + n) e.node
  tops least b zero t s e w q n v =
      let z : n ≡ 0 + n = omega arith in
      subst (λ k. Tops T.heads k e.node) z (subst (λ m. Tops T.heads n m) (sym (ap (λ x. x.node) ((shown_leaf T least b t w).here s e q))) v)
  tops least b (suc h) t s e w q n v =
      let i = shown_inner T least b h t w in
      let p = some_kid s h t i.fan in
      let k : Tree (K × V) = p.0 in
      let d = end_kid (λ c k. Shown T 4 c h k) s b k p.1 (subst (λ ks. Among (λ c k. Shown T 4 c h k) b ks) p.2 (shown_kids T least b h t w)) in
      let link = inner_link T least b t i s k p.1 p.2 in
      let z : h + suc n ≡ suc h + n = omega arith in
      subst (λ j. Tops T.heads j e.node) z
      (tops 4 d.c h k s e d.kid (d.bound_same ∙ q) (suc n)
      (tops_up T.heads n (number k) (number t) (shown_pane T 4 d.c h k d.kid).node_is.inside link.parent_is (omega (arith, i.pane.node_is.inside, sz.most)) v))
