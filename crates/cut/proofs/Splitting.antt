-- The lengths of both parts of a cut. Assumes nothing.
use Rattle.node.specs.Kinds.{root_of}
use Rattle.std.proofs.Common.{◌≡◌, ℕ, ◌≤◌, length, Some, Ok, Result, Ordering, sym, ap, ◌∙◌, subst, ap₂, arith, length-append}
use Rattle.supply.specs.declared.faults.Fault.{Fault}
use Rattle.supply.specs.Stocks.{Stock}
use Rattle.node.specs.declared.ends.Side.{Side}
use Rattle.node.specs.declared.ends.Side.TheVariants.{First, Last}
use Rattle.node.specs.declared.nodes.NodeRef.{NodeRef}
use Rattle.node.specs.Shape.{Tree, flat, Formed}
use Rattle.node.specs.Store.{Tables}
use Rattle.node.specs.Counts.{Counted}
use Rattle.node.specs.Balance.{Owns}
use Rattle.node.proofs.Balances.{mark_most}
use Rattle.node.proofs.Frames.{held_low}
use Rattle.node.proofs.Recounts.{recount}
use Rattle.node.proofs.Tabled.{ok_same}
use Rattle.parts.specs.Rules.{fix_top, mend, repair, cut_left, cut_right}
use Rattle.parts.proofs.Mends.{cut_parts}
use Rattle.repair.proofs.Repairing.{top_low}
use Rattle.cut.specs.declared.split.Cut.{Cut}
use Rattle.cut.specs.Descent.{beneath}
use Rattle.cut.specs.Split.{CountsBoth, left_of, right_of, made_of, HalvesAt, Split}

pub split_low : {K V : Type 0} (T : Tables K V) (S : Stock) (h : ℕ) (t : Tree (K × V)) → Owns T S h t → Formed h t → h ≤ 5
split_low T S h t o f = held_low T h t o.sized o.holds f (λ x. omega (arith, o.owned x, mark_most S x))

repair_low : {E : Type 0} (s : Side) (h : ℕ) (t : Tree E) → (repair s h t).0 ≤ h
repair_low s h t = omega (arith, top_low h t, top_low (fix_top h t).0 (mend s (fix_top h t).0 (fix_top h t).1))

module _ {K V : Type 0} (place : K → Ordering) (T T' : Tables K V) (S S' : Stock) (h : ℕ) (t : Tree (K × V)) (low : h ≤ 5) (formed : Formed h t) (count : ℕ) (size : count ≡ length (flat h t))
    (left right : NodeRef) (made : ℕ) (v : HalvesAt place T T' S S' h t (Ok (left, right, made))) where
  abbrev l : ℕ × Tree (K × V)
  l = left_of place h t

  abbrev r : ℕ × Tree (K × V)
  r = right_of place v.fresh h t

  abbrev a : ℕ
  a = length (flat l.0 l.1)

  abbrev b : ℕ
  b = length (flat r.0 r.1)

  three : ◌≡◌ {A = NodeRef × NodeRef × ℕ} (left, right, made) (root_of l, root_of r, made_of place h t)
  three = ok_same _ _ v.answer

  left_is : left ≡ root_of l
  left_is = ap (λ z. z.0) three

  right_is : right ≡ root_of r
  right_is = ap (λ z. z.1) three

  pub counts_to : {U : Tables K V} → U ≡ T' → (res : Result (ℕ × ℕ) Fault) → CountsBoth U.heads left right count res → res ≡ Ok (a, b)
  counts_to same res c =
      subst (λ (U : Tables K V). CountsBoth U.heads left right count res) same c a b
      (subst (λ n. Counted T'.heads n.height n.node a) (sym left_is) (recount T' l.0 l.1 v.halved.left))
      (subst (λ n. Counted T'.heads n.height n.node b) (sym right_is) (recount T' r.0 r.1 v.halved.right))
      (subst (λ n. n.height ≤ 5) (sym left_is) (omega (arith, repair_low Last h (cut_left (beneath place) h t))))
      (subst (λ n. n.height ≤ 5) (sym right_is) (omega (arith, repair_low First h (cut_right v.fresh (beneath place) h t))))
      (size ∙ ap length (sym (cut_parts v.fresh (beneath place) h t formed).0) ∙ length-append (flat l.0 l.1) (flat r.0 r.1))

  pub split_at : {U : Tables K V} → U ≡ T' → (before after : ℕ) → CountsBoth U.heads left right count (Ok (before, after)) → Split place T T' S S' h t (Ok (record { parts = Some (left, right); counts = (before, after, made) }))
  split_at same before after c =
      let two : ◌≡◌ {A = ℕ × ℕ} (before, after) (a, b) = ok_same _ _ (counts_to same (Ok (before, after)) c) in
      record {
        fresh = v.fresh;
        answer = ap₂ tell three two;
        halved = v.halved;
      }
    where
      tell : NodeRef × NodeRef × ℕ → ℕ × ℕ → Result Cut Fault
      tell p q = Ok (record { parts = Some (p.0, p.1); counts = (q.0, q.1, p.2) })
