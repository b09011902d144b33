-- How many comparisons a cut makes. Assumes nothing.
use Rattle.rules.proofs.Searches.{first_is, made_le}
use Rattle.std.proofs.Common.{ℕ, zero, suc, ◌+◌, ◌*◌, ◌≤◌, Ordering, arith}
use Rattle.std.specs.Ordering.{is_gt}
use Rattle.order.specs.Found.{first_not_below}
use Rattle.node.specs.Shape.{Tree, row, kid, Within, root_least}
use Rattle.rules.proofs.Nodes.{within_most, within_kid}
use Rattle.rules.proofs.Ways.{index_le}
use Rattle.parts.specs.Rules.{cuts}
use Rattle.parts.specs.Laws.{CutBound}

module _ {E : Type 0} (place : E → Ordering) where
  cuts_le : (least h : ℕ) (t : Tree E) → Within least h t → cuts place h t ≤ 11 * (h + 1)
  unfolding cuts
  cuts_le least zero t w = omega (arith, made_le place (row t), within_most least zero t w)
  cuts_le least (suc h) t w =
      let i : ℕ = first_not_below place (row t) in
      let ih = cuts_le 4 h (kid t i) (within_kid least h t i w (omega (arith, first_is place (row t), index_le (λ e. is_gt (place e)) (row t)))) in
      omega (arith, ih, made_le place (row t), within_most least (suc h) t w)

pub cut_bound : {E : Type 0} → CutBound E
cut_bound place h t w = cuts_le place (root_least h) h t w
