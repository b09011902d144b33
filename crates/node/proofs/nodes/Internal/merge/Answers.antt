use Rattle.std.proofs.Common.{◌+◌, ap, arith}
use Rattle.node.specs.declared.rows.Pair.{Pair}
use Rattle.node.specs.Operations.{Merges}
use Rattle.node.specs.Neighbours.{PairedOf}
use Rattle.node.proofs.Tabled.{err_not_ok, ok_same}
use Rattle.node.proofs.nodes.Internal.merge.Goals as goal

pub returns-in_err-pair-clause-merges : goal.returns-in_err-pair-clause-merges
unfolding Merges PairedOf
returns-in_err-pair-clause-merges g c = λ l r us e ws es fs xs bs ks ls s q up f1 f2 fits kids.
    absurd (err_not_ok _ _ (c.in_err-pair.ensures.held l r us e ws es fs xs bs ks ls s q))

pub returns-then-pair-gt-CAPACITY-clause-merges : goal.returns-then-pair-gt-CAPACITY-clause-merges
unfolding Merges PairedOf
returns-then-pair-gt-CAPACITY-clause-merges g c = λ l r us e ws es fs xs bs ks ls s q up f1 f2 fits kids.
    let eq = ok_same _ _ (c.in_ok-pair.ensures.held l r us e ws es fs xs bs ks ls s q) in
    let m = ap (λ (p : Pair). p.left_len + p.right_len) eq in
    absurd (omega (arith, c.if-pair-gt-CAPACITY.true))
