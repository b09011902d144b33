use Rattle.std.proofs.Common.{◌+◌, leb, Ok, ap}
use Rattle.node.specs.Operations.{CanMerge}
use Rattle.node.specs.Neighbours.{PairedOf}
use Rattle.node.proofs.Tabled.{err_not_ok, ok_same}
use Rattle.node.proofs.nodes.Internal.can_merge.Goals as goal

pub returns-in_err-pair-clause-fits : goal.returns-in_err-pair-clause-fits
unfolding CanMerge PairedOf
returns-in_err-pair-clause-fits g c = λ l r us e ws es fs xs bs ks ls s q. absurd (err_not_ok _ _ (c.in_err-pair.ensures.held l r us e ws es fs xs bs ks ls s q))

pub returns-clause-fits : goal.returns-clause-fits
unfolding CanMerge PairedOf
returns-clause-fits g c = λ l r us e ws es fs xs bs ks ls s q.
    let eq = ok_same _ _ (c.in_ok-pair.ensures.held l r us e ws es fs xs bs ks ls s q) in
    ap (λ (p : _). Ok (leb (p.left_len + p.right_len + 1) 11)) eq
