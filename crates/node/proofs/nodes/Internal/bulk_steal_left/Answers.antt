use Rattle.std.proofs.Common.{◌∷◌, ◌++◌, ap, arith, length-append}
use Rattle.node.specs.declared.rows.Pair.{Pair}
use Rattle.node.specs.Operations.{StealsLeft}
use Rattle.node.specs.Neighbours.{PairedOf}
use Rattle.node.proofs.Tabled.{err_not_ok, ok_same}
use Rattle.node.proofs.nodes.Internal.bulk_steal_left.Goals as goal

pub returns-in_err-pair-clause-steals : goal.returns-in_err-pair-clause-steals
unfolding StealsLeft PairedOf
returns-in_err-pair-clause-steals g c = λ l r us e ws es x gs fs xs bs ks qs ls s q up pn f1 f2 f3 fits kids.
    absurd (err_not_ok _ _ (c.in_err-pair.ensures.held l r us e ws (es ++ x ∷ gs) fs xs bs (ks ++ qs) ls s q))

pub returns-in_err-check_count-clause-steals : goal.returns-in_err-check_count-clause-steals
unfolding StealsLeft PairedOf
returns-in_err-check_count-clause-steals g c = λ l r us e ws es x gs fs xs bs ks qs ls s q up pn f1 f2 f3 fits kids.
    let eq = ok_same _ _ (c.in_ok-pair.ensures.held l r us e ws (es ++ x ∷ gs) fs xs bs (ks ++ qs) ls s q) in
    let m = ap (λ (p : Pair). p.left_len) eq in
    let n = ap (λ (p : Pair). p.right_len) eq in
    absurd (c.in_err-check_count.ensures.1 (omega arith) (omega (arith, length-append es (x ∷ gs))) (omega arith))
