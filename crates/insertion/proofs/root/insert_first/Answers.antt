use Rattle.std.proofs.Common.{refl, arith}
use Rattle.node.proofs.Tabled.{err_not_ok}
use Rattle.insertion.proofs.Crowning.{first_leaf}
use Rattle.insertion.proofs.root.insert_first.Goals as goal

pub returns-in_err-insert_fit : goal.returns-in_err-insert_fit
returns-in_err-insert_fit g c = λ sized fits.
    absurd (err_not_ok _ _ (first_leaf _ _ _ _ _ _ c.in_ok-node.node _ _ c.in_ok-node.ensures.taken sized
    c.in_ok-new_leaf.ensures c.in_err-insert_fit.ensures.inserts).0)

pub returns : goal.returns
returns g c = λ sized fits.
    let q = first_leaf _ _ _ _ _ _ c.in_ok-node.node _ _ c.in_ok-node.ensures.taken sized
    c.in_ok-new_leaf.ensures c.in_ok-insert_fit.ensures.inserts in
    record {
      declined = λ l. absurd (omega (arith, c.in_ok-node.ensures.taken.allowance));
      granted = λ _. (c.in_ok-node.node, refl, q.1);
    }
