use Rattle.std.proofs.Common.{◌≡◌, suc, ◌+◌, Ok, sym, ap, ◌∙◌, arith}
use Rattle.node.proofs.Frames.{holds_node}
use Rattle.node.proofs.Tabled.{err_not_ok}
use Rattle.insertion.specs.Roots.{Crowns}
use Rattle.insertion.proofs.Crowning.{new_root, apart_from}
use Rattle.insertion.proofs.root.grow_root.Goals as goal

pub returns-in_err-node : goal.returns-in_err-node
unfolding Crowns
returns-in_err-node g c = λ l y sized fits u v at-l at_y owned enough. absurd (omega (arith, c.in_err-node.ensures.taken.none_left))

pub returns-in_err-push_level : goal.returns-in_err-push_level
unfolding Crowns
returns-in_err-push_level g c = λ l y sized fits u v at-l at_y owned enough.
    let given = c.in_ok-node.ensures.taken in
    absurd (c.in_err-push_level.ensures.1 (omega (arith, given.below, fits)) (omega (arith, (holds_node _ c.args.root.height l u).inside))
    (λ z. apart_from _ _ c.in_ok-node.node c.args.root.height l given (λ x. omega (arith, owned x)) (z ∙ sym at-l)))

pub returns-in_err-insert_fit : goal.returns-in_err-insert_fit
unfolding Crowns
returns-in_err-insert_fit g c = λ l y sized fits u v at-l at_y owned enough.
    absurd (err_not_ok _ _ (new_root _ _ _ _ _ _ c.args.root.height c.in_ok-node.node _ _ l y c.in_ok-node.ensures.taken sized u v at-l at_y owned
    c.in_ok-push_level.ensures c.in_err-insert_fit.ensures.inserts).0)

pub returns : goal.returns
unfolding Crowns
returns g c = λ l y sized fits u v at-l at_y owned enough.
    let q = new_root _ _ _ _ _ _ c.args.root.height c.in_ok-node.node _ _ l y c.in_ok-node.ensures.taken sized u v at-l at_y owned
    c.in_ok-push_level.ensures c.in_ok-insert_fit.ensures.inserts in
    (c.in_ok-node.node, ap (λ k. Ok (record { node = c.in_ok-node.node; height = k })) (let z : c.args.root.height + 1 ≡ suc c.args.root.height = omega arith in z), q.1)
