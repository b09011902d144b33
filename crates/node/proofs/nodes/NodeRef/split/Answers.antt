use Rattle.std.proofs.Common.{[], ◌∷◌, Ok, refl, ap₂, arith, length-append}
use Rattle.node.specs.Store.{tables, first, second}
use Rattle.node.specs.Operations.{Splits, MovesTail}
use Rattle.node.proofs.Runs.{run_at}
use Rattle.node.proofs.Tabled.{not_strange, err_not_ok}
use Rattle.node.proofs.nodes.NodeRef.split.Goals as goal

pub returns-in_err-len-clause-splits : goal.returns-in_err-len-clause-splits
unfolding Splits
returns-in_err-len-clause-splits g c = λ es e fs ks ls sized node p f1 f2 there other kids.
    absurd (not_strange (tables c.args.heads.now c.args.keys.now c.args.values.now) _ _ _ sized node c.in_err-len.ensures.1)

pub returns-then-idx-len-clause-splits : goal.returns-then-idx-len-clause-splits
unfolding Splits
returns-then-idx-len-clause-splits g c = λ es e fs ks ls sized node p f1 f2 there other kids.
    absurd (omega (arith, node.len_is, length-append es (e ∷ fs), c.in_ok-len.ensures.len_is))

pub returns-in_err-check_beside-clause-splits : goal.returns-in_err-check_beside-clause-splits
unfolding Splits
returns-in_err-check_beside-clause-splits g c = λ es e fs ks ls sized node p f1 f2 there other kids.
    absurd (c.in_err-check_beside.ensures.1 there other)

pub returns-in_err-move_tail-clause-splits : goal.returns-in_err-move_tail-clause-splits
unfolding Splits MovesTail
returns-in_err-move_tail-clause-splits g c = λ es e fs ks ls sized node p f1 f2 there other kids.
    absurd (err_not_ok _ _ (c.in_err-move_tail.ensures.moves es (e ∷ []) fs ks ls [] sized node there refl p refl f1 f2.leaf f2.inner f2 kids).0)

pub returns-clause-splits : goal.returns-clause-splits
unfolding Splits MovesTail
returns-clause-splits g c = λ es e fs ks ls sized node p f1 f2 there other kids.
    let all = c.in_ok-move_tail.ensures.moves es (e ∷ []) fs ks ls [] sized node there refl p refl f1 f2.leaf f2.inner f2 kids in
    let k = run_at first c.args.keys.now _ c.args.idx es e fs _ node.keys_are p c.index-keys-at.is in
    let v = run_at second c.args.values.now _ c.args.idx es e fs _ node.values_are p c.index-values-at.is in
    (ap₂ (λ x y. Ok (x, y)) k v, all.1, all.2, all.3, all.4)
