use Rattle.std.proofs.Common.{refl, ap, Ok}
use Rattle.std.proofs.lemmas.Result.{err_from_is_err_and}
use Rattle.node.proofs.Tabled.{err_not_ok, ok_same}
use Rattle.insertion.specs.Descent.{Descends}
use Rattle.insertion.proofs.Steps.{step_found, step_never, step_leaf, step_up, step_split}
use Rattle.insertion.proofs.descent.Way.+insert.Goals as goal

pub insert_below-returns-in_err-below : goal.insert_below-returns-in_err-below
unfolding Descends
insert_below-returns-in_err-below g _ c t owns m =
    let p = err_from_is_err_and c.from_residual.result c.from_residual.ensures.1 in
    rw (p.1, p.2) (step_up _ c.args.self.node _ _ t owns m _ _ refl c.requires.searched.1
    _ _ _ refl _ c.child.result _ c.requires.kind refl c.child.ensures.0 c.child.ensures.1 c.above_child.ensures c.in_err-below.ensures
    (λ k v n e. err_not_ok _ _ e))

pub insert_below-returns-in_default : goal.insert_below-returns-in_default
unfolding Descends
insert_below-returns-in_default g _ c t owns m =
    step_up _ c.args.self.node _ _ t owns m _ _ refl c.requires.searched.1
    _ _ _ refl _ c.child.result _ c.requires.kind refl c.child.ensures.0 c.child.ensures.1 c.above_child.ensures c.in_ok-below.ensures
    (λ k v n e. c.in_default.not-Split k v n (ok_same _ _ e))

pub insert_below-returns : goal.insert_below-returns
unfolding Descends
insert_below-returns g _ c t owns m =
    step_split _ c.args.self.node _ _ t owns m _ _ refl c.requires.searched.1
    _ _ _ refl _ c.child.result _ c.requires.kind refl c.child.ensures.0 c.child.ensures.1 c.above_child.ensures c.in_ok-below.ensures
    _ _ _ _ _ _ (ap Ok c.in-Split.is) c.settle.ensures

pub insert_under-returns-in_err-way : goal.insert_under-returns-in_err-way
unfolding Descends
insert_under-returns-in_err-way g _ c t owns m = absurd (c.in_err-way.ensures _ t owns m)

pub insert_under-returns-in_err-old-in-Found : goal.insert_under-returns-in_err-old-in-Found
unfolding Descends
insert_under-returns-in_err-old-in-Found g _ c t owns m =
    let w = c.in_ok-way.ensures in
    let u = w.under _ t owns m in
    absurd (step_never _ c.in_ok-way.way.node (c.args.key, c.args.val) c.in_ok-way.way.above u.0 u.1 u.2 _ _ refl w.searched
    _ _ c.in-Found.is c.in_err-old-in-Found.ensures.replaces _ refl)

pub insert_under-returns-in_ok-old-in-Found : goal.insert_under-returns-in_ok-old-in-Found
unfolding Descends
insert_under-returns-in_ok-old-in-Found g _ c =
    let w = c.in_ok-way.ensures in
    w.leads _ _ _ _ _ (λ t owns m.
    step_found _ c.in_ok-way.way.node _ _ t owns m _ _ refl w.searched
    _ _ c.in-Found.is c.in_ok-old-in-Found.ensures.replaces _ refl)

pub insert_under-returns-in-Leaf : goal.insert_under-returns-in-Leaf
unfolding Descends
insert_under-returns-in-Leaf g _ c =
    let w = c.in_ok-way.ensures in
    w.leads _ _ _ _ _ (λ t owns m.
    step_leaf _ c.in_ok-way.way.node _ _ t owns m _ _ refl w.searched
    _ _ _ c.in-GoDown.is c.in-Leaf.field-0 c.in-Leaf.ensures c.settle.ensures)
