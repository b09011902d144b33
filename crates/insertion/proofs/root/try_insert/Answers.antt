use Rattle.std.proofs.Common.{Ok, ap, refl, arith}
use Rattle.node.specs.Store.{tables}
use Rattle.std.proofs.lemmas.Result.{err_from_is_err_and}
use Rattle.insertion.specs.Descent.{Descends}
use Rattle.insertion.specs.Roots.{Enters}
use Rattle.insertion.proofs.Entering.{entered_err, entered_replaced, entered_fit, entered_split, entered_never}
use Rattle.insertion.proofs.root.try_insert.Goals as goal

pub returns-then-root-gt-MAX_HEIGHT : goal.returns-then-root-gt-MAX_HEIGHT
unfolding Enters
returns-then-root-gt-MAX_HEIGHT g c t owns root m low = absurd (omega (arith, c.if-root-gt-MAX_HEIGHT.true))

pub returns-in_err-done : goal.returns-in_err-done
unfolding Enters Descends
returns-in_err-done g c t owns root m low =
    let p = err_from_is_err_and c.from_residual.result c.from_residual.ensures.1 in
    rw (p.1, p.2) (entered_err _ _ _ _ _ c.args.root (c.args.key, c.args.val) t owns m root _ (c.in_err-done.ensures t owns m) _ refl)

pub returns-in-Replaced : goal.returns-in-Replaced
unfolding Enters Descends
returns-in-Replaced g c t owns root m low =
    entered_replaced _ _ _ _ _ c.args.root (c.args.key, c.args.val) t owns m root _ (c.in_ok-done.ensures t owns m) c.in-Replaced.old (ap Ok c.in-Replaced.is)

pub returns-in-Fit : goal.returns-in-Fit
unfolding Enters Descends
returns-in-Fit g c t owns root m low =
    entered_fit _ _ _ _ _ c.args.root (c.args.key, c.args.val) t owns m root _ (c.in_ok-done.ensures t owns m) (ap Ok c.in-Fit.is)

pub returns-in_err-top-in-Split : goal.returns-in_err-top-in-Split
unfolding Enters Descends
returns-in_err-top-in-Split g c t owns root m low =
    let p = err_from_is_err_and c.from_residual-in_err-top-in-Split.result c.from_residual-in_err-top-in-Split.ensures.1 in
    rw (p.1, p.2) (entered_never _ _ _ _ _ c.args.root (c.args.key, c.args.val) t owns m root _ (c.in_ok-done.ensures t owns m)
    (tables c.grow_root.new.heads c.grow_root.new.keys c.grow_root.new.values) _ c.in-Split.k c.in-Split.v c.in-Split.right (ap Ok c.in-Split.is) _ c.in_err-top-in-Split.ensures _ refl)

pub returns-in_ok-top-in-Split : goal.returns-in_ok-top-in-Split
unfolding Enters Descends
returns-in_ok-top-in-Split g c t owns root m low =
    entered_split _ _ _ _ _ c.args.root (c.args.key, c.args.val) t owns m root _ (c.in_ok-done.ensures t owns m)
    (tables c.grow_root.new.heads c.grow_root.new.keys c.grow_root.new.values) _ c.in-Split.k c.in-Split.v c.in-Split.right (ap Ok c.in-Split.is) _ c.in_ok-top-in-Split.ensures c.in_ok-top-in-Split.top refl
