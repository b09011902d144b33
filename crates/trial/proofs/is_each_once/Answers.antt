use Rattle.std.proofs.Common.{false, refl, arith}
use Rattle.std.proofs.lemmas.Bool.{both_ways}
use Rattle.trial.proofs.Once.{marked_none, marked_all, not_high, not_twice}
use Rattle.trial.proofs.is_each_once.Goals.{then-at-list-via-then-at-list, then-at-list-via-else-at-list+then-seen-at}
use Rattle.trial.proofs.is_each_once.Goals as goal

pub loop-node-init : goal.loop-node-init
loop-node-init c = marked_none c.args.list.now

pub returns-then-at-list : goal.returns-then-at-list
returns-then-at-list c =
    let l = c.args.list.now in
    let i = c.loop-node.node-index in
    let m = c.loop-node.invariant in (
      λ e. absurd (both_ways false refl e),
      λ r. absurd (elim c.then-at-list.branch [
        | then-at-list-via-then-at-list w ↦ not_high l i c.loop-node.seen m (omega arith) r (omega arith)
        | then-at-list-via-else-at-list+then-seen-at w ↦ not_twice l i c.loop-node.seen m (omega arith) r (omega arith) w.if-seen-at.true
      ]),
    )

pub returns : goal.returns
returns c = (λ e. marked_all c.args.list.now c.loop-node.node-index c.loop-node.seen c.loop-node-test.false c.loop-node.invariant, λ r. refl)
