use Rattle.std.proofs.lemmas.Result.{err_from_is_err_and}
use Rattle.node.proofs.Frames.{held_not_strange}
use Rattle.insertion.proofs.Lowering.{lower_here, lowered, still_low, lower_down}
use Rattle.insertion.proofs.descent.Way.lower.Goals as goal

pub loop-found-init : goal.loop-found-init
loop-found-init g c = (c.args.self.low, lower_here _ _ _ _)

pub returns-in_err-found : goal.returns-in_err-found
returns-in_err-found g c =
    let p = err_from_is_err_and c.from_residual.result c.from_residual.ensures.1 in
    rw p.1 (λ S t owns m.
    let u = c.loop-found.invariant.1.under S t owns m in
    absurd (held_not_strange _ _ _ u.0 u.1.sized u.1.holds u.2 c.in_err-found.ensures))

pub returns-in_default : goal.returns-in_default
returns-in_default g c = lowered _ _ _ _ _ _ c.loop-found.invariant.1 _ c.in_ok-found.ensures

pub loop-found-preserved : goal.loop-found-preserved
loop-found-preserved g c = (
  still_low c.loop-found.way.0 c.in-Internal.inner c.child-node.result _ _ _ c.in-Internal.ensures c.child-node.ensures.1 c.above_child.ensures c.loop-found.invariant.0,
  lower_down _ _ _ _ _ _ c.loop-found.invariant.1 c.in-Internal.inner c.child-node.result c.in-GoDown.idx _ _ c.in_ok-found.ensures c.in-GoDown.is c.in-Internal.ensures c.tables.view_is
      c.child-node.ensures.0 c.child-node.ensures.1 c.above_child.ensures (c.has_room.ensures c.if-not-has_room.false),
)
