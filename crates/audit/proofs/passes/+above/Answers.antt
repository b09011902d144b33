use Rattle.std.proofs.Common.{arith, ap}
use Rattle.node.specs.Store.{no_head}
use Rattle.walk.specs.Climbs.{handle}
use Rattle.audit.proofs.Climbs.{none_by, climb_zero, climb_more, climb_out}
use Rattle.audit.proofs.passes.+above.Goals as goal

pub returns-then-levels-eq0 : goal.returns-then-levels-eq0
returns-then-levels-eq0 t c = climb_zero c.args.heads.now c.args.levels c.args.edge c.if-levels-eq0.true

pub returns-in_err-head : goal.returns-in_err-head
returns-in_err-head t c =
    none_by c.from_residual.result _ _ c.from_residual.ensures (climb_out c.args.heads.now c.args.levels c.args.edge (omega arith) (omega (arith, c.in_err-head.ensures.lookup)))

pub returns : goal.returns
returns t c =
    climb_more c.args.heads.now c.args.levels c.args.edge _ c.above.result (omega arith) (omega (arith, c.in_ok-head.ensures.lookup))
    (ap (λ h. handle h.parent h.place) (c.in_ok-head.ensures.lookup.3.1 no_head)) c.above.ensures
