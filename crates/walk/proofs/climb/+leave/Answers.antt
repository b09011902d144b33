use Rattle.std.proofs.Common.{arith}
use Rattle.node.proofs.Breaking.{breached_by}
use Rattle.walk.proofs.Leaving.{leaves_none, leaves_outside, leaves_declined, leaves_more}
use Rattle.walk.proofs.climb.+leave.Goals as goal

pub returns-then-count-eq0 : goal.returns-then-count-eq0
returns-then-count-eq0 g t c = leaves_none c.args.heads.now (g.S.Supply.stock c.args.supply.now) c.args.count c.args.node c.if-count-eq0.true

pub returns-then-node-heads : goal.returns-then-node-heads
returns-then-node-heads g t c = leaves_outside c.args.heads.now _ _ c.args.count c.args.node (omega arith) c.if-node-heads.true

pub returns-in_err-give_back : goal.returns-in_err-give_back
returns-in_err-give_back g t c =
    leaves_declined c.args.heads.now _ _ c.args.count c.args.node c.from_residual.result (omega arith) c.from_residual.ensures.0 (breached_by c.from_residual.result c.in_err-give_back.field-0.0 c.from_residual.ensures.1 c.in_err-give_back.ensures.given.reason)
    c.in_err-give_back.ensures.given.not_out

pub returns : goal.returns
returns g t c =
    leaves_more c.args.heads.now _ _ _ c.args.count c.args.node c.leave.result (omega arith) c.in_ok-give_back.ensures.given c.leave.ensures
