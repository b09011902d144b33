use Rattle.std.proofs.Common.{arith}
use Rattle.walk.proofs.Handing.{at_end, refused_spot}
use Rattle.walk.proofs.walks.Walk.step.Goals as goal

pub returns-in_err-spot : goal.returns-in_err-spot
returns-in_err-spot g c =
    refused_spot c.args.side c.tables.view_is _ _ c.args.self.now c.end-at.result c.end-at.ensures c.from_residual.result c.in_err-spot.field-0.0 (omega arith) c.from_residual.ensures
    c.in_err-spot.ensures.fault c.in_err-spot.ensures.whole

pub returns-in-Some : goal.returns-in-Some
returns-in-Some g c = c.hand_out.ensures (at_end c.args.side c.tables.view_is (g.S.Supply.stock c.args.supply.now) (g.S.Supply.stock c.args.supply.now) c.args.self.now c.end-at.result c.end-at.ensures _ c.in-Some.ensures.first)

pub returns : goal.returns
returns g c = c.hand_out-2.ensures (at_end c.args.side c.tables.view_is (g.S.Supply.stock c.args.supply.now) (g.S.Supply.stock c.args.supply.now) c.args.self.now c.end-at.result c.end-at.ensures _ c.in_ok-spot.ensures.whole)
