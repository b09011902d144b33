use Rattle.std.proofs.Common.{refl}
use Rattle.walk.proofs.Handing.{at_view, stepped_done, refused_entry, refused_edge, refused_leave}
use Rattle.walk.proofs.walks.Walk.hand_out.Goals as goal

pub returns-in_err-entry : goal.returns-in_err-entry
returns-in_err-entry g c = λ f.
    refused_entry c.args.side refl _ _ c.args.self.now _ refl c.from_residual.result c.in_err-entry.field-0.0 c.requires.left c.from_residual.ensures
    c.in_err-entry.ensures.fault c.args.spot f c.in_err-entry.ensures.entry

pub returns-in_err-edge : goal.returns-in_err-edge
returns-in_err-edge g c = λ f.
    let S = g.S.Supply.stock c.args.supply.now in
    refused_edge c.args.side c.tables.view_is S S c.args.self.now _ refl c.from_residual-in_err-edge.result c.in_err-edge.field-0.0 c.requires.left c.from_residual-in_err-edge.ensures
    c.in_err-edge.ensures.fault c.args.spot (at_view c.args.side c.tables.view_is S S c.args.self.now _ refl _ f) c.in_err-edge.ensures

pub returns-in_err-leave : goal.returns-in_err-leave
returns-in_err-leave g c = λ f.
    let S = g.S.Supply.stock c.args.supply.now in
    refused_leave c.args.side c.tables.view_is _ _ c.args.self.now c.end.result c.end.ensures c.from_residual-in_err-leave.result c.in_err-leave.field-0.0 c.requires.left c.from_residual-in_err-leave.ensures
    c.in_err-leave.ensures.fault c.args.spot (at_view c.args.side c.tables.view_is S S c.args.self.now c.end.result c.end.ensures _ f) c.in_err-leave.ensures

pub returns : goal.returns
returns g c = λ f.
    let S = g.S.Supply.stock c.args.supply.now in
    stepped_done c.args.side c.tables.view_is _ _ c.args.self.now c.end.result c.end.ensures c.with_end.result c.args.spot c.in_ok-entry.entry c.in_ok-edge.edge
    c.requires.left c.with_end.ensures (at_view c.args.side c.tables.view_is S S c.args.self.now c.end.result c.end.ensures _ f) c.in_ok-entry.ensures.entry c.in_ok-edge.ensures c.in_ok-leave.ensures
