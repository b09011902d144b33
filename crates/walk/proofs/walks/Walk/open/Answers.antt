use Rattle.node.specs.declared.ends.Side.TheVariants.{First, Last}
use Rattle.node.proofs.Breaking.{breached_by}
use Rattle.walk.proofs.Opening.{opens_strange, opens_lost, opens_done}
use Rattle.walk.proofs.walks.Walk.open.Goals as goal

pub returns-in_err-len_in : goal.returns-in_err-len_in
returns-in_err-len_in g c =
    let r = c.from_residual.result in
    opens_strange c.args.tables.now c.args.root c.in-Some.root c.in-Some.is c.args.count r
    (breached_by r c.in_err-len_in.field-0.0 c.from_residual.ensures.1 c.in_err-len_in.ensures.0) c.in_err-len_in.ensures.1

pub returns-in_err-leaf_edge : goal.returns-in_err-leaf_edge
returns-in_err-leaf_edge g c =
    let y = c.in_err-leaf_edge.field-0.0 in
    let r = c.from_residual-in_err-leaf_edge.result in
    rw (← c.tables.view_is) (opens_lost _ c.args.root c.in-Some.root c.in-Some.is c.args.count First y r
    (breached_by r y c.from_residual-in_err-leaf_edge.ensures.1 c.in_err-leaf_edge.ensures.fault) c.in_err-leaf_edge.ensures.whole)

pub returns-in_err-leaf_edge-2 : goal.returns-in_err-leaf_edge-2
returns-in_err-leaf_edge-2 g c =
    let y = c.in_err-leaf_edge-2.field-0.0 in
    let r = c.from_residual-in_err-leaf_edge-2.result in
    rw (← c.tables.view_is) (opens_lost _ c.args.root c.in-Some.root c.in-Some.is c.args.count Last y r
    (breached_by r y c.from_residual-in_err-leaf_edge-2.ensures.1 c.in_err-leaf_edge-2.ensures.fault) c.in_err-leaf_edge-2.ensures.whole)

pub returns : goal.returns
returns g c = rw (← c.tables.view_is) (opens_done _ c.args.root c.in-Some.root c.in-Some.is c.args.count c.in_ok-leaf_edge.field-0 c.in_ok-leaf_edge-2.field-0
    c.in_ok-leaf_edge.ensures.whole c.in_ok-leaf_edge-2.ensures.whole)
