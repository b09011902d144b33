use Rattle.std.proofs.Common.{arith, length-append}
use Rattle.node.specs.Operations.{InsertsEdge}
use Rattle.node.proofs.Tabled.{ok_unit}
use Rattle.node.proofs.Inserts.{edge_inside, edge_inserted}
use Rattle.std.proofs.lemmas.Result.{IfOk-at_ok}
use Rattle.node.proofs.nodes.Internal.insert_fit.Goals as goal

pub returns-in_err-len-clause-inserts : goal.returns-in_err-len-clause-inserts
unfolding InsertsEdge
returns-in_err-len-clause-inserts g c = λ es fs ks ls sized node p u v q w.
    absurd (c.in_err-len.ensures.1 sized node.inside (omega (arith, node.len_is)) (omega (arith, node.len_is, length-append es fs)))

pub returns-clause-inserts : goal.returns-clause-inserts
unfolding InsertsEdge
returns-clause-inserts g c = λ es fs ks ls sized node p u v q w.
    let H = c.args.heads.now in
    let m = c.args.self.node in
    let n = c.in_ok-len.len in
    let l = c.in_ok-len.ensures.0.len_is in
    let link = c.correct_childrens_parent_links in
    let done = ok_unit link.result (link.ensures.total
    (edge_inside H c.args.keys.now c.args.keys.now c.args.values.now c.args.values.now m es fs (c.args.key, c.args.val) ks ls c.args.edge c.args.idx n
    node p u v q l c.with_edge-edges.result c.with_edge-edges.ensures w)) in
    let a = IfOk-at_ok _ done link.ensures.done in
    let made = edge_inserted H c.args.keys.now c.slice_insert.new.cells c.args.values.now c.slice_insert-2.new.cells m es fs (c.args.key, c.args.val) ks ls c.args.edge c.args.idx n
    node p u v q l c.with_edge-edges.result c.with_edge-edges.ensures w link.new.heads a c.slice_insert.ensures c.slice_insert-2.ensures in
    (done, made.0, made.1, made.2)
