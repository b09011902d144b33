use Rattle.std.proofs.Common.{◌-◌, ◌∷◌, ◌++◌}
use Rattle.std.proofs.lemmas.Result.{IfOk-at_ok}
use Rattle.node.specs.Operations.{StealsLeft}
use Rattle.node.specs.Neighbours.{PairedOf}
use Rattle.node.proofs.Tabled.{ok_same, ok_unit, fan_at}
use Rattle.node.proofs.Stealing.{pair_left_inside, pair_stole_left}
use Rattle.node.proofs.nodes.Internal.steal_left_pair.Goals as goal

pub returns-clause-steals : goal.returns-clause-steals
unfolding StealsLeft PairedOf
returns-clause-steals g c = λ l r us e ws es x gs fs xs bs ks qs ls s q up pn f1 f2 f3 fits kids.
    let eq = ok_same _ _ (c.requires.held l r us e ws (es ++ x ∷ gs) fs xs bs (ks ++ qs) ls s q) in
    let link = c.correct_childrens_parent_links in
    let H = c.args.heads.now in
    let h = c.args.self.height - 1 in
    let p = c.args.self.node in
    let i = c.args.pair.idx in
    let n = c.args.count in
    let moved = c.edge_count-moved.result in
    let rest = c.edge_count-rest.result in
    let room = c.move_edges-room.result in
    let all = c.with_edges_of-edges.result in
    let done = ok_unit link.result (link.ensures.total
    (pair_left_inside H c.args.keys.now c.args.keys.now c.args.values.now c.args.values.now h p i
    l r us e ws es x gs fs xs bs ks qs ls q f1 f2 f3 n pn fits kids moved rest room all c.args.pair eq
    (record { fan_moved = fan_at _ _ _ _ c.child.ensures.1 c.edge_count-moved.ensures; fan_rest = fan_at _ _ _ _ c.child-2.ensures.1 c.edge_count-rest.ensures; put_room = c.move_edges-room.ensures; put_all = c.with_edges_of-edges.ensures }))) in
    let made = pair_stole_left H c.args.keys.now c.steal_left_row.new.cells c.args.values.now c.steal_left_row-2.new.cells h p i
    l r us e ws es x gs fs xs bs ks qs ls q f1 f2 f3 n pn fits kids moved rest room all c.args.pair eq
    (record { fan_moved = fan_at _ _ _ _ c.child.ensures.1 c.edge_count-moved.ensures; fan_rest = fan_at _ _ _ _ c.child-2.ensures.1 c.edge_count-rest.ensures; put_room = c.move_edges-room.ensures; put_all = c.with_edges_of-edges.ensures })
    link.new.heads (IfOk-at_ok _ done link.ensures.done) c.steal_left_row.ensures c.steal_left_row-2.ensures in
    (done, made.0, made.1, made.2, made.3, made.4)
