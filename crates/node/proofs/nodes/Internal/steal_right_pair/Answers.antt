use Rattle.std.proofs.Common.{◌-◌, ◌∷◌, ◌++◌, sym, true≢false}
use Rattle.std.proofs.lemmas.Result.{IfOk-at_ok}
use Rattle.node.specs.Operations.{StealsRight}
use Rattle.node.specs.Neighbours.{PairedOf}
use Rattle.node.proofs.Tabled.{ok_same, ok_unit, fan_at}
use Rattle.node.proofs.Stealing.{pair_right_inside_l, pair_right_inside_r, pair_stole_right}
use Rattle.node.proofs.nodes.Internal.steal_right_pair.Goals as goal

pub returns-in_err-correct_childrens_parent_links-clause-steals : goal.returns-in_err-correct_childrens_parent_links-clause-steals
unfolding StealsRight PairedOf
returns-in_err-correct_childrens_parent_links-clause-steals g c = λ l r us e ws es gs x fs xs bs ks qs ls s q up pn f1 f2 f3 fits kids.
    let eq = ok_same _ _ (c.requires.held l r us e ws es (gs ++ x ∷ fs) xs bs ks (qs ++ ls) s q) in
    let all = pair_right_inside_l c.args.heads.now c.args.keys.now c.args.keys.now c.args.values.now c.args.values.now (c.args.self.height - 1) c.args.self.node c.args.pair.idx
    l r us e ws es gs x fs xs bs ks qs ls q f1 f2 f3 c.args.count pn fits kids c.edge_count-moved.result c.edge_count-rest.result c.move_edges-below.result c.move_edges-edges.result c.args.pair eq
    (record { fan_moved = fan_at _ _ _ _ c.child.ensures.1 c.edge_count-moved.ensures; fan_rest = fan_at _ _ _ _ c.child-2.ensures.1 c.edge_count-rest.ensures; put_below = c.move_edges-below.ensures; put_all = c.move_edges-edges.ensures }) in
    absurd (true≢false (sym (c.in_err-correct_childrens_parent_links.ensures.total all)))

pub returns-clause-steals : goal.returns-clause-steals
unfolding StealsRight PairedOf
returns-clause-steals g c = λ l r us e ws es gs x fs xs bs ks qs ls s q up pn f1 f2 f3 fits kids.
    let eq = ok_same _ _ (c.requires.held l r us e ws es (gs ++ x ∷ fs) xs bs ks (qs ++ ls) s q) in
    let link = c.correct_childrens_parent_links-2 in
    let one = c.correct_childrens_parent_links.new.heads in
    let H = c.args.heads.now in
    let h = c.args.self.height - 1 in
    let p = c.args.self.node in
    let i = c.args.pair.idx in
    let n = c.args.count in
    let moved = c.edge_count-moved.result in
    let rest = c.edge_count-rest.result in
    let below = c.move_edges-below.result in
    let all = c.move_edges-edges.result in
    let done = ok_unit link.result (link.ensures.total
    (pair_right_inside_r H c.args.keys.now c.args.keys.now c.args.values.now c.args.values.now h p i
    l r us e ws es gs x fs xs bs ks qs ls q f1 f2 f3 n pn fits kids moved rest below all c.args.pair eq
    (record { fan_moved = fan_at _ _ _ _ c.child.ensures.1 c.edge_count-moved.ensures; fan_rest = fan_at _ _ _ _ c.child-2.ensures.1 c.edge_count-rest.ensures; put_below = c.move_edges-below.ensures; put_all = c.move_edges-edges.ensures })
    one c.in_ok-correct_childrens_parent_links.ensures.done)) in
    let made = pair_stole_right H c.args.keys.now c.steal_right_row.new.cells c.args.values.now c.steal_right_row-2.new.cells h p i
    l r us e ws es gs x fs xs bs ks qs ls q f1 f2 f3 n pn fits kids moved rest below all c.args.pair eq
    (record { fan_moved = fan_at _ _ _ _ c.child.ensures.1 c.edge_count-moved.ensures; fan_rest = fan_at _ _ _ _ c.child-2.ensures.1 c.edge_count-rest.ensures; put_below = c.move_edges-below.ensures; put_all = c.move_edges-edges.ensures })
    one c.in_ok-correct_childrens_parent_links.ensures.done link.new.heads (IfOk-at_ok _ done link.ensures.done) c.steal_right_row.ensures c.steal_right_row-2.ensures in
    (done, made.0, made.1, made.2, made.3, made.4, made.5)
