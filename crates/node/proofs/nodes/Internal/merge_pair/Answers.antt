use Rattle.std.proofs.Common.{◌-◌, sym, true≢false}
use Rattle.node.specs.Operations.{Merges}
use Rattle.node.specs.Neighbours.{PairedOf}
use Rattle.node.proofs.Tabled.{ok_same, fan_at}
use Rattle.node.proofs.Merging.{pair_inside_p, pair_inside_l, pair_merged}
use Rattle.node.proofs.nodes.Internal.merge_pair.Goals as goal

pub returns-in_err-correct_childrens_parent_links-clause-merges : goal.returns-in_err-correct_childrens_parent_links-clause-merges
unfolding Merges PairedOf
returns-in_err-correct_childrens_parent_links-clause-merges g c = λ l r us e ws es fs xs bs ks ls s q up f1 f2 fits kids.
    let eq = ok_same _ _ (c.requires.held l r us e ws es fs xs bs ks ls s q) in
    let all = pair_inside_p c.args.heads.now c.args.keys.now c.args.keys.now c.args.values.now c.args.values.now (c.args.self.height - 1) c.args.self.node c.args.pair.idx
    l r us e ws es fs xs bs ks ls q f1 f2 fits kids c.edge_count-count.result c.without_edge-own.result c.move_edges-below.result c.args.pair eq
    (record { fan = fan_at _ _ _ _ c.child.ensures.1 c.edge_count-count.ensures; put_own = c.without_edge-own.ensures; put_below = c.move_edges-below.ensures }) in
    absurd (true≢false (sym (c.in_err-correct_childrens_parent_links.ensures.total all)))

pub returns-in_err-correct_childrens_parent_links-2-clause-merges : goal.returns-in_err-correct_childrens_parent_links-2-clause-merges
unfolding Merges PairedOf
returns-in_err-correct_childrens_parent_links-2-clause-merges g c = λ l r us e ws es fs xs bs ks ls s q up f1 f2 fits kids.
    let eq = ok_same _ _ (c.requires.held l r us e ws es fs xs bs ks ls s q) in
    let all = pair_inside_l c.args.heads.now c.args.keys.now c.args.keys.now c.args.values.now c.args.values.now (c.args.self.height - 1) c.args.self.node c.args.pair.idx
    l r us e ws es fs xs bs ks ls q f1 f2 fits kids c.edge_count-count.result c.without_edge-own.result c.move_edges-below.result c.args.pair eq
    (record { fan = fan_at _ _ _ _ c.child.ensures.1 c.edge_count-count.ensures; put_own = c.without_edge-own.ensures; put_below = c.move_edges-below.ensures })
    c.correct_childrens_parent_links.new.heads c.in_ok-correct_childrens_parent_links.ensures.done in
    absurd (true≢false (sym (c.in_err-correct_childrens_parent_links-2.ensures.total all)))

pub returns-clause-merges : goal.returns-clause-merges
unfolding Merges PairedOf
returns-clause-merges g c = λ l r us e ws es fs xs bs ks ls s q up f1 f2 fits kids.
    let eq = ok_same _ _ (c.requires.held l r us e ws es fs xs bs ks ls s q) in
    pair_merged c.args.heads.now c.args.keys.now c.merge_row.new.cells c.args.values.now c.merge_row-2.new.cells (c.args.self.height - 1) c.args.self.node c.args.pair.idx
    l r us e ws es fs xs bs ks ls q f1 f2 fits kids c.edge_count-count.result c.without_edge-own.result c.move_edges-below.result c.args.pair eq
    (record { fan = fan_at _ _ _ _ c.child.ensures.1 c.edge_count-count.ensures; put_own = c.without_edge-own.ensures; put_below = c.move_edges-below.ensures })
    c.correct_childrens_parent_links.new.heads c.in_ok-correct_childrens_parent_links.ensures.done
    c.correct_childrens_parent_links-2.new.heads c.in_ok-correct_childrens_parent_links-2.ensures.done c.merge_row.ensures c.merge_row-2.ensures
