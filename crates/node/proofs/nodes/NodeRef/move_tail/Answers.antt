use Rattle.std.proofs.Common.{◌≡◌, ◌-◌, ◌<◌, ◌++◌, length, refl, arith, length-append}
use Rattle.std.proofs.lemmas.Result.{IfOk-at_ok}
use Rattle.node.specs.Operations.{MovesTail}
use Rattle.node.proofs.Tabled.{ok_unit}
use Rattle.node.proofs.Tails.{tail_moved, tail_inside}
use Rattle.node.proofs.nodes.NodeRef.move_tail.Goals as goal

pub returns-clause-moves : goal.returns-clause-moves
unfolding MovesTail
returns-clause-moves g c = λ es gs fs ks ls cs sized node there front p1 p2 f1 l1 l2 f2 kids.
    let H = c.args.heads.now in
    let h = c.args.self.height in
    let len = c.requires.lies.len_is in
    let n = c.args.len - c.args.keep - c.args.skip in
    let first = 1 - c.args.skip in
    let count = c.max-last.result - first in
    let a = length-append es (gs ++ fs) in
    let p3 : length fs ≡ n = omega (arith, node.len_is, length-append gs fs, len) in
    let q2 : 0 < h → length cs ≡ first = λ z. omega (arith, f2.inner z, l2 z, length-append cs ls) in
    let q3 : h ≡ 0 → count ≡ 0 = λ z. omega (arith, c.edge_count.ensures.leaf z, c.max-last.ensures) in
    let q4 : 0 < h → count ≡ length ls = λ z. omega (arith, c.edge_count.ensures.inner z, c.max-last.ensures, l2 z) in
    let link = c.correct_childrens_parent_links in
    let made = c.move_edges-edges in
    let done = ok_unit link.result (link.ensures.total
    (tail_inside H c.args.keys.now c.args.keys.now c.args.values.now c.args.values.now h c.args.self.node c.args.right c.args.keep c.args.skip n es gs fs ks ls cs
    node there front p1 p2 p3 c.requires.other f1 l1 l2 f2 first count refl q2 q3 q4 made.result made.ensures kids)) in
    let all = tail_moved H c.args.keys.now c.move_cells.new.cells c.args.values.now c.move_cells-2.new.cells h c.args.self.node c.args.right c.args.keep c.args.skip n es gs fs ks ls cs
    node there front p1 p2 p3 c.requires.other f1 l1 l2 f2 first count refl q2 q3 q4 made.result made.ensures kids
    link.new.heads (IfOk-at_ok _ done link.ensures.done) c.move_cells.ensures c.move_cells-2.ensures in
    (done, all.0, all.1, all.2, all.3)
