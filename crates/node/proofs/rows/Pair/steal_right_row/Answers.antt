use Rattle.std.proofs.Common.{◌-◌, arith}
use Rattle.node.proofs.Rowed.{stolen_right}
use Rattle.node.proofs.rows.Pair.steal_right_row.Goals as goal

pub returns : goal.returns
returns g c =
    let s = c.args.self in
    let q = c.requires.rows in
    stolen_right c.args.cells.now c.move_cells.new.cells c.move_cells-2.new.cells s.node s.idx s.left s.left_len c.args.count s.right (s.right_len - 1 - c.args.count)
    c.index-cells-node.result c.index-cells-right.result q.node q.left q.right (omega arith) (omega arith) (omega arith) q.left_other q.right_other q.differ
    c.index-cells-node.is c.move_cells.ensures c.index-cells-right.is c.move_cells-2.ensures
