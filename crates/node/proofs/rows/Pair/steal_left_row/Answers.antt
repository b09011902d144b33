use Rattle.std.proofs.Common.{◌-◌, arith}
use Rattle.node.proofs.Rowed.{stolen_left}
use Rattle.node.proofs.rows.Pair.steal_left_row.Goals as goal

pub returns : goal.returns
returns g c =
    let s = c.args.self in
    let q = c.requires.rows in
    stolen_left c.args.cells.now c.move_cells.new.cells c.move_cells-2.new.cells s.node s.idx s.left (s.left_len - 1 - c.args.count) c.args.count s.right s.right_len
    c.index-cells-node.result c.index-cells-keep.result q.node q.left q.right (omega arith) (omega arith) (omega arith) q.left_other q.right_other q.differ
    c.move_cells.ensures c.move_cells-2.ensures c.index-cells-node.is c.index-cells-keep.is
