use Rattle.std.proofs.Common.{arith}
use Rattle.node.proofs.Spans.{span_one}
use Rattle.node.proofs.cells.slice_remove.Goals as goal

pub returns : goal.returns
returns g c = record {
  value = span_one c.args.cells.now c.args.at c.index-cells-at.result (omega arith) c.index-cells-at.is;
  after = c.move_cells.ensures;
}
