use Rattle.std.proofs.Common.{[], ◌∷◌, arith}
use Rattle.node.specs.Cells.{span}
use Rattle.node.proofs.Spans.{put_join, written}
use Rattle.node.proofs.cells.slice_insert.Goals as goal

pub returns : goal.returns
returns g c =
    let xs = c.args.cells.now in
    put_join xs c.move_cells.new.cells _ c.args.at (c.args.val ∷ []) (span xs c.args.at c.args.behind) c.move_cells.ensures
    (written c.move_cells.new.cells c.args.at c.args.val (omega (arith, c.move_cells.ensures.size)))
