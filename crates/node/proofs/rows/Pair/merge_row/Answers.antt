use Rattle.node.proofs.Rowed.{merged_row}
use Rattle.node.proofs.rows.Pair.merge_row.Goals as goal

pub returns : goal.returns
returns g c =
    let s = c.args.self in
    let q = c.requires.rows in
    merged_row c.args.cells.now c.slice_remove-between.new.cells c.move_cells.new.cells s.node s.idx s.len s.left s.left_len s.right s.right_len c.slice_remove-between.result
    q.node q.left q.right q.within q.few c.requires.fits q.left_other q.right_other q.differ
    c.slice_remove-between.ensures.value c.slice_remove-between.ensures.after c.move_cells.ensures
