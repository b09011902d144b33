use Rattle.std.proofs.Common.{arith}
use Rattle.node.proofs.Spans.{copied}
use Rattle.node.proofs.cells.move_cells.Goals as goal

pub returns : goal.returns
returns g c =
    let from = c.args.from in
    copied c.args.cells.now c.copy_within.new.self from c.args.to c.args.count c.requires.source c.requires.target c.copy_within.ensures.len
    (λ k d p q. c.copy_within.ensures.by_index.0 k d p (omega arith)) c.copy_within.ensures.by_index.1
    (λ k d p. c.copy_within.ensures.by_index.2 k d (omega arith))
