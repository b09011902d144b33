use Rattle.std.proofs.Common.{arith}
use Rattle.node.proofs.Spans.{pasted}
use Rattle.node.proofs.edges.with_edges_of.Goals as goal

pub returns : goal.returns
returns c =
    pasted c.args.to.now c.args.source.now c.copy_from_slice.new.self c.args.dest c.args.at c.args.count c.copy_from_slice.ensures.after (omega arith) (omega arith)
