use Rattle.replaying.proofs.shape.Shape.+write_node.Given as goal

abbrev pub decreases-write_node : goal.decreases-write_node
decreases-write_node g l = l.node.height
