use Rattle.node.proofs.Forced.{forced_leaf, forced_inner}
use Rattle.map.proofs.Inserting.{in_leaf, in_inner}
use Rattle.map.proofs.insert.insert_fit.Goals as goal

pub returns-in-Leaf-clause-inserts : goal.returns-in-Leaf-clause-inserts
returns-in-Leaf-clause-inserts g c =
    let z = forced_leaf c.args.node c.in-Leaf.leaf c.in-Leaf.ensures in
    in_leaf _ _ c.args.node.height c.args.node.node c.args.idx (c.args.key, c.args.val) c.args.edge c.insert_fit.result c.in-Leaf.leaf.node z.1 z.0 c.insert_fit.ensures.inserts

pub returns-in-Internal-clause-inserts : goal.returns-in-Internal-clause-inserts
returns-in-Internal-clause-inserts g c =
    let z = forced_inner c.args.node c.in-Internal.inner c.in-Internal.ensures in
    in_inner _ _ c.args.node.height c.args.node.node c.args.idx (c.args.key, c.args.val) c.args.edge c.insert_fit-in-Internal.result c.in-Internal.inner.node z.1 z.0 c.insert_fit-in-Internal.ensures.inserts
