use Rattle.std.proofs.Common.{◌∙◌, Ok, sym, ap, subst}
use Rattle.node.proofs.Neighbouring.{same_edge}
use Rattle.node.proofs.Forced.{forced_leaf}
use Rattle.node.proofs.Frames.{held_not_strange}
use Rattle.map.specs.Least.{FindsLeast}
use Rattle.map.proofs.Leasts.{CameLeast, came_leaf, came_lower}
use Rattle.map.proofs.least.least_under.Goals as goal

pub returns-in_err-idx : goal.returns-in_err-idx
unfolding FindsLeast
returns-in_err-idx g c = λ t s w e o.
    let n = c.loop-idx.node in
    let u = c.loop-idx.invariant.under t w e o in
    absurd (held_not_strange c.args.tables.now n.height n.node u.0 s u.1 u.2 c.in_err-idx.ensures)

pub returns-in-Leaf : goal.returns-in-Leaf
unfolding FindsLeast
returns-in-Leaf g c = λ t s w e o.
    let n = c.loop-idx.node in
    let k = forced_leaf n c.in-Leaf.field-0 c.in-Leaf.ensures in
    ap Ok (c.or-least.ensures ∙ sym (came_leaf g.met.Q.Query.placed c.args.query.now c.args.tables.now c.args.root n c.loop-idx.least c.loop-idx.invariant c.in_ok-idx.idx c.in_ok-idx.hit c.in_ok-idx.ensures k.0 t w e o))

pub loop-idx-preserved : goal.loop-idx-preserved
loop-idx-preserved g c =
    let n = c.loop-idx.node in
    subst (CameLeast g.K.KeyOrder.compares (g.Q.Placing.places c.args.query.now) c.args.tables.now c.args.root c.child-node.result) (sym c.or-least.ensures)
    (came_lower g.met.Q.Query.placed c.args.query.now c.args.tables.now c.args.root n c.loop-idx.least c.loop-idx.invariant c.in_ok-idx.idx c.in_ok-idx.hit c.in_ok-idx.ensures
    c.in-Internal.inner c.child-node.result c.in-Internal.ensures (same_edge _ c.in_ok-idx.idx _ c.tables.view_is c.child-node.ensures.0) c.child-node.ensures.1)
