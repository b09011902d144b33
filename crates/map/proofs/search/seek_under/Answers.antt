use Rattle.std.proofs.Common.{◌+◌, ◌*◌, ◌∙◌, get_or, Ok, Some, sym, ap, ap₂}
use Rattle.node.specs.Store.{Tables}
use Rattle.node.proofs.Neighbouring.{same_edge}
use Rattle.node.proofs.Forced.{forced_leaf}
use Rattle.node.proofs.Frames.{held_not_strange}
use Rattle.map.specs.Lookup.{Seeks}
use Rattle.map.proofs.Seeking.{came_here, came_down, sought_here, sought_none}
use Rattle.map.proofs.search.seek_under.Goals as goal

pub loop-found-init : goal.loop-found-init
loop-found-init g c = came_here _ _ _

pub returns-in_err-found-clause-seeks : goal.returns-in_err-found-clause-seeks
unfolding Seeks
returns-in_err-found-clause-seeks g c = λ t s w e.
    let n = c.loop-found.node in
    let u = c.loop-found.invariant.under t w e in
    absurd (held_not_strange c.args.tables.now n.height n.node u.0 s u.1 u.2 c.in_err-found.ensures)

pub returns-in-Found-clause-seeks : goal.returns-in-Found-clause-seeks
unfolding Seeks
returns-in-Found-clause-seeks g c = λ t s w e.
    let place = g.Q.Placing.places c.args.query.now in
    let T = c.args.tables.now in
    let n = c.loop-found.node in
    let x = c.index-tables-node in
    let u = c.loop-found.invariant.under t w e in
    let is = x.is ∙ ap (λ (T : Tables _ _). get_or T.values (11 * n.node + c.in-Found.idx) x.result) c.tables.view_is in
    let d = sought_here place T n.height n.node u.0 u.1 u.2 _ c.in_ok-found.ensures _ _ c.in-Found.is is in
    ap₂ (λ x n. Ok (x, n)) (ap Some (sym x.is) ∙ sym d.0 ∙ sym u.3) (sym (u.4 ∙ ap (λ k. c.loop-found.made + k) d.1))

pub returns-in-Leaf-clause-seeks : goal.returns-in-Leaf-clause-seeks
unfolding Seeks
returns-in-Leaf-clause-seeks g c = λ t s w e.
    let place = g.Q.Placing.places c.args.query.now in
    let n = c.loop-found.node in
    let u = c.loop-found.invariant.under t w e in
    let k = forced_leaf n c.in-Leaf.field-0 c.in-Leaf.ensures in
    let d = sought_none place c.args.tables.now n.height n.node u.0 u.1 u.2 _ _ c.in_ok-found.ensures c.in-GoDown.is k.0 in
    ap₂ (λ x n. Ok (x, n)) (sym d.0 ∙ sym u.3) (sym (u.4 ∙ ap (λ k. c.loop-found.made + k) d.1))

pub loop-found-preserved : goal.loop-found-preserved
loop-found-preserved g c =
    came_down _ _ _ c.loop-found.node c.in-Internal.inner c.child-node.result c.in-GoDown.idx _ _ c.loop-found.invariant c.in_ok-found.ensures c.in-GoDown.is c.in-Internal.ensures
    (same_edge _ c.in-GoDown.idx _ c.tables.view_is c.child-node.ensures.0) c.child-node.ensures.1
