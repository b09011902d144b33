use Rattle.std.proofs.Common.{◌≡◌, ◌-◌, ◌∙◌, refl, ap, arith}
use Rattle.node.specs.Store.{Tables, tables}
use Rattle.node.proofs.Forced.{forced_leaf, forced_inner}
use Rattle.node.proofs.Tabled.{err_not_ok}
use Rattle.node.proofs.Frames.{held_not_strange}
use Rattle.cut.specs.Descent.{Cuts}
use Rattle.cut.proofs.Descends.{moves, no_edge, cut_leaf, cut_inner, not_refused}
use Rattle.cut.proofs.descent.+cut_under.Goals as goal

pub returns-in_err-idx-clause-cuts : goal.returns-in_err-idx-clause-cuts
unfolding Cuts
returns-in_err-idx-clause-cuts g _ c = λ S t fresh s w z em en a.
    absurd (held_not_strange (tables c.args.heads.now c.args.keys.now c.args.values.now) c.args.node.height c.args.node.node t s w em (c.in_err-idx.ensures))

pub returns-in_err-move_suffix-clause-cuts : goal.returns-in_err-move_suffix-clause-cuts
unfolding Cuts
returns-in_err-move_suffix-clause-cuts g _ c = λ S t fresh s w z em en a.
    let place = g.Q.Placing.places c.args.query.now in
    let n = c.args.node in
    let v = c.in_ok-idx.ensures in
    absurd (err_not_ok _ _ (moves place (tables c.args.heads.now c.args.keys.now c.args.values.now) (tables c.move_suffix.new.heads c.move_suffix.new.keys c.move_suffix.new.values) n.node c.in_ok-idx.idx c.in_ok-idx.count c.args.right v _ n.height
    c.in_err-move_suffix.ensures.moves S t fresh (record { sized = s; left = w; right = z; at_left = em; at_right = en; apart = a })).0)

pub returns-in_default-clause-cuts : goal.returns-in_default-clause-cuts
returns-in_default-clause-cuts g _ c =
    let place = g.Q.Placing.places c.args.query.now in
    let n = c.args.node in
    let v = c.in_ok-idx.ensures in
    cut_leaf place (tables c.args.heads.now c.args.keys.now c.args.values.now) (tables c.move_suffix.new.heads c.move_suffix.new.keys c.move_suffix.new.values) n.node c.in_ok-idx.idx c.in_ok-idx.count c.args.right v _ n.height
    (forced_leaf n c.in_default.field-0 c.in_default.ensures).0 c.in_ok-move_suffix.ensures.moves

pub returns-in_err-child-clause-cuts : goal.returns-in_err-child-clause-cuts
unfolding Cuts
returns-in_err-child-clause-cuts g _ c = λ S t fresh s w z em en a.
    let place = g.Q.Placing.places c.args.query.now in
    let T = (tables c.args.heads.now c.args.keys.now c.args.values.now) in
    let T₁ = (tables c.move_suffix.new.heads c.move_suffix.new.keys c.move_suffix.new.values) in
    let n = c.args.node in
    let v = c.in_ok-idx.ensures in
    let k = forced_inner n c.in-Internal.inner c.in-Internal.ensures in
    let d = moves place T T₁ n.node c.in_ok-idx.idx c.in_ok-idx.count c.args.right v _ n.height
    c.in_ok-move_suffix.ensures.moves S t fresh (record { sized = s; left = w; right = z; at_left = em; at_right = en; apart = a }) in
    absurd (no_edge c.move_suffix.new.heads
    c.in-Internal.inner.node n.node c.in_ok-idx.idx k.1 d.2 (omega (arith, v.few)) c.in_err-child.ensures.1)

pub returns-in_err-beside-clause-cuts : goal.returns-in_err-beside-clause-cuts
unfolding Cuts
returns-in_err-beside-clause-cuts g _ c = λ S t fresh s w z em en a.
    let place = g.Q.Placing.places c.args.query.now in
    let T = (tables c.args.heads.now c.args.keys.now c.args.values.now) in
    let T₁ = (tables c.move_suffix.new.heads c.move_suffix.new.keys c.move_suffix.new.values) in
    let n = c.args.node in
    let v = c.in_ok-idx.ensures in
    let d = moves place T T₁ n.node c.in_ok-idx.idx c.in_ok-idx.count c.args.right v _ n.height
    c.in_ok-move_suffix.ensures.moves S t fresh (record { sized = s; left = w; right = z; at_left = em; at_right = en; apart = a }) in
    absurd (no_edge c.move_suffix.new.heads
    c.args.right c.args.right 0 refl d.1 (omega arith) c.in_err-beside.ensures.1)

pub returns-in_err-below-clause-cuts : goal.returns-in_err-below-clause-cuts
unfolding Cuts
returns-in_err-below-clause-cuts g _ c = λ S t fresh s w z em en a.
    let place = g.Q.Placing.places c.args.query.now in
    let n = c.args.node in
    let v = c.in_ok-idx.ensures in
    let k = forced_inner n c.in-Internal.inner c.in-Internal.ensures in
    let same : ◌≡◌ {A = Tables _ _} (tables c.move_suffix.new.heads c.move_suffix.new.keys c.move_suffix.new.values) (tables c.move_suffix.new.heads c.move_suffix.new.keys c.move_suffix.new.values) = refl in
    absurd (not_refused place (tables c.args.heads.now c.args.keys.now c.args.values.now) (tables c.move_suffix.new.heads c.move_suffix.new.keys c.move_suffix.new.values) n.node c.in_ok-idx.idx c.in_ok-idx.count c.args.right v _
    same (tables c.cut_under.new.heads c.cut_under.new.keys c.cut_under.new.values) c.in-Internal.inner.node c.in_ok-child.child c.in_ok-beside.beside k.1 c.in_ok-child.ensures c.in_ok-beside.ensures
    n.height k.0 c.in_ok-move_suffix.ensures.moves c.child.result c.child.ensures.0 (c.child.ensures.1 ∙ ap (λ h. h - 1) k.2) _ c.in_err-below.ensures.cuts
    S t fresh (record { sized = s; left = w; right = z; at_left = em; at_right = en; apart = a }))

pub returns-clause-cuts : goal.returns-clause-cuts
returns-clause-cuts g _ c =
    let place = g.Q.Placing.places c.args.query.now in
    let n = c.args.node in
    let v = c.in_ok-idx.ensures in
    let k = forced_inner n c.in-Internal.inner c.in-Internal.ensures in
    let same : ◌≡◌ {A = Tables _ _} (tables c.move_suffix.new.heads c.move_suffix.new.keys c.move_suffix.new.values) (tables c.move_suffix.new.heads c.move_suffix.new.keys c.move_suffix.new.values) = refl in
    cut_inner place (tables c.args.heads.now c.args.keys.now c.args.values.now) (tables c.move_suffix.new.heads c.move_suffix.new.keys c.move_suffix.new.values) n.node c.in_ok-idx.idx c.in_ok-idx.count c.args.right v _
    same (tables c.cut_under.new.heads c.cut_under.new.keys c.cut_under.new.values) c.in-Internal.inner.node c.in_ok-child.child c.in_ok-beside.beside k.1 c.in_ok-child.ensures c.in_ok-beside.ensures
    n.height k.0 c.in_ok-move_suffix.ensures.moves c.child.result c.child.ensures.0 (c.child.ensures.1 ∙ ap (λ h. h - 1) k.2) c.in_ok-below.below c.in_ok-below.ensures.cuts
