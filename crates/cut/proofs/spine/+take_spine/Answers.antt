use Rattle.std.proofs.Common.{◌≡◌, suc, ◌-◌, sym, subst, arith}
use Rattle.node.specs.Store.{tables}
use Rattle.node.proofs.Frames.{height_suc}
use Rattle.cut.specs.Spine.{TakesSpine, SpineTaken}
use Rattle.cut.proofs.Spines.{spine_first, spine_more, new_other, new_child_in}
use Rattle.cut.proofs.spine.+take_spine.Goals as goal

pub returns-in_err-leaf : goal.returns-in_err-leaf
unfolding TakesSpine
returns-in_err-leaf g _ c = λ ks vs fits room. absurd (omega (arith, c.in_err-leaf.ensures.taken.none_left))

pub returns-in_err-new_leaf : goal.returns-in_err-new_leaf
unfolding TakesSpine
returns-in_err-new_leaf g _ c = λ ks vs fits room. absurd (omega (arith, c.in_err-new_leaf.ensures.1, c.in_ok-leaf.ensures.taken.below))

pub returns-then-height-eq0 : goal.returns-then-height-eq0
unfolding TakesSpine
returns-then-height-eq0 g _ c = λ ks vs fits room.
    let H = c.args.heads.now in
    let S = g.S.Supply.stock c.args.supply.now in
    let S₁ = g.S.Supply.stock c.take.new.self in
    let m = c.in_ok-leaf.leaf in
    let d = c.in_ok-leaf.ensures.taken in
    let e = c.in_ok-new_leaf.ensures in
    let z : c.args.height ≡ 0 = omega (arith, c.if-height-eq0.true) in
    subst (λ n. SpineTaken (tables H ks vs) (tables c.new_leaf.new.heads ks vs) S S₁ n m) (sym z)
    (subst (λ G. SpineTaken (tables H ks vs) (tables G ks vs) S S₁ 0 m) (sym e.1) (spine_first H ks vs S S₁ m e.0 d))

pub returns-in_err-child : goal.returns-in_err-child
unfolding TakesSpine
returns-in_err-child g _ c = λ ks vs fits room. absurd (c.in_err-child.ensures ks vs fits (omega (arith, room)))

pub returns-in_err-node : goal.returns-in_err-node
unfolding TakesSpine
returns-in_err-node g _ c = λ ks vs fits room.
    let w = c.in_ok-child.ensures ks vs fits (omega (arith, room)) in
    absurd (omega (arith, w.allowance, c.in_err-node.ensures.taken.none_left))

pub returns-in_err-push_level : goal.returns-in_err-push_level
unfolding TakesSpine
returns-in_err-push_level g _ c = λ ks vs fits room.
    let H = c.args.heads.now in
    let H₁ = c.take_spine.new.heads in
    let w = c.in_ok-child.ensures ks vs fits (omega (arith, room)) in
    let d = c.in_ok-node.ensures.taken in
    let S = g.S.Supply.stock c.args.supply.now in
    let S₁ = g.S.Supply.stock c.take_spine.new.supply in
    let S₂ = g.S.Supply.stock c.take-2.new.self in
    let h = c.args.height - 1 in
    absurd (c.in_err-push_level.ensures.1 (omega (arith, d.below, w.balanced.size, w.beside.heads_len, fits))
    (new_child_in H H₁ ks vs S S₁ S₂ h c.in_ok-child.child c.in_ok-node.node w d)
    (new_other H H₁ ks vs S S₁ S₂ h c.in_ok-child.child c.in_ok-node.node w d))

pub returns : goal.returns
unfolding TakesSpine
returns g _ c = λ ks vs fits room.
    let H = c.args.heads.now in
    let H₁ = c.take_spine.new.heads in
    let w = c.in_ok-child.ensures ks vs fits (omega (arith, room)) in
    let d = c.in_ok-node.ensures.taken in
    let e = c.in_ok-push_level.ensures in
    let S = g.S.Supply.stock c.args.supply.now in
    let S₁ = g.S.Supply.stock c.take_spine.new.supply in
    let S₂ = g.S.Supply.stock c.take-2.new.self in
    let m = c.in_ok-node.node in
    let h = c.args.height - 1 in
    subst (λ n. SpineTaken (tables H ks vs) (tables c.push_level.new.heads ks vs) S S₂ n m) (sym (height_suc c.args.height (omega arith)))
    (subst (λ G. SpineTaken (tables H ks vs) (tables G ks vs) S S₂ (suc h) m) (sym e.4) (spine_more H H₁ ks vs S S₁ S₂ h c.in_ok-child.child m w d e.0 e.3))
