use Rattle.std.proofs.Common.{◌-◌, sym, ◌∙◌, subst, arith}
use Rattle.node.specs.Store.{tables}
use Rattle.node.specs.declared.nodes.NodeRef.{NodeRef}
use Rattle.node.specs.Balance.{Owns}
use Rattle.node.proofs.Forced.{forced_leaf, forced_inner}
use Rattle.repair.specs.Repair.{Mends}
use Rattle.node.proofs.Frames.{held_not_strange}
use Rattle.repair.proofs.Mending.{mends_leaf, mends_none, joins_not, mends_level}
use Rattle.repair.proofs.Tops.{ref_is}
use Rattle.repair.proofs.border.+mend.Goals as goal

pub returns-in_default : goal.returns-in_default
returns-in_default g _ c =
    mends_leaf c.args.side (tables c.args.heads.now c.args.keys.now c.args.values.now) (g.S.Supply.stock c.args.supply.now) c.args.node.height c.args.node.node (forced_leaf c.args.node c.in_default.field-0 c.in_default.ensures).0

pub returns-in_err-len : goal.returns-in_err-len
unfolding Mends
returns-in_err-len g _ c = λ t o e.
    let p = c.in-Internal.parent in
    let k = forced_inner c.args.node p c.in-Internal.ensures in
    absurd (held_not_strange (tables c.args.heads.now c.args.keys.now c.args.values.now) c.args.node.height p.node t o.sized o.holds (e ∙ sym k.1)
    c.in_err-len.ensures.1)

pub returns-then-len-eq0 : goal.returns-then-len-eq0
returns-then-len-eq0 g _ c =
    let s = c.args.side in
    let T = (tables c.args.heads.now c.args.keys.now c.args.values.now) in
    let S = g.S.Supply.stock c.args.supply.now in
    let p = c.in-Internal.parent in
    let k = forced_inner c.args.node p c.in-Internal.ensures in
    let lies = c.in_ok-len.ensures in
    subst (λ (n : NodeRef). Mends s T T S S n.height n.node _) (sym (ref_is c.args.node p.node p.height (sym k.1) (sym k.2)))
    (mends_none s T S p.height p.node (omega (arith, k.0, k.2)) (omega (arith, c.if-len-eq0.true, lies.len_is)))

pub returns-in_err-child : goal.returns-in_err-child
unfolding Mends
returns-in_err-child g _ c = λ t o e.
    let T = (tables c.args.heads.now c.args.keys.now c.args.values.now) in
    let S = g.S.Supply.stock c.args.supply.now in
    let p = c.in-Internal.parent in
    let k = forced_inner c.args.node p c.in-Internal.ensures in
    let lies = c.in_ok-len.ensures in
    absurd (joins_not c.args.side T S p.height p.node (omega (arith, k.0, k.2))
    c.in_ok-len.len c.border_entry-idx.result lies.len_is (omega (arith, c.if-len-eq0.false)) c.border_entry-idx.ensures
    (tables c.join.new.heads c.join.new.keys c.join.new.values) (g.S.Supply.stock c.join.new.supply) _ c.in_err-child.ensures t (subst (λ h. Owns T S h t) (sym k.2) o) (e ∙ sym k.1))

pub returns : goal.returns
returns g _ c =
    let s = c.args.side in
    let T = (tables c.args.heads.now c.args.keys.now c.args.values.now) in
    let T₁ = (tables c.join.new.heads c.join.new.keys c.join.new.values) in
    let T₂ = (tables c.mend.new.heads c.mend.new.keys c.mend.new.values) in
    let S = g.S.Supply.stock c.args.supply.now in
    let S₁ = g.S.Supply.stock c.join.new.supply in
    let S₂ = g.S.Supply.stock c.mend.new.supply in
    let p = c.in-Internal.parent in
    let k = forced_inner c.args.node p c.in-Internal.ensures in
    let lies = c.in_ok-len.ensures in
    subst (λ (n : NodeRef). Mends s T T₂ S S₂ n.height n.node c.mend.result) (sym (ref_is c.args.node p.node p.height (sym k.1) (sym k.2)))
    (mends_level s T S p.height p.node (omega (arith, k.0, k.2))
    c.in_ok-len.len c.border_entry-idx.result lies.len_is (omega (arith, c.if-len-eq0.false)) c.border_entry-idx.ensures
    T₁ S₁ c.in_ok-child.child c.in_ok-child.ensures T₂ S₂ c.mend.result
    (subst (λ (n : NodeRef). Mends s T₁ T₂ S₁ S₂ n.height n.node c.mend.result) (ref_is c.child.result c.in_ok-child.child (p.height - 1) c.child.ensures.0 c.child.ensures.1) c.mend.ensures))
