use Rattle.std.proofs.Common.{ℕ, ◌-◌, sym, ap, ◌∙◌, subst, arith}
use Rattle.node.specs.Counts.{Stands}
use Rattle.node.specs.Store.{tables, head_at}
use Rattle.node.proofs.Forced.{forced_leaf, forced_inner}
use Rattle.node.proofs.Recounts.{held_stands}
use Rattle.repair.specs.Repair.{FixesTop}
use Rattle.repair.proofs.Tops.{stays_leaf, stays_inner, not_popped, not_declined, goes_down}
use Rattle.repair.proofs.top.+fix_top.Goals as goal

pub returns-then-root-gt-MAX_HEIGHT : goal.returns-then-root-gt-MAX_HEIGHT
unfolding FixesTop
returns-then-root-gt-MAX_HEIGHT g _ c = λ ks vs t o e z low. absurd (omega (arith, low, c.if-root-gt-MAX_HEIGHT.true))

pub returns-in_default : goal.returns-in_default
returns-in_default g _ c = λ ks vs.
    stays_leaf (tables c.args.heads.now ks vs) (g.S.Supply.stock c.args.supply.now) c.args.root (forced_leaf c.args.root c.in_default.field-0 c.in_default.ensures).0

pub returns-in_err-len : goal.returns-in_err-len
unfolding FixesTop
returns-in_err-len g _ c = λ ks vs t o e z low.
    let k = forced_inner c.args.root c.in-Internal.top c.in-Internal.ensures in
    absurd (c.in_err-len.ensures.1 (subst (Stands c.args.heads.now) (e ∙ sym k.1) (held_stands (tables c.args.heads.now ks vs) c.args.root.height t o.holds)))

pub returns-then-len-gt0 : goal.returns-then-len-gt0
returns-then-len-gt0 g _ c = λ ks vs.
    let T = tables c.args.heads.now ks vs in
    let k = forced_inner c.args.root c.in-Internal.top c.in-Internal.ensures in
    stays_inner T (g.S.Supply.stock c.args.supply.now) c.args.root k.0 (omega (arith, c.if-len-gt0.true, c.in_ok-len.ensures.1, ap (λ m. (head_at T m).len) k.1))

pub returns-in_err-below : goal.returns-in_err-below
unfolding FixesTop
returns-in_err-below g _ c = λ ks vs t o e z low.
    let k = forced_inner c.args.root c.in-Internal.top c.in-Internal.ensures in
    absurd (not_popped c.args.heads.now ks vs (g.S.Supply.stock c.args.supply.now) c.args.root.height c.in-Internal.top.node
    k.0 (omega (arith, c.if-len-gt0.false, c.in_ok-len.ensures.1)) t o (e ∙ sym k.1) c.in_err-below.ensures.1)

pub returns-in_err-give_back : goal.returns-in_err-give_back
unfolding FixesTop
returns-in_err-give_back g _ c = λ ks vs t o e z low.
    let k = forced_inner c.args.root c.in-Internal.top c.in-Internal.ensures in
    absurd (not_declined c.args.heads.now ks vs (g.S.Supply.stock c.args.supply.now) c.args.root.height c.in-Internal.top.node
    k.0 (omega (arith, c.if-len-gt0.false, c.in_ok-len.ensures.1)) t o (e ∙ sym k.1)
    (g.S.Supply.stock c.give_back.new.self) _ c.in_err-give_back.ensures.given)

pub returns : goal.returns
returns g _ c = λ ks vs.
    let k = forced_inner c.args.root c.in-Internal.top c.in-Internal.ensures in
    let p = c.in_ok-below.ensures in
    let T' = tables c.fix_top.new.heads ks vs in
    let S = g.S.Supply.stock c.args.supply.now in
    let S' = g.S.Supply.stock c.fix_top.new.supply in
    subst (λ m. FixesTop (tables c.args.heads.now ks vs) T' S S' c.args.root.height m c.fix_top.result) k.1
    (goes_down c.args.heads.now ks vs S c.args.root.height c.in-Internal.top.node k.0 (omega (arith, c.if-len-gt0.false, c.in_ok-len.ensures.1))
    c.in_ok-below.below p.0 (p.1 ∙ ap (λ (h : ℕ). h - 1) k.2) c.pop_level.new.heads p.2 (g.S.Supply.stock c.give_back.new.self) c.in_ok-give_back.ensures.given
    T' S' c.fix_top.result (c.fix_top.ensures ks vs))
