use Rattle.std.proofs.Common.{◌≡◌, ◌+◌, ◌-◌, ◌<◌, ◌≤◌, List, length, take, get_or, sym, ap, subst, arith}
use Rattle.node.specs.Store.{head_in}
use Rattle.node.specs.Counts.{Counted}
use Rattle.node.proofs.Breaking.{refused_by}
use Rattle.node.proofs.Recounts.{reached_stands, reached_child, counted_leaf, summed_more, summed_small, summed_all}
use Rattle.node.proofs.count.+dfs.Goals as goal

pub dfs-returns-in_err-len : goal.dfs-returns-in_err-len
dfs-returns-in_err-len t c =
    let H = c.args.heads.now in
    refused_by c.from_residual.result _ _ _ c.from_residual.ensures.1 c.in_err-len.ensures.0 (λ w. c.in_err-len.ensures.1 (reached_stands H c.args.height c.args.node w))

pub dfs-returns-then-height-eq0 : goal.dfs-returns-then-height-eq0
dfs-returns-then-height-eq0 t c =
    let H = c.args.heads.now in
    let st = c.in_ok-len.ensures in
    subst (λ n. Counted H c.args.height c.args.node n) (sym st.1) (counted_leaf H c.args.height c.args.node c.if-height-eq0.true st.0)

pub dfs_below-returns-in_err-sum : goal.dfs_below-returns-in_err-sum
dfs_below-returns-in_err-sum t c =
    refused_by c.from_residual.result _ _ _ c.from_residual.ensures.1 c.in_err-sum.ensures.0
    (λ w. c.in_err-sum.ensures.1 (reached_child _ c.args.height c.args.node _ _ c.requires.long c.requires.above w c.loop-child-test.true))

pub dfs_below-overflow_add-sum : goal.dfs_below-overflow_add-sum
dfs_below-overflow_add-sum t c =
    let small = summed_small c.args.heads.now (c.args.height - 1) c.args.node c.loop-child.child-index c.loop-child.sum _ c.in_ok-sum.field-0
    (omega arith) c.requires.stands c.loop-child.invariant c.in_ok-sum.ensures in
    omega arith

pub dfs_below-loop-child-preserved : goal.dfs_below-loop-child-preserved
dfs_below-loop-child-preserved t c =
    let H = c.args.heads.now in
    let h = c.args.height - 1 in
    let m = c.args.node in
    let i = c.loop-child.child-index in
    let z : c.args.len + 1 - 0 ≡ (head_in H m).len + 1 = omega (arith, c.requires.long) in
    let e = ap (λ n. take n (head_in H m).edges) z in
    summed_more H h m i c.loop-child.sum c.in_ok-sum.field-0 c.loop-child.invariant (subst (λ (cs : List _). i < length cs) e c.loop-child-test.true)
    (subst (λ cs. Counted H h (get_or cs i 0) c.in_ok-sum.field-0) e c.in_ok-sum.ensures)

pub dfs_below-returns : goal.dfs_below-returns
dfs_below-returns t c =
    let H = c.args.heads.now in
    let m = c.args.node in
    let z : c.args.len + 1 - 0 ≡ (head_in H m).len + 1 = omega (arith, c.requires.long) in
    let e = ap (λ n. take n (head_in H m).edges) z in
    let all = subst (λ (cs : List _). length cs ≤ c.loop-child.child-index) e c.loop-child-test.false in
    summed_all H c.args.height m c.loop-child.child-index c.loop-child.sum c.requires.above c.requires.stands all c.loop-child.invariant
