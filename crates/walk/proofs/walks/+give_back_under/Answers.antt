use Rattle.std.proofs.Common.{arith}
use Rattle.node.proofs.Breaking.{breached_by}
use Rattle.walk.proofs.Releasing.{edges_fan, gives_outside, gives_declined, gives_leaf, left_all, left_less, gives_broken, gives_all}
use Rattle.walk.proofs.walks.+give_back_under.Goals as goal

pub returns-in_err-len : goal.returns-in_err-len
returns-in_err-len g t c =
    gives_outside _ c.args.heads.now c.args.height c.args.node c.from_residual.result c.from_residual.ensures.0
    (breached_by c.from_residual.result c.in_err-len.field-0.0 c.from_residual.ensures.1 c.in_err-len.ensures.0)
    c.in_err-len.ensures.1

pub returns-in_err-give_back : goal.returns-in_err-give_back
returns-in_err-give_back g t c =
    let r = c.from_residual-in_err-give_back.result in
    gives_declined _ c.args.heads.now c.args.height c.args.node _ r c.from_residual-in_err-give_back.ensures.0
    (breached_by r c.in_err-give_back.field-0.0 c.from_residual-in_err-give_back.ensures.1 c.in_err-give_back.ensures.given.reason)
    c.in_err-give_back.ensures.given.not_out

pub returns-then-height-eq0 : goal.returns-then-height-eq0
returns-then-height-eq0 g t c = gives_leaf _ c.args.heads.now c.args.height c.args.node _ c.if-height-eq0.true c.in_ok-give_back.ensures.given

pub loop-child-init : goal.loop-child-init
loop-child-init g t c = left_all _ c.args.heads.now c.args.height c.args.node _ c.in_ok-len.len c.in_ok-len.ensures.1 (omega arith) c.in_ok-give_back.ensures.given

pub returns-in_err-give_back_under : goal.returns-in_err-give_back_under
returns-in_err-give_back_under g t c =
    let y = c.in_err-give_back_under.field-0.0 in
    let r = c.from_residual-in_err-give_back_under.result in
    gives_broken _ c.args.heads.now c.args.height c.args.node _ c.loop-child.child-index _ c.loop-child.invariant _ y r c.from_residual-in_err-give_back_under.ensures.0
    (breached_by r y c.from_residual-in_err-give_back_under.ensures.1 c.in_err-give_back_under.ensures.fault)
    (edges_fan c.args.heads.now c.args.node c.in_ok-len.len c.in_ok-len.ensures.1) (omega arith) c.loop-child-test.true c.in_err-give_back_under.ensures

pub loop-child-preserved : goal.loop-child-preserved
loop-child-preserved g t c = left_less _ c.args.heads.now c.args.height c.args.node _ c.loop-child.child-index _ c.loop-child.invariant _ c.loop-child-test.true c.in_ok-give_back_under.ensures

pub returns : goal.returns
returns g t c = gives_all _ c.args.heads.now c.args.height c.args.node _ c.loop-child.child-index _ c.loop-child.invariant c.loop-child-test.false
