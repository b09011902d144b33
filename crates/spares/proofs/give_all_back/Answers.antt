use Rattle.std.proofs.Common.{◌≡◌, suc, ◌-◌, subst, arith}
use Rattle.spares.specs.Spares.{Took}
use Rattle.spares.proofs.Taking.{took_back, took_all}
use Rattle.spares.proofs.give_all_back.Goals as goal

pub loop-left-preserved : goal.loop-left-preserved
loop-left-preserved g c =
    let k = c.loop-left.left in
    let l = c.args.list.now in
    let e : k ≡ suc (k - 1) = omega arith in (
      omega (arith, c.loop-left.invariant.0),
      λ s f. took_back s (g.S.Supply.stock c.loop-left.supply) _ l (k - 1) _ (subst (Took s (g.S.Supply.stock c.loop-left.supply) l) e (c.loop-left.invariant.1 s f)) c.give_back.ensures.given,
    )

pub returns : goal.returns
returns g c = λ s f.
    let e : c.loop-left.left ≡ 0 = omega arith in
    took_all s (g.S.Supply.stock c.loop-left.supply) c.args.list.now (subst (Took s (g.S.Supply.stock c.loop-left.supply) c.args.list.now) e (c.loop-left.invariant.1 s f))
