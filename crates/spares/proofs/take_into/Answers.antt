use Rattle.std.proofs.Common.{◌≡◌, suc, ◌+◌, refl, subst, ◌∙◌, arith}
use Rattle.std.proofs.lemmas.List.{length-set}
use Rattle.spares.specs.Spares.{Took}
use Rattle.spares.proofs.Taking.{took_none, took_more}
use Rattle.spares.proofs.take_into.Goals as goal

pub loop-taken-init : goal.loop-taken-init
loop-taken-init g c = (took_none _ _, refl)

pub loop-taken-preserved : goal.loop-taken-preserved
loop-taken-preserved g c =
    let i = c.loop-taken.taken in
    let e : suc i ≡ i + 1 = omega arith in (
      subst (Took (g.S.Supply.stock c.args.supply.now) (g.S.Supply.stock c.take.new.self) _) e
          (took_more _ (g.S.Supply.stock c.loop-taken.supply) _ c.loop-taken.list i _ (omega (arith, c.loop-taken.invariant.1)) c.loop-taken.invariant.0 c.in-Ok.ensures.taken),
      length-set c.loop-taken.list i _ ∙ c.loop-taken.invariant.1,
    )
