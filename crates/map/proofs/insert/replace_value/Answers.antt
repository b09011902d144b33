use Rattle.std.proofs.Common.{◌∷◌, ◌++◌, Ok, ap, arith, length-append}
use Rattle.node.specs.Store.{tables, second}
use Rattle.node.proofs.Tabled.{not_strange}
use Rattle.node.proofs.Runs.{run_at}
use Rattle.map.specs.Inserts.{Replaces}
use Rattle.map.proofs.Writing.{value_written, rest_kept}
use Rattle.map.proofs.insert.replace_value.Goals as goal

pub returns-in_err-len-clause-replaces : goal.returns-in_err-len-clause-replaces
unfolding Replaces
returns-in_err-len-clause-replaces g c = λ es e fs ks sized n p.
    absurd (not_strange (tables c.args.heads.now c.args.keys.now c.args.values.now) c.args.node (es ++ e ∷ fs) ks sized n c.in_err-len.ensures.1)

pub returns-then-idx-len-clause-replaces : goal.returns-then-idx-len-clause-replaces
unfolding Replaces
returns-then-idx-len-clause-replaces g c = λ es e fs ks sized n p.
    absurd (omega (arith, c.if-idx-len.true, c.in_ok-len.ensures.len_is, n.len_is, length-append es (e ∷ fs)))

pub returns-clause-replaces : goal.returns-clause-replaces
unfolding Replaces
returns-clause-replaces g c = λ es e fs ks sized n p. (
  ap Ok (run_at second c.args.values.now _ c.args.idx es e fs c.index-values-at.result n.values_are p c.index-values-at.is),
  value_written c.args.heads.now c.args.keys.now c.args.values.now c.args.node c.args.idx c.args.val es e fs ks sized n p,
  rest_kept c.args.heads.now c.args.keys.now c.args.values.now c.args.node c.args.idx c.args.val es e fs ks sized n p,
)
