use Rattle.std.specs.Ordering.{is_lt}
use Rattle.std.proofs.Common.{rules}
use Rattle.std.proofs.lemmas.List.Sorted.{answers_always}
use Rattle.order.proofs.Rises.{rising_decided}
use Rattle.order.proofs.rows.rises.Goals as goal

pub returns : goal.returns
returns g c =
    let cmp = g.K.KeyOrder.compares in
    rising_decided g.met.K.KeyOrder.ordered c.args.keys.now c.is_sorted_by.result
    (c.is_sorted_by.ensures.cases (λ x y. is_lt (cmp x y)) (search (rules, answers_always)))
