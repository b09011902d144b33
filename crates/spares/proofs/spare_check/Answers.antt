use Rattle.spares.proofs.Taking.{checked_yes, checked_no}
use Rattle.spares.proofs.spare_check.Goals as goal

pub returns-then-taken-count : goal.returns-then-taken-count
returns-then-taken-count g c =
    let w = c.take_into-taken.ensures in
    checked_yes _ _ (g.S.Supply.stock c.args.supply.now) (g.S.Supply.stock c.take_into-taken.new.supply) _ c.args.count c.take_into-taken.result c.args.list.now c.take_into-taken.new.list c.if-list-count.false w
    (c.give_all_back.ensures _ w.took) c.if-taken-count.true

pub returns-else-taken-count : goal.returns-else-taken-count
returns-else-taken-count g c =
    let w = c.take_into-taken.ensures in
    checked_no _ _ (g.S.Supply.stock c.args.supply.now) (g.S.Supply.stock c.take_into-taken.new.supply) _ c.args.count c.take_into-taken.result c.args.list.now c.take_into-taken.new.list c.if-list-count.false w
    (c.give_all_back.ensures _ w.took) c.if-taken-count.false
