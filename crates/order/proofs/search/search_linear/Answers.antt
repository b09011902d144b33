use Rattle.std.proofs.Common.{false, length, rules}
use borrow.Author.Rules.{get_or_read}
use Rattle.order.specs.Found.{Stopped}
use Rattle.order.proofs.Among.{told, at_most}
use Rattle.order.proofs.search.search_linear.Goals as goal

pub returns-then-is_le : goal.returns-then-is_le
returns-then-is_le g c =
    let low = at_most c.place-placed.result c.if-is_le.ensures in
    let stopped : Stopped g.Q.Placing.places c.args.keys.now c.args.query.now c.loop-i.i c.is_eq.result = search (rules, get_or_read, low) in
    let t = told g.met.Q.Query.placed _ _ _ _ stopped in
    search rules

pub returns : goal.returns
returns g c =
    let stopped : Stopped g.Q.Placing.places c.args.keys.now c.args.query.now (length c.args.keys.now) false = search rules in
    let t = told g.met.Q.Query.placed _ _ _ _ stopped in
    search rules
