use Rattle.std.proofs.Common.{Ok, subst, sym}
use Rattle.std.proofs.lemmas.Result.{err_from_is_err_and}
use Rattle.node.specs.Store.{tables}
use Rattle.books.specs.declared.places.Place.TheVariants as P
use Rattle.acts.specs.Acts.{CutsIn}
use Rattle.acts.proofs.Parting.{cuts_nowhere, cuts_none, cuts_tree, cuts_refused}
use Rattle.acts.proofs.cutting.cut_in.Goals as goal

pub returns-in_default : goal.returns-in_default
returns-in_default g c = cuts_nowhere g.K.KeyOrder.compares _ _ c.args.here _ c.in_default.ensures

pub returns-in_err-cut : goal.returns-in_err-cut
returns-in_err-cut g c =
    let p = err_from_is_err_and c.from_residual.result c.from_residual.ensures.1 in
    rw (p.1, p.2) (cuts_refused g.K.KeyOrder.compares (tables c.args.heads.now c.args.keys.now c.args.values.now) (tables c.split_off.new.heads c.split_off.new.keys c.split_off.new.values) _ _ _
    c.args.here c.in-Some.root c.in-Some.count c.in-Some.ensures c.in_err-cut.field-0.0 c.in_err-cut.ensures)

pub returns-in-None : goal.returns-in-None
returns-in-None g c =
    let T = tables c.args.heads.now c.args.keys.now c.args.values.now in
    let T' = tables c.split_off.new.heads c.split_off.new.keys c.split_off.new.values in
    let place = g.Q.Placing.places c.args.query.now in
    subst (λ x. CutsIn g.K.KeyOrder.compares T T' (g.S.Supply.stock c.args.supply.now) (g.S.Supply.stock c.split_off.new.supply) c.args.here place (Ok (x, P.Bare, c.in_ok-cut.cut.counts))) (sym c.in-Some.ensures)
    (cuts_none g.K.KeyOrder.compares T T' _ _ place c.args.here c.in-Some.root c.in-Some.count c.in-Some.ensures c.in_ok-cut.cut c.in-None.is c.in_ok-cut.ensures)

pub returns-in-Some-parts : goal.returns-in-Some-parts
returns-in-Some-parts g c =
    cuts_tree g.K.KeyOrder.compares _ _ _ _ _ c.args.here c.in-Some.root c.in-Some.count c.in-Some.ensures c.in_ok-cut.cut c.in-Some-parts.first c.in-Some-parts.second c.in-Some-parts.is c.in_ok-cut.ensures
