use Rattle.std.proofs.lemmas.Result.{err_from_is_err_and}
use Rattle.acts.proofs.Entering.{inserts_bare, refuses_bare, refuses_tree, inserts_tree}
use Rattle.acts.proofs.inserting.insert_in.Goals as goal

pub returns-in_err-root : goal.returns-in_err-root
returns-in_err-root g c =
    let p = err_from_is_err_and c.from_residual.result c.from_residual.ensures.1 in
    rw (p.1, p.2) (refuses_bare g.K.KeyOrder.compares _ _ _ _ c.args.here _ c.in_default.ensures _ c.in_err-root.ensures)

pub returns-in_default : goal.returns-in_default
returns-in_default g c = inserts_bare g.K.KeyOrder.compares _ _ _ _ c.args.here _ c.in_default.ensures c.in_ok-root.root c.in_ok-root.ensures

pub returns-in_err-root-2 : goal.returns-in_err-root-2
returns-in_err-root-2 g c =
    let p = err_from_is_err_and c.from_residual-in_err-root-2.result c.from_residual-in_err-root-2.ensures.1 in
    rw (p.1, p.2) (refuses_tree g.K.KeyOrder.compares _ _ _ _ _ c.in-Some.root c.in-Some.count c.args.here c.in-Some.ensures _ c.in_err-root-2.ensures)

pub returns : goal.returns
returns g c =
    inserts_tree g.K.KeyOrder.compares _ _ _ _ _ c.in-Some.root c.in-Some.count g.met.K.KeyOrder.ordered c.args.here c.in-Some.ensures c.in_ok-root-2.root c.in_ok-root-2.old
    c.count_with-count.result c.count_with-count.ensures c.in_ok-root-2.ensures
