use Rattle.std.proofs.lemmas.Result.{err_from_is_err_and}
use Rattle.node.specs.Store.{tables}
use Rattle.books.specs.Kinds.{is_map}
use Rattle.bank.specs.Banks.{state_of}
use Rattle.bank.proofs.Performing.{fit_of, asked_of, looked_done, looked_not}
use Rattle.bank.proofs.bank.Bank.lookup.Goals as goal

pub returns-in_err-lookup_in : goal.returns-in_err-lookup_in
returns-in_err-lookup_in g c =
    let s = state_of g.S.Supply.stock c.args.self.now (tables c.args.heads.now c.args.keys.now c.args.values.now) in
    let o = g.met.K.KeyOrder.ordered in
    let f = fit_of s c.in_ok-fit.ensures in
    let z = (g.met.S.Supply.sound c.args.self.now.supply).apart in
    let w = asked_of o s f z is_map c.args.place c.in_ok-here.here c.in_ok-here.ensures in
    let p = err_from_is_err_and c.from_residual-in_err-lookup_in.result c.from_residual-in_err-lookup_in.ensures.1 in
    rw (p.1) (looked_not o s f z c.args.place _ c.in_ok-here.here w _ _ c.in_err-lookup_in.ensures)

pub returns : goal.returns
returns g c =
    let s = state_of g.S.Supply.stock c.args.self.now (tables c.args.heads.now c.args.keys.now c.args.values.now) in
    let o = g.met.K.KeyOrder.ordered in
    let f = fit_of s c.in_ok-fit.ensures in
    let z = (g.met.S.Supply.sound c.args.self.now.supply).apart in
    let w = asked_of o s f z is_map c.args.place c.in_ok-here.here c.in_ok-here.ensures in
    looked_done o s f z c.args.place _ c.in_ok-here.here w c.in_ok-lookup_in.field-0 c.in_ok-lookup_in.ensures
