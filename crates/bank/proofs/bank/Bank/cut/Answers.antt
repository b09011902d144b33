use Rattle.std.proofs.lemmas.Result.{err_from_is_err_and}
use Rattle.node.specs.Store.{tables}
use Rattle.calls.specs.Asking.{Cut}
use Rattle.bank.specs.Banks.{state_of}
use Rattle.bank.proofs.Performing.{fit_of, not_refused, cut_done, cut_not}
use Rattle.bank.proofs.bank.Bank.cut.Goals as goal

pub returns-in_err-stays-clause-does : goal.returns-in_err-stays-clause-does
returns-in_err-stays-clause-does g c =
    let s = state_of g.S.Supply.stock c.args.self.now (tables c.args.heads.now c.args.keys.now c.args.values.now) in
    let o = g.met.K.KeyOrder.ordered in
    let f = fit_of s c.in_ok-fit.ensures in
    let z = (g.met.S.Supply.sound c.args.self.now.supply).apart in
    let p = err_from_is_err_and c.from_residual-in_err-stays.result c.from_residual-in_err-stays.ensures.1 in
    let a = c.in_ok-here.ensures in
    rw (p.1) (cut_not o s f z c.args.place c.args.other _ _ _ c.in_ok-here.here a.0 a.1 a.3 _ _ p.2 c.in_err-stays.ensures)

pub returns-clause-does : goal.returns-clause-does
returns-clause-does g c =
    let s = state_of g.S.Supply.stock c.args.self.now (tables c.args.heads.now c.args.keys.now c.args.values.now) in
    let o = g.met.K.KeyOrder.ordered in
    let f = fit_of s c.in_ok-fit.ensures in
    let z = (g.met.S.Supply.sound c.args.self.now.supply).apart in
    let a = c.in_ok-here.ensures in
    rw (c.set-2.ensures, c.set.ensures) (cut_done o s f z c.args.place c.args.other _ _ _ c.in_ok-here.here a.0 a.1 a.3 c.in_ok-stays.stays c.in_ok-stays.goes c.in_ok-stays.counts c.in_ok-stays.ensures)

pub returns-in_err-stays-clause-same : goal.returns-in_err-stays-clause-same
returns-in_err-stays-clause-same g c r =
    let s = state_of g.S.Supply.stock c.args.self.now (tables c.args.heads.now c.args.keys.now c.args.values.now) in
    absurd (not_refused (Cut c.args.place c.args.other (g.Q.Placing.places c.args.query.now)) s (fit_of s c.in_ok-fit.ensures) c.in_ok-here.ensures.0 r)

pub returns-clause-same : goal.returns-clause-same
returns-clause-same g c r =
    let s = state_of g.S.Supply.stock c.args.self.now (tables c.args.heads.now c.args.keys.now c.args.values.now) in
    absurd (not_refused (Cut c.args.place c.args.other (g.Q.Placing.places c.args.query.now)) s (fit_of s c.in_ok-fit.ensures) c.in_ok-here.ensures.0 r)
