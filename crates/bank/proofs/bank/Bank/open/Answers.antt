use Rattle.std.proofs.lemmas.Result.{err_from_is_err_and}
use Rattle.node.specs.Store.{tables}
use Rattle.books.specs.Kinds.{is_map}
use Rattle.calls.specs.Asking.{Open}
use Rattle.bank.specs.Banks.{state_of}
use Rattle.bank.proofs.Performing.{fit_of, not_refused, asked_of, opened_done, opened_not}
use Rattle.bank.proofs.bank.Bank.open.Goals as goal

pub returns-in_err-after-clause-does : goal.returns-in_err-after-clause-does
returns-in_err-after-clause-does g c =
    let s = state_of g.S.Supply.stock c.args.self.now (tables c.args.heads.now c.args.keys.now c.args.values.now) in
    let o = g.met.K.KeyOrder.ordered in
    let f = fit_of s c.in_ok-fit.ensures in
    let z = (g.met.S.Supply.sound c.args.self.now.supply).apart in
    let w = asked_of o s f z is_map c.args.place c.in_ok-here.here c.in_ok-here.ensures in
    let p = err_from_is_err_and c.from_residual-in_err-after.result c.from_residual-in_err-after.ensures.1 in
    rw (p.1) (opened_not o s f z c.args.place c.in_ok-here.here w _ _ c.in_err-after.ensures)

pub returns-clause-does : goal.returns-clause-does
returns-clause-does g c =
    let s = state_of g.S.Supply.stock c.args.self.now (tables c.args.heads.now c.args.keys.now c.args.values.now) in
    let o = g.met.K.KeyOrder.ordered in
    let f = fit_of s c.in_ok-fit.ensures in
    let z = (g.met.S.Supply.sound c.args.self.now.supply).apart in
    let w = asked_of o s f z is_map c.args.place c.in_ok-here.here c.in_ok-here.ensures in
    rw (c.set.ensures) (opened_done o s f z c.args.place c.in_ok-here.here w c.in_ok-after.after c.in_ok-after.ensures)

pub returns-in_err-after-clause-same : goal.returns-in_err-after-clause-same
returns-in_err-after-clause-same g c r =
    let s = state_of g.S.Supply.stock c.args.self.now (tables c.args.heads.now c.args.keys.now c.args.values.now) in
    absurd (not_refused (Open c.args.place) s (fit_of s c.in_ok-fit.ensures) c.in_ok-here.ensures.0 r)

pub returns-clause-same : goal.returns-clause-same
returns-clause-same g c r =
    let s = state_of g.S.Supply.stock c.args.self.now (tables c.args.heads.now c.args.keys.now c.args.values.now) in
    absurd (not_refused (Open c.args.place) s (fit_of s c.in_ok-fit.ensures) c.in_ok-here.ensures.0 r)
