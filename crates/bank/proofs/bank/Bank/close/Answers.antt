use Rattle.std.proofs.Common.{refl}
use Rattle.std.proofs.lemmas.Result.{err_from_is_err_and}
use Rattle.node.specs.Store.{tables}
use Rattle.books.specs.Kinds.{is_walk}
use Rattle.books.specs.declared.places.Place.TheVariants as P
use Rattle.calls.specs.Asking.{Close}
use Rattle.bank.specs.Banks.{state_of}
use Rattle.bank.proofs.Performing.{fit_of, not_refused, asked_of, closed_done, closed_not}
use Rattle.bank.proofs.bank.Bank.close.Goals as goal

pub returns-in_err-dropped-clause-does : goal.returns-in_err-dropped-clause-does
returns-in_err-dropped-clause-does g c =
    let s = state_of g.S.Supply.stock c.args.self.now (tables c.args.heads.now c.args.keys.now c.args.values.now) in
    let o = g.met.K.KeyOrder.ordered in
    let f = fit_of s c.in_ok-fit.ensures in
    let z = (g.met.S.Supply.sound c.args.self.now.supply).apart in
    let w = asked_of o s f z is_walk c.args.place (P.Walk c.in_ok-walk.walk) (c.in_ok-walk.ensures refl) in
    let p = err_from_is_err_and c.from_residual-in_err-dropped.result c.from_residual-in_err-dropped.ensures.1 in
    rw (p.1) (closed_not o s f z c.args.place c.in_ok-walk.walk w _ _ _ c.in_err-dropped.ensures)

pub returns-clause-does : goal.returns-clause-does
returns-clause-does g c =
    let s = state_of g.S.Supply.stock c.args.self.now (tables c.args.heads.now c.args.keys.now c.args.values.now) in
    let o = g.met.K.KeyOrder.ordered in
    let f = fit_of s c.in_ok-fit.ensures in
    let z = (g.met.S.Supply.sound c.args.self.now.supply).apart in
    let w = asked_of o s f z is_walk c.args.place (P.Walk c.in_ok-walk.walk) (c.in_ok-walk.ensures refl) in
    rw (c.set.ensures) (closed_done o s f z c.args.place c.in_ok-walk.walk w _ c.in_ok-dropped.dropped c.in_ok-dropped.ensures)

pub returns-in_err-dropped-clause-same : goal.returns-in_err-dropped-clause-same
returns-in_err-dropped-clause-same g c r =
    let s = state_of g.S.Supply.stock c.args.self.now (tables c.args.heads.now c.args.keys.now c.args.values.now) in
    absurd (not_refused (Close c.args.place) s (fit_of s c.in_ok-fit.ensures) (c.in_ok-walk.ensures refl).0 r)

pub returns-clause-same : goal.returns-clause-same
returns-clause-same g c r =
    let s = state_of g.S.Supply.stock c.args.self.now (tables c.args.heads.now c.args.keys.now c.args.values.now) in
    absurd (not_refused (Close c.args.place) s (fit_of s c.in_ok-fit.ensures) (c.in_ok-walk.ensures refl).0 r)
