use Rattle.std.proofs.lemmas.Result.{err_from_is_err_and}
use Rattle.std.proofs.lemmas.Bool.Decides.{not_from_Decides}
use Rattle.node.specs.Store.{tables}
use Rattle.bank.specs.Banks.{state_of}
use Rattle.bank.proofs.Starting.{laid_misfit, laid_taken, laid_out}
use Rattle.bank.proofs.bank.Bank.lay_out.Goals as goal

pub returns-in_err-fit-clause-lays_out : goal.returns-in_err-fit-clause-lays_out
returns-in_err-fit-clause-lays_out g c =
    let s = state_of g.S.Supply.stock c.args.self.now (tables c.args.heads.now c.args.keys.now c.args.values.now) in
    let p = err_from_is_err_and c.from_residual.result c.from_residual.ensures.1 in
    let e = c.in_err-fit.ensures in
    rw (p.1, p.2, e.0) (laid_misfit g.K.KeyOrder.compares s e.1)

pub returns-then-not-unused-clause-lays_out : goal.returns-then-not-unused-clause-lays_out
returns-then-not-unused-clause-lays_out g c =
    let s = state_of g.S.Supply.stock c.args.self.now (tables c.args.heads.now c.args.keys.now c.args.values.now) in
    laid_taken g.K.KeyOrder.compares s c.in_ok-fit.ensures (not_from_Decides _ c.unused.ensures c.if-not-unused.true)

pub returns-clause-lays_out : goal.returns-clause-lays_out
returns-clause-lays_out g c =
    let s = state_of g.S.Supply.stock c.args.self.now (tables c.args.heads.now c.args.keys.now c.args.values.now) in
    rw (c.bare-self.ensures) (laid_out g.K.KeyOrder.compares s c.in_ok-fit.ensures (c.unused.ensures.0 c.if-not-unused.false))
