use Rattle.node.specs.Store.{tables}
use Rattle.bank.specs.Banks.{state_of}
use Rattle.bank.proofs.Performing.{fit_of, audited_done}
use Rattle.bank.proofs.bank.Bank.audit.Goals as goal

pub returns : goal.returns
returns g c =
    let s = state_of g.S.Supply.stock c.args.self.now (tables c.args.heads.now c.args.keys.now c.args.values.now) in
    audited_done g.met.K.KeyOrder.ordered s (fit_of s c.in_ok-fit.ensures) (g.met.S.Supply.sound c.args.self.now.supply).apart c.audit.result c.audit.ensures
