use Rattle.node.specs.Store.{tables}
use Rattle.books.specs.Kinds.{any_kind}
use Rattle.bank.specs.Banks.{state_of}
use Rattle.bank.proofs.Performing.{fit_of, asked_of, counted_done}
use Rattle.bank.proofs.bank.Bank.count.Goals as goal

pub returns : goal.returns
returns g c =
    let s = state_of g.S.Supply.stock c.args.self.now (tables c.args.heads.now c.args.keys.now c.args.values.now) in
    let o = g.met.K.KeyOrder.ordered in
    let f = fit_of s c.in_ok-fit.ensures in
    let z = (g.met.S.Supply.sound c.args.self.now.supply).apart in
    let w = asked_of o s f z any_kind c.args.place c.in_ok-here.here c.in_ok-here.ensures in
    counted_done o s f z c.args.place c.in_ok-here.here w c.count_in.result c.count_in.ensures
