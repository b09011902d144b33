use Rattle.std.proofs.Common.{sym, subst}
use Rattle.node.specs.Store.{tables}
use Rattle.bank.specs.Fitting.{coded}
use Rattle.bank.specs.Layout.{LaysOut}
use Rattle.supply.specs.Callers.{caller_number}
use Rattle.shared.specs.Moves.{LaidOut}
use Rattle.shared.proofs.Serving.{shared, own, laid_of, within_same}
use Rattle.shared.proofs.sharing.SharedBank.lay_out.Goals as goal

pub returns-clause-does : goal.returns-clause-does
returns-clause-does g c =
    let b = c.args.self.now.bank in
    let s = b.supply in
    let b' = c.lay_out.new.self in
    let T = tables c.args.heads.now c.args.keys.now c.args.values.now in
    let B = g.S.Supply.stock s.below in
    let ps' = c.args.self.now.resting.places in
    let r = coded c.lay_out.result in
    let z = own T b.size s.caller b.register.places ps' B s.size s.served.limit s.served.marks s.other.limit s.other.marks in
    let d = shared T b.size s.caller b.register.places ps' B s.size s.served.limit s.served.marks s.other.limit s.other.marks in
    subst (λ t. LaysOut g.K.KeyOrder.compares z (own T b'.size t.caller b'.register.places ps' (g.S.Supply.stock t.below) t.size t.served.limit t.served.marks t.other.limit t.other.marks) r
    → LaidOut g.K.KeyOrder.compares (caller_number s.caller) r d (shared T b'.size t.caller b'.register.places ps' (g.S.Supply.stock t.below) t.size t.served.limit t.served.marks t.other.limit t.other.marks))
    (sym c.lay_out.ensures.supply)
    (λ l. laid_of g.K.KeyOrder.compares T b.size b'.size s.caller b.register.places b'.register.places ps' B s.size s.served.limit s.served.marks s.other.limit s.other.marks r l)
    c.lay_out.ensures.lays_out

pub returns-clause-same : goal.returns-clause-same
returns-clause-same g c = within_same (λ b. record { bank = b; resting = c.args.self.now.resting }) c.args.self.now.bank c.lay_out.new.self c.lay_out.result c.lay_out.ensures.same
