use Rattle.std.proofs.Common.{ap, subst, ◌∙◌}
use Rattle.node.specs.Store.{tables}
use Rattle.calls.specs.Asking.{asked}
use Rattle.bank.specs.Calls.{FailsChecks}
use Rattle.shared.proofs.Serving.{called_of, failed_same, shared, view_own}
use Rattle.shared.proofs.sharing.SharedBank.perform.Goals as goal

pub returns-clause-does : goal.returns-clause-does
returns-clause-does g c =
    let b = c.args.self.now.bank in
    let s = b.supply in
    let b' = c.perform.new.self in
    let s' = b'.supply in
    let T = tables c.args.heads.now c.args.keys.now c.args.values.now in
    let T' = tables c.perform.new.heads c.perform.new.keys c.perform.new.values in
    let ps' = c.args.self.now.resting.places in
    called_of g.K.KeyOrder.compares _ T T' b.size b'.size s.caller s'.caller
    b.register.places b'.register.places ps' (g.S.Supply.stock s.below) (g.S.Supply.stock s'.below) s.size s'.size s.served.limit s'.served.limit s.served.marks s'.served.marks
    s.other.limit s'.other.limit s.other.marks s'.other.marks c.perform.ensures.does c.perform.ensures.keeps
    (λ r.
    ap (λ x. shared T' x.size x.supply.caller x.register.places ps' (g.S.Supply.stock x.supply.below) x.supply.size x.supply.served.limit x.supply.served.marks x.supply.other.limit x.supply.other.marks) (c.perform.ensures.same r)
    ∙ ap (λ t. shared t b.size s.caller b.register.places ps' (g.S.Supply.stock s.below) s.size s.served.limit s.served.marks s.other.limit s.other.marks) (ap (λ z. z.tables) (failed_same c.perform.ensures.does r)))

pub returns-clause-same : goal.returns-clause-same
returns-clause-same g c r =
    let b = c.args.self.now.bank in
    let s = b.supply in
    let T = tables c.args.heads.now c.args.keys.now c.args.values.now in
    let ps' = c.args.self.now.resting.places in
    let v = view_own T b.size s.caller b.register.places ps' (g.S.Supply.stock s.below) s.size s.served.limit s.served.marks s.other.limit s.other.marks in
    ap (λ x. record { bank = x; resting = c.args.self.now.resting })
    (c.perform.ensures.same (subst (FailsChecks (asked g.P.Placing.places g.Q.Placing.places c.args.call.now)) v r))
