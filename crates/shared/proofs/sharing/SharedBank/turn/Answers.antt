use Rattle.std.proofs.Common.{◌<◌, Err, ap, sym, ◌∙◌, subst, arith}
use Rattle.std.proofs.lemmas.Result.{err_from_is_err_and}
use Rattle.node.specs.Store.{tables}
use Rattle.calls.specs.Refusals.{code}
use Rattle.bank.specs.Fitting.{coded}
use Rattle.supply.specs.Callers.{caller_number}
use Rattle.shared.specs.Moves.{TurnsTo}
use Rattle.shared.proofs.Serving.{shared, turned_same, turned_other, number_low, turned_no_caller, turned_misfit, turned_done, fit_shared, fit_not}
use Rattle.shared.proofs.sharing.SharedBank.turn.Goals as goal

pub returns-in_err-caller-clause-does : goal.returns-in_err-caller-clause-does
returns-in_err-caller-clause-does g c =
    let b = c.args.self.now.bank in
    let s = b.supply in
    let T = tables c.args.heads.now c.args.keys.now c.args.values.now in
    let B = g.S.Supply.stock s.below in
    let ps' = c.args.self.now.resting.places in
    let d = shared T b.size s.caller b.register.places ps' B s.size s.served.limit s.served.marks s.other.limit s.other.marks in
    let p = err_from_is_err_and c.from_residual.result c.from_residual.ensures.1 in
    subst (TurnsTo c.args.caller d d) (sym (ap coded p.1 ∙ ap (λ e. Err (code e)) (p.2 ∙ c.in_err-caller.ensures.0))) (turned_no_caller c.args.caller d c.in_err-caller.ensures.1)

pub returns-in_err-fit-clause-does : goal.returns-in_err-fit-clause-does
returns-in_err-fit-clause-does g c =
    let b = c.args.self.now.bank in
    let s = b.supply in
    let T = tables c.args.heads.now c.args.keys.now c.args.values.now in
    let B = g.S.Supply.stock s.below in
    let ps' = c.args.self.now.resting.places in
    let d = shared T b.size s.caller b.register.places ps' B s.size s.served.limit s.served.marks s.other.limit s.other.marks in
    let p = err_from_is_err_and c.from_residual-in_err-fit.result c.from_residual-in_err-fit.ensures.1 in
    let l : c.args.caller < 2 = omega (arith, c.in_ok-caller.ensures, number_low c.in_ok-caller.caller) in
    subst (TurnsTo c.args.caller d d) (sym (ap coded p.1 ∙ ap (λ e. Err (code e)) (p.2 ∙ c.in_err-fit.ensures.0)))
    (turned_misfit c.args.caller d l (fit_not T b.size s.caller b.register.places ps' B s.size s.served.limit s.served.marks s.other.limit s.other.marks c.in_err-fit.ensures.1))

pub returns-else-number-clause-does : goal.returns-else-number-clause-does
returns-else-number-clause-does g c =
    let b = c.args.self.now.bank in
    let s = b.supply in
    let T = tables c.args.heads.now c.args.keys.now c.args.values.now in
    let B = g.S.Supply.stock s.below in
    let ps' = c.args.self.now.resting.places in
    let d = shared T b.size s.caller b.register.places ps' B s.size s.served.limit s.served.marks s.other.limit s.other.marks in
    let l : c.args.caller < 2 = omega (arith, c.in_ok-caller.ensures, number_low c.in_ok-caller.caller) in
    turned_done c.args.caller d l (fit_shared T b.size s.caller b.register.places ps' B s.size s.served.limit s.served.marks s.other.limit s.other.marks c.in_ok-fit.ensures) d
    (turned_same c.args.caller T b.size s.caller b.register.places ps' B s.size s.served.limit s.served.marks s.other.limit s.other.marks
    (omega (arith, c.if-number.false, c.number.ensures, c.number-2.ensures, ap caller_number c.caller.ensures, c.in_ok-caller.ensures)))

pub returns-then-number-clause-does : goal.returns-then-number-clause-does
returns-then-number-clause-does g c =
    let b = c.args.self.now.bank in
    let s = b.supply in
    let T = tables c.args.heads.now c.args.keys.now c.args.values.now in
    let B = g.S.Supply.stock s.below in
    let ps' = c.args.self.now.resting.places in
    let d = shared T b.size s.caller b.register.places ps' B s.size s.served.limit s.served.marks s.other.limit s.other.marks in
    let l : c.args.caller < 2 = omega (arith, c.in_ok-caller.ensures, number_low c.in_ok-caller.caller) in
    let b' = c.turn-self.new.self in
    let s' = b'.supply in
    let t = c.turn-self.ensures in
    let B' = g.S.Supply.stock s'.below in
    let d' = shared T b'.size s'.caller b'.register.places c.turn-self.result.places B' s'.size s'.served.limit s'.served.marks s'.other.limit s'.other.marks in
    turned_done c.args.caller d l (fit_shared T b.size s.caller b.register.places ps' B s.size s.served.limit s.served.marks s.other.limit s.other.marks c.in_ok-fit.ensures) d'
    (turned_other c.args.caller T b.size b'.size s.caller s'.caller c.in_ok-caller.caller b.register.places ps' b'.register.places c.turn-self.result.places B B' s.size s'.size s.served.limit s'.served.limit s.served.marks s'.served.marks
    s.other.limit s'.other.limit s.other.marks s'.other.marks t.size t.caller (ap (λ r. r.places) t.register) (ap (λ r. r.places) t.answered) c.in_ok-caller.ensures
    (λ q. c.if-number.true (omega (arith, c.number.ensures, c.number-2.ensures, ap caller_number c.caller.ensures, c.in_ok-caller.ensures, q))) t.kept)
