use Rattle.std.proofs.Common.{length, drop, ◌≡◌}
use Rattle.node.specs.Store.{tables}
use Rattle.bank.specs.Banks.{state_of}
use Rattle.bank.specs.Lists.{Chain, first_calls, first_answers}
use Rattle.bank.proofs.bank.Bank.perform_all.Given as goal

abbrev pub invariant-loop-idx : goal.invariant-loop-idx
invariant-loop-idx g l =
    (length l.answers ≡ length l.initial.answers)
    × (drop l.idx l.answers ≡ drop l.idx l.initial.answers)
    × Chain g.K.KeyOrder.compares (first_calls g.P.Placing.places g.Q.Placing.places l.idx l.calls) (first_answers l.idx l.answers) (state_of g.S.Supply.stock l.initial.self (tables l.initial.heads l.initial.keys l.initial.values))
    (state_of g.S.Supply.stock l.self (tables l.heads l.keys l.values))
