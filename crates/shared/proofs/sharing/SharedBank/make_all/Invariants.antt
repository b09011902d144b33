use Rattle.std.proofs.Common.{length, drop, ◌≡◌}
use Rattle.node.specs.Store.{tables}
use Rattle.shared.specs.SharedBanks.{state_of}
use Rattle.shared.specs.MoveLists.{Performed, first_moves, first_replies}
use Rattle.shared.proofs.sharing.SharedBank.make_all.Given as goal

abbrev pub invariant-loop-idx : goal.invariant-loop-idx
invariant-loop-idx g l =
    (length l.replies ≡ length l.initial.replies)
    × (drop l.idx l.replies ≡ drop l.idx l.initial.replies)
    × Performed g.K.KeyOrder.compares (first_moves g.P.Placing.places g.Q.Placing.places l.idx l.moves) (first_replies l.idx l.replies) (state_of g.S.Supply l.initial.self (tables l.initial.heads l.initial.keys l.initial.values))
    (state_of g.S.Supply l.self (tables l.heads l.keys l.values))
