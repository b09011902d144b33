use Rattle.std.proofs.Common.{◌≡◌, ℕ, ◌<◌}
use Rattle.node.specs.Balance.{mark}
use Rattle.audit.specs.Marks.{weight}
use Rattle.audit.proofs.marks.Met.are_out.Given as goal

abbrev pub invariant-loop-node : goal.invariant-loop-node
invariant-loop-node g l = (x : ℕ) → x < l.node → weight l.self x ≡ mark (g.S.Supply.stock l.supply) x
