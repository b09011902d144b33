use Rattle.std.specs.Prelude.{◌-◌}
use Rattle.walk.proofs.Closing.{Run}
use Rattle.walk.proofs.walks.Walk.empty.Given as goal

abbrev pub invariant-loop : goal.invariant-loop
invariant-loop g l = Run l.tables (g.S.Supply.stock l.initial.supply) (g.S.Supply.stock l.supply) l.initial.self l.self (l.initial.self.left - l.self.left)

abbrev pub decreases-loop : goal.decreases-loop
decreases-loop g l = l.self.left
