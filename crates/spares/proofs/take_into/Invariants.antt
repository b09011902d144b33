use Rattle.std.proofs.Common.{◌≡◌, length}
use Rattle.spares.specs.Spares.{Took}
use Rattle.spares.proofs.take_into.Given as goal

abbrev pub invariant-loop-taken : goal.invariant-loop-taken
invariant-loop-taken g l = Took (g.S.Supply.stock l.fn.supply) (g.S.Supply.stock l.supply) l.list l.taken × (length l.list ≡ length l.fn.list)
