use Rattle.std.proofs.Common.{◌≡◌, ℕ, ◌<◌, get_or, Greater}
use Rattle.order.proofs.search.search_linear.Given as goal

abbrev pub invariant-loop-i : goal.invariant-loop-i
invariant-loop-i g l = (k : ℕ) (d : g.row.K.Denot) → k < l.i → g.Q.Placing.places l.query (get_or l.keys k d) ≡ Greater
