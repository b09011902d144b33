use Rattle.supply.proofs.Walked.{Walked}
use Rattle.supply.proofs.links.ChainParts.is_row.Given as goal

abbrev pub invariant-loop : goal.invariant-loop
invariant-loop l = Walked l.self.size l.self.links l.self.head l.counter l.node l.seen
