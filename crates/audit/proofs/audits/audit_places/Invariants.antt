use Rattle.audit.proofs.Placed.{Upto}
use Rattle.audit.proofs.audits.audit_places.Given as goal

abbrev pub invariant-loop-place : goal.invariant-loop-place
invariant-loop-place g l = Upto g.K.KeyOrder.compares l.tables l.places l.place-index l.fn.met l.met
