use Rattle.audit.proofs.Notes.{Noted}
use Rattle.audit.proofs.runs.Run.note_all.Given as goal

abbrev pub invariant-loop-key : goal.invariant-loop-key
invariant-loop-key g l = Noted g.K.KeyOrder.compares l.keys l.key-index l.fn.self l.self
