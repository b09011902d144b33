use Rattle.std.proofs.Common.{◌+◌, sym, subst}
use Rattle.audit.proofs.Climbs.{none_by}
use Rattle.audit.proofs.Notes.{Noted, noted_more, noted_at}
use Rattle.audit.proofs.runs.Run.note_all.Goals as goal

pub returns-in_err-note : goal.returns-in_err-note
returns-in_err-note g c =
    none_by c.from_residual.result _ _ c.from_residual.ensures
    (λ n. c.in_err-note.ensures (noted_at g.K.KeyOrder.compares c.args.keys.now c.loop-key.key-index c.args.self.now c.loop-key.self c.key-item.result c.loop-key-test.true c.key-item.is c.loop-key.invariant n))

pub loop-key-preserved : goal.loop-key-preserved
loop-key-preserved g c =
    subst (λ r. Noted g.K.KeyOrder.compares c.args.keys.now (c.loop-key.key-index + 1) c.args.self.now r) (sym c.in_ok-note.ensures.1)
    (noted_more g.K.KeyOrder.compares c.args.keys.now c.loop-key.key-index c.args.self.now c.loop-key.self c.key-item.result c.loop-key-test.true c.key-item.is c.loop-key.invariant c.in_ok-note.ensures.0)
