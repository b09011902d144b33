use Rattle.std.proofs.Common.{arith}
use Rattle.std.proofs.lemmas.Bool.{both_ways}
use Rattle.audit.proofs.Placed.{upto_none, upto_more, upto_sound, upto_whole, book_at}
use Rattle.audit.proofs.audits.audit_places.Goals as goal

pub loop-place-init : goal.loop-place-init
loop-place-init g c = upto_none g.K.KeyOrder.compares c.args.tables.now c.args.places.now c.args.met.now

pub loop-place-preserved : goal.loop-place-preserved
loop-place-preserved g c =
    let i = c.loop-place.place-index in
    upto_more g.K.KeyOrder.compares c.args.tables.now c.args.places.now i c.args.met.now c.loop-place.met c.audit_place.new.met c.audit_place.result c.loop-place-test.true c.loop-place.invariant (c.audit_place.ensures.sound c.if-not-audit_place.false) c.audit_place.ensures.whole

pub returns-then-not-audit_place-clause-whole : goal.returns-then-not-audit_place-clause-whole
returns-then-not-audit_place-clause-whole g c = λ bs sz h u.
    let i = c.loop-place.place-index in
    let w = book_at g.K.KeyOrder.compares c.args.tables.now c.args.places.now i c.args.met.now c.loop-place.met c.audit_place.new.met c.audit_place.result c.loop-place-test.true c.loop-place.invariant c.audit_place.ensures.whole bs sz h u in
    absurd (both_ways c.audit_place.result c.if-not-audit_place.true w.0)

pub returns-clause-sound : goal.returns-clause-sound
returns-clause-sound g c = λ e. upto_sound g.K.KeyOrder.compares c.args.tables.now c.args.places.now c.loop-place.place-index c.args.met.now c.loop-place.met (omega arith) c.loop-place.invariant

pub returns-clause-whole : goal.returns-clause-whole
returns-clause-whole g c = upto_whole g.K.KeyOrder.compares c.args.tables.now c.args.places.now c.loop-place.place-index c.args.met.now c.loop-place.met (omega arith) c.loop-place.invariant
