use Rattle.std.proofs.Common.{rules, sym, subst}
use Rattle.node.specs.Store.{Sized}
use Rattle.audit.specs.Audits.{PlaceSound}
use Rattle.audit.proofs.Booked.{bare_place}
use Rattle.audit.proofs.audits.audit_place.Goals as goal

pub returns-in-Bare-clause-sound : goal.returns-in-Bare-clause-sound
returns-in-Bare-clause-sound g c = λ e.
    let sz : Sized c.args.tables.now = search rules in
    subst (λ p. PlaceSound g.K.KeyOrder.compares c.args.tables.now p c.args.met.now c.args.met.now) (sym c.in-Bare.is) (bare_place g.K.KeyOrder.compares c.args.tables.now sz c.args.met.now)
