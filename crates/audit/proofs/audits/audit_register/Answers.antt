use Rattle.std.proofs.Common.{sym}
use Rattle.audit.proofs.audits.audit_register.Goals as goal

pub returns-clause-sound : goal.returns-clause-sound
returns-clause-sound g c = rw (sym c.places.ensures) c.audit_places.ensures.sound

pub returns-clause-whole : goal.returns-clause-whole
returns-clause-whole g c = rw (sym c.places.ensures) c.audit_places.ensures.whole
