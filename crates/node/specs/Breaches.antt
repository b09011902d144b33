-- What a refusal says.
--   Breached r    a refusal is for a breach of good form
use Rattle.std.specs.Prelude.{◌≡◌, Ok, Err, Result}
use Rattle.supply.specs.declared.faults.Fault.{Fault}
use Rattle.supply.specs.declared.faults.Fault.TheVariants.{Breach}

abbrev pub Breached : {X : Type 0} → Result X Fault → Type 0
Breached (Ok x) = Unit {0}
Breached (Err f) = f ≡ Breach
