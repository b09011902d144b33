-- The refusal that a fault below the bank becomes.
--   fault_code f   its number, and the values that go with it
use Rattle.std.specs.Prelude.{[], ◌∷◌}
use Rattle.supply.specs.declared.faults.Fault.{Fault}
use Rattle.supply.specs.declared.faults.Fault.TheVariants.{Breach, Short}
use Rattle.calls.specs.Refusals.{Code}

abbrev pub fault_code : Fault → Code
fault_code Breach = (5, [])
fault_code (Short needed allowance) = (6, needed ∷ allowance ∷ [])
