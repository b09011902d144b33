-- What the exit of a `?` returns. Assumes nothing.
use Rattle.std.proofs.Common.{◌≡◌, IsErrAnd, MatchResult, Ok, Err, Result, ◌∙◌}
use Rattle.supply.specs.declared.faults.Fault.{Fault}
use Rattle.supply.specs.declared.faults.Fault.TheVariants.{Breach}
use Rattle.node.specs.Breaches.{Breached}

-- a refusal for a breach
pub breached_by : {X : Type 0} (r : Result X Fault) (y : Fault) → IsErrAnd r (λ z. z ≡ y) → y ≡ Breach → Breached r
breached_by (Ok x) y e q = tt
breached_by (Err z) y e q = e ∙ q

-- the same, with what it says besides
pub refused_by : {X : Type 0} (r : Result X Fault) (P : X → Type 0) (N : Type 0) (y : Fault) → IsErrAnd r (λ z. z ≡ y) → y ≡ Breach → N → MatchResult r P (λ f. (f ≡ Breach) × N)
refused_by (Ok x) P N y e q n = absurd e
refused_by (Err z) P N y e q n = (e ∙ q, n)
