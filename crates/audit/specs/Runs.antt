-- Keys that come in order.
--   Above c l k      k is above the last key, if there is one
--   Chained c l ks   so is each of ks above the one before it
--   last_of l ks     the last key after ks
--   Notes c ks r     a run takes the keys ks: they are chained, and as many are to come
--   noted ks r       the run after that
use Rattle.std.specs.Prelude.{◌≡◌, ◌-◌, ◌≤◌, List, [], ◌∷◌, length, Some, None, Option}
use Rattle.std.specs.declared.cmp.Ordering.{Ordering}
use Rattle.std.specs.declared.cmp.Ordering.TheVariants.{Less}
use Rattle.audit.specs.declared.runs.Run.{Run}

abbrev pub Above : {K : Type 0} → (K → K → Ordering) → Option K → K → Type 0
Above compares None k = Unit {0}
Above compares (Some l) k = compares l k ≡ Less

abbrev pub Chained : {K : Type 0} → (K → K → Ordering) → Option K → List K → Type 0
Chained compares l [] = Unit {0}
Chained compares l (k ∷ ks) = Above compares l k × Chained compares (Some k) ks

abbrev pub last_of : {K : Type 0} → Option K → List K → Option K
last_of l [] = l
last_of l (k ∷ ks) = last_of (Some k) ks

pub record Notes {K : Type 0} (compares : K → K → Ordering) (ks : List K) (r : Run K) : Type 0 where
  pub chained : Chained compares r.last ks
  pub fits : length ks ≤ r.left

abbrev pub noted : {K : Type 0} → List K → Run K → Run K
noted ks r = record { last = last_of r.last ks; left = r.left - length ks }
