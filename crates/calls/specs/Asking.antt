-- What a rule sees of a call: its query is told by how it stands to each key.
--   Query           how a query stands to each key: `Greater` where the key is below the query
--   Asked           a call whose query is told by that alone
--   asked           what a call of the program asks
use Rattle.std.specs.Prelude.{ℕ}
use Rattle.std.specs.declared.cmp.Ordering.{Ordering}
use Rattle.node.specs.declared.ends.Side.{Side}
use Rattle.calls.specs.declared.calls.Call.{Call}
use Rattle.calls.specs.declared.calls.Call.TheVariants as C

abbrev pub Query : Type 0 → Type 0
Query K = K → Ordering

pub data Asked (K V : Type 0) : Type 0 where
  Insert : ℕ → K → V → Asked K V
  Lookup : ℕ → Query K → Asked K V
  Least : ℕ → Query K → Asked K V
  Count : ℕ → Asked K V
  Cut : ℕ → ℕ → Query K → Asked K V
  Open : ℕ → Asked K V
  Step : ℕ → Side → Asked K V
  Close : ℕ → Asked K V
  Release : ℕ → Asked K V
  Audit : Asked K V

-- a lookup is by a query of its own type
abbrev pub asked : {K V P Q : Type 0} → (P → Query K) → (Q → Query K) → Call K V P Q → Asked K V
asked points places (C.Insert p k v) = Insert p k v
asked points places (C.Lookup p q) = Lookup p (points q)
asked points places (C.Least p q) = Least p (places q)
asked points places (C.Count p) = Count p
asked points places (C.Cut p o q) = Cut p o (places q)
asked points places (C.Open p) = Open p
asked points places (C.Step p s) = Step p s
asked points places (C.Close p) = Close p
asked points places (C.Release p) = Release p
asked points places C.Audit = Audit
