-- Lookups in a row of keys with a value beside each.
--   Beside      no value where no key was found, and else the value at the index
use Rattle.std.specs.Prelude.{◌≡◌, ℕ, Bool, true, false, List, Option, MatchOption, slice_index_or}

abbrev pub Beside : {V : Type 0} → Bool → List V → ℕ → Option V → Type 0
Beside {V} found values index value = MatchOption value (found ≡ false) (λ v. (found ≡ true) × ((d : V) → v ≡ slice_index_or values index d))
