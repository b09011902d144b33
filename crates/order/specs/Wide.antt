-- Queries that are the same as a whole stretch of keys. Assumes nothing.
--     Wide compares places In     a query is the same as every key that is in it, and as no other; some two of them are not the same as each other,
--                                 so that such queries do not stand at one place
--     searches                    the index and the flag of a search in a row, for each of some queries
--     DaysWorked                  five days looked for in a row of stamps, of which three are of one day
use Rattle.std.specs.Prelude.{◌≡◌, ◌≢◌, ℕ, Bool, true, false, List, [], ◌∷◌, map}
use Rattle.std.specs.declared.cmp.Ordering.{Ordering}
use Rattle.std.specs.declared.cmp.Ordering.TheVariants.{Equal}
use Rattle.order.specs.Found.{first_not_below, found_at}
use Rattle.order.specs.Laws.{Pointed}
use Rattle.order.specs.declared.day.Day.{Day}
use Rattle.order.specs.declared.stamp.BatchStamp.{BatchStamp}

pub record Wide {K Q : Type 0} (compares : K → K → Ordering) (places : Q → K → Ordering) (In : Q → K → Type 0) : Type 0 where
  pub every : (q : Q) (k : K) → In q k → places q k ≡ Equal
  pub no_other : (q : Q) (k : K) → places q k ≡ Equal → In q k
  pub several : (q : Q) → (a : K) × (b : K) × (places q a ≡ Equal) × (places q b ≡ Equal) × (compares a b ≢ Equal)
  pub not_pointed : Pointed compares places → ⊥

abbrev pub searches : {K Q : Type 0} → (Q → K → Ordering) → List K → List Q → List (ℕ × Bool)
searches places keys qs = map (λ q. (first_not_below (places q) keys, found_at (places q) keys)) qs

abbrev pub stamp : ℕ → ℕ → BatchStamp
stamp day number = record { day = day; number = number }

abbrev pub day : ℕ → Day
day n = record { day = n }

-- of several that are the same as the query the search answers the first, and of none the first above
abbrev pub DaysWorked : (Day → BatchStamp → Ordering) → Type 0
DaysWorked places =
    searches places (stamp 3 65535 ∷ stamp 4 0 ∷ stamp 4 1 ∷ stamp 4 65535 ∷ stamp 4294967295 0 ∷ []) (map day (2 ∷ 3 ∷ 4 ∷ 5 ∷ 4294967295 ∷ []))
    ≡ (0, false) ∷ (0, true) ∷ (1, true) ∷ (4, false) ∷ (4, true) ∷ []
