-- The calls of one of two callers: as a run, but between two of its calls the other may have taken and given back numbers, which changes
-- what may be taken, and nothing else that this caller means.
--   Resumed S S'             the same numbers are out
--   SharedRuns past S bs     these calls, the last one first, led from sixteen bare places to these books
use Rattle.std.specs.Prelude.{◌≡◌, List, [], ◌∷◌, replicate}
use Rattle.std.specs.declared.cmp.Ordering.{Ordering}
use Rattle.supply.specs.Stocks.{Stock}
use Rattle.books.specs.Books.{Book, bare}
use Rattle.calls.specs.Runs.{Event, Next}

pub record Resumed (S S' : Stock) : Type 0 where
  pub marks : S'.marks ≡ S.marks

unfoldable pub SharedRuns : {K V : Type 0} → (K → K → Ordering) → List (Event K V) → Stock → List (Book (K × V)) → Type 0
SharedRuns compares [] S bs = bs ≡ replicate 16 bare
SharedRuns {K} {V} compares (ev ∷ past) S'' bs' = (S : Stock) × (S' : Stock) × (bs : List (Book (K × V))) × SharedRuns compares past S bs × Resumed S S' × Next compares ev S' bs S'' bs'
