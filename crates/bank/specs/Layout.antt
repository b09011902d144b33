-- Laying out, from which every run begins.
--   Unused n S       the supply has n numbers, and none of them is out
--   FitsAlone s      the tables fit together
--   UnusedSupply s   the supply is unused, with a number for each head
--   laid s           the same tables and supply, the size of the tables, and sixteen bare places
--   LaysOut          of any content: refused for the tables, or for the supply, with nothing changed; else granted, and a run begins
use Rattle.std.specs.Prelude.{◌≡◌, ℕ, [], length, Ok, Err, Result, replicate}
use Rattle.std.specs.declared.cmp.Ordering.{Ordering}
use Rattle.supply.specs.Stocks.{Stock, size_of, outs_of}
use Rattle.books.specs.declared.places.Place.TheVariants as P
use Rattle.books.specs.Books.{bare}
use Rattle.calls.specs.Refusals.{Code}
use Rattle.calls.specs.Runs.{Runs}
use Rattle.books.specs.States.{State, Models}
use Rattle.bank.specs.Gate.{Fits}

abbrev pub FitsAlone : {K V : Type 0} → State K V → Type 0
FitsAlone s = Fits (length s.tables.heads) (length s.tables.keys) (length s.tables.values)

pub record Unused (n : ℕ) (S : Stock) : Type 0 where
  pub size : size_of S ≡ n
  pub none : outs_of S ≡ 0

abbrev pub UnusedSupply : {K V : Type 0} → State K V → Type 0
UnusedSupply s = Unused (length s.tables.heads) s.stock

abbrev pub laid : {K V : Type 0} → State K V → State K V
laid s = record { tables = s.tables; size = length s.tables.heads; places = replicate 16 P.Bare; stock = s.stock }

pub record LaysOut {K V : Type 0} (compares : K → K → Ordering) (s s' : State K V) (r : Result (Unit {0}) Code) : Type 0 where
  pub misfit : (FitsAlone s → ⊥) → (r ≡ Err (1, [])) × (s' ≡ s)
  pub taken : FitsAlone s → (UnusedSupply s → ⊥) → (r ≡ Err (2, [])) × (s' ≡ s)
  pub granted : FitsAlone s → UnusedSupply s → (r ≡ Ok tt) × (s' ≡ laid s)
  pub models : FitsAlone s → UnusedSupply s → Models compares s' (replicate 16 bare)
  pub begins : Runs {K = K} {V = V} compares [] s'.stock (replicate 16 bare)
