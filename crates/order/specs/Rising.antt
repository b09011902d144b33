-- Rows of keys in order. Assumes nothing.
--     Rising compares keys      each key is below each that comes after it
use Rattle.std.specs.Prelude.{◌≡◌, ℕ, ◌<◌, List, length, slice_index_or}
use Rattle.std.specs.declared.cmp.Ordering.TheVariants.{Less}
use Rattle.std.specs.declared.cmp.Ordering.{Ordering}

abbrev pub Rising : {K : Type 0} → (K → K → Ordering) → List K → Type 0
Rising {K} compares keys = (i j : ℕ) (d : K) → i < j → j < length keys → compares (slice_index_or keys i d) (slice_index_or keys j d) ≡ Less
