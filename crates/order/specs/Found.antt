-- A search from the front. Assumes nothing.
--     first_not_below place keys      the index of the first key that is not below the query, or the number of keys
--     found_at place keys             whether there is such a key and it is the same as the query
--     comparisons place keys          the comparisons made: one for each key up to the one that stops the search
--     searched place keys             the index and the flag as one result
--     index_of r, is_found r          the two again
--     Stopped, Parted, Strict         what the keys before and after the index are to the query
-- `place k` is `Less` where the query is below the key `k`, so that `k` is below the query where it is `Greater`.
use Rattle.std.specs.Prelude.{◌≡◌, ℕ, ◌+◌, ◌<◌, ◌≤◌, Bool, true, false, cond, List, [], ◌∷◌, length, ◌≢◌, slice_index_or}
use Rattle.std.specs.declared.cmp.Ordering.TheVariants.{Less, Equal, Greater}
use Rattle.std.specs.declared.cmp.Ordering.{Ordering}
use Rattle.std.specs.Ordering.{is_eq}
use Rattle.order.specs.declared.search.SearchResult.{SearchResult}
use Rattle.order.specs.declared.search.SearchResult.TheVariants.{Found, GoDown}

-- ---- the answer, as it is computed

-- a key below the query is passed, and any other stops the search
abbrev pub passed : {X : Type 0} → Ordering → X → X → X → X
passed Less less equal greater = less
passed Equal less equal greater = equal
passed Greater less equal greater = greater

abbrev pub first_not_below : {K : Type 0} → (K → Ordering) → List K → ℕ
first_not_below place [] = 0
first_not_below place (k ∷ ks) = passed (place k) 0 0 (first_not_below place ks + 1)

abbrev pub found_at : {K : Type 0} → (K → Ordering) → List K → Bool
found_at place [] = false
found_at place (k ∷ ks) = passed (place k) false true (found_at place ks)

abbrev pub comparisons : {K : Type 0} → (K → Ordering) → List K → ℕ
comparisons place [] = 0
comparisons place (k ∷ ks) = passed (place k) 1 1 (comparisons place ks + 1)

abbrev pub searched : {K : Type 0} → (K → Ordering) → List K → SearchResult
searched place keys = cond (found_at place keys) (Found (first_not_below place keys)) (GoDown (first_not_below place keys))

abbrev pub index_of : SearchResult → ℕ
index_of (Found i) = i
index_of (GoDown i) = i

abbrev pub is_found : SearchResult → Bool
is_found (Found i) = true
is_found (GoDown i) = false

-- ---- what it says of the keys

-- of a row in any order: the query is above each key before `index` and not above the key there; `found` says that the two are the same
pub record Stopped {Q K : Type 0} (places : Q → K → Ordering) (keys : List K) (q : Q) (index : ℕ) (found : Bool) : Type 0 where
  pub within : index ≤ length keys
  pub before : (k : ℕ) (d : K) → k < index → places q (slice_index_or keys k d) ≡ Greater
  pub stops : (d : K) → index < length keys → places q (slice_index_or keys index d) ≢ Greater
  pub same : (d : K) → index < length keys → found ≡ is_eq (places q (slice_index_or keys index d))
  pub past : length keys ≤ index → found ≡ false

-- of a rising row: the query is above each key before `index` and above none from it on, so that it is below each of these that
-- it is not the same as; and below them all where it was not found
pub record Parted {Q K : Type 0} (places : Q → K → Ordering) (keys : List K) (q : Q) (index : ℕ) (found : Bool) : Type 0 where
  pub above : (k : ℕ) (d : K) → k < index → places q (slice_index_or keys k d) ≡ Greater
  pub not_above : (k : ℕ) (d : K) → index ≤ k → k < length keys → places q (slice_index_or keys k d) ≢ Greater
  pub below : (k : ℕ) (d : K) → index ≤ k → k < length keys → (places q (slice_index_or keys k d) ≢ Equal) → places q (slice_index_or keys k d) ≡ Less
  pub absent : (k : ℕ) (d : K) → found ≡ false → index ≤ k → k < length keys → places q (slice_index_or keys k d) ≡ Less

-- of a rising row and a query that stands at one place: the query is below each key after the one at `index`
pub record Strict {Q K : Type 0} (places : Q → K → Ordering) (keys : List K) (q : Q) (index : ℕ) : Type 0 where
  pub after : (k : ℕ) (d : K) → index < k → k < length keys → places q (slice_index_or keys k d) ≡ Less
