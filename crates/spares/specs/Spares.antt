-- A check whether numbers can be had.
--   Took s t list k    k numbers were taken one after the other, which led from s to t, and stand in the list from its front
--   TakesInto          that, and that it stopped before `count` only where no more may be taken
--   Held s k list      the first k places of the list hold numbers that can be taken from s one after the other: below the size, all
--                      different, none of which is out or barred
--   Checked            what the check does: the supply means what it did before; with room for k numbers it answers yes exactly where so many may be
--                      taken, and then the list holds such; with less room it answers that there is no list, and nothing at all has changed
use Rattle.std.specs.Prelude.{◌≡◌, ◌≢◌, ℕ, zero, suc, ◌<◌, ◌≤◌, false, List, length, slice_index, ◌⊎◌}
use Rattle.supply.specs.Stocks.{Stock, size_of, is_out, is_barred, Given}
use Rattle.spares.specs.declared.Spare.{Spare}
use Rattle.spares.specs.declared.Spare.TheVariants.{Yes, No, NoList}

unfoldable pub Took : Stock → Stock → List ℕ → ℕ → Type 0
Took s t list zero = t ≡ s
Took s t list (suc k) = (u : Stock) × Took s u list k × Given u t (slice_index list k)

pub record TakesInto (s t : Stock) (list list' : List ℕ) (count k : ℕ) : Type 0 where
  pub took : Took s t list' k
  pub size : length list' ≡ length list
  pub all : (k ≡ count) ⊎ ((k < count) × (t.allowance ≡ 0))

pub record Held (s : Stock) (k : ℕ) (list : List ℕ) : Type 0 where
  pub taken : (t : Stock) × Took s t list k
  pub below : (i : ℕ) → i < k → slice_index list i < size_of s
  pub unused : (i : ℕ) → i < k → is_out s (slice_index list i) ≡ false
  pub allowed : (i : ℕ) → i < k → is_barred s (slice_index list i) ≡ false
  pub apart : (i j : ℕ) → i < j → j < k → slice_index list i ≢ slice_index list j

pub record Checked {S : Type 0} (supply supply' : S) (s s' : Stock) (k : ℕ) (list list' : List ℕ) (r : Spare) : Type 0 where
  pub same : s' ≡ s
  pub no_list : length list < k → (r ≡ NoList) × (supply' ≡ supply) × (list' ≡ list)
  pub yes : k ≤ length list → k ≤ s.allowance → (r ≡ Yes) × Held s' k list'
  pub no : k ≤ length list → s.allowance < k → r ≡ No
