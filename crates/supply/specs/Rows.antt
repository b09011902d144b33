-- A row of numbers that are not out, each with a link to the next.
--   row_of       the numbers of the row in their order: the one at its head, then the one that its link leads to, and so on
--   link_marks   which numbers below the size are out: those with the link 65535
--   link_stock   the links as a stock
--   TookFirst   the number taken was the first of the row, and the rest is left
--   PutFirst    the number given back stands first, and the row as it was behind it
--   Rising      each number has a link to the number after it
--   Below       each number of the row is below the size
--   Unused      none of them is out
--   Apart       no two of them are the same
--   IsRow       all three of a row
--   Chained     size, numbers left, head and links are those of a chain: its row has each number that is not out, and those alone
use Rattle.std.specs.Prelude.{◌≡◌, ℕ, zero, suc, ◌+◌, ◌<◌, ◌≤◌, Bool, List, [], ◌∷◌, map, length, take, Result, MatchResult, ◌≢◌, nat_eq, slice_index}
use Rattle.supply.specs.declared.faults.Fault.{Fault}
use Rattle.supply.specs.Stocks.{Stock, counted, marked}

abbrev pub row_of : List ℕ → ℕ → ℕ → List ℕ
row_of links head zero = []
row_of links head (suc left) = head ∷ row_of links (slice_index links head) left

unfoldable pub link_marks : ℕ → List ℕ → List Bool
link_marks size links = map (λ x. nat_eq x 65535) (take size links)

abbrev pub link_stock : ℕ → List ℕ → Stock
link_stock size links = counted (link_marks size links)

abbrev pub TookFirst : List ℕ → List ℕ → Result ℕ Fault → Type 0
TookFirst before after r = MatchResult r (λ n. before ≡ n ∷ after) (λ _. after ≡ before)

abbrev pub PutFirst : List ℕ → List ℕ → ℕ → Result (Unit {0}) Fault → Type 0
PutFirst before after n r = MatchResult r (λ _. after ≡ n ∷ before) (λ _. after ≡ before)

abbrev pub Rising : List ℕ → ℕ → Type 0
Rising links n = (k : ℕ) → k < n → slice_index links k ≡ k + 1

abbrev pub Below : ℕ → List ℕ → Type 0
Below size row = (i : ℕ) → i < length row → slice_index row i < size

abbrev pub Unused : List ℕ → List ℕ → Type 0
Unused links row = (i : ℕ) → i < length row → slice_index links (slice_index row i) ≢ 65535

abbrev pub Apart : List ℕ → Type 0
Apart row = (i j : ℕ) → i < j → j < length row → slice_index row i ≢ slice_index row j

abbrev pub IsRow : ℕ → List ℕ → List ℕ → Type 0
IsRow size links row = Below size row × Unused links row × Apart row

pub record Chained (size left head : ℕ) (links : List ℕ) : Type 0 where
  pub fits : size ≤ 4096
  pub counts : left + marked (link_marks size links) ≡ size
  pub inner : head < 65535
  pub below : Below size (row_of links head left)
  pub unused : Unused links (row_of links head left)
  pub apart : Apart (row_of links head left)
