-- The order in which numbers are given.
--   EachOnce list     each number below the length of the list stands in it, and stands there once
--   order_of          the list as it was written: the first `size` cells
--   trial_stock       the marks of the numbers below the size as a stock, in which every number that is not out may be taken and none is barred
--   Accepted          a list is the order, and none of its numbers is out
--   Rejected          a list is not each number once, or has more than 4096, and there are no numbers
--   Written           what writing a list does: it is Accepted or Rejected
--   Next              the number at a place of the list, all before which are out
--   TookNext          the number taken is the Next one
use Rattle.std.specs.Prelude.{◌≡◌, ℕ, ◌<◌, ◌≤◌, Bool, true, List, length, take, count_by, nat_eq, IfOk, Result, MatchResult, slice_index}
use Rattle.supply.specs.declared.faults.Fault.{Fault}
use Rattle.supply.specs.Stocks.{Stock, is_out, counted, fresh}
use Rattle.trial.specs.declared.refusals.WrongOrder.{WrongOrder}

abbrev pub EachOnce : List ℕ → Type 0
EachOnce list = (n : ℕ) → n < length list → count_by (λ x. nat_eq x n) list ≡ 1

abbrev pub order_of : ℕ → List ℕ → List ℕ
order_of size cells = take size cells

abbrev pub trial_stock : ℕ → List Bool → Stock
trial_stock size out = counted (take size out)

pub record Accepted (list order : List ℕ) (s : Stock) : Type 0 where
  pub short : length list ≤ 4096
  pub each : EachOnce list
  pub order_is : order ≡ list
  pub unused : s ≡ fresh (length list)

pub record Rejected (list : List ℕ) (s : Stock) : Type 0 where
  pub wrong : length list ≤ 4096 → EachOnce list → ⊥
  pub none : s ≡ fresh 0

abbrev pub Written : List ℕ → List ℕ → Stock → Result (Unit {0}) WrongOrder → Type 0
Written list order s r = MatchResult r (λ _. Accepted list order s) (λ _. Rejected list s)

pub record Next (list : List ℕ) (before : Stock) (n : ℕ) : Type 0 where
  pub place : ℕ
  pub within : place < length list
  pub there : slice_index list place ≡ n
  pub passed : (j : ℕ) → j < place → is_out before (slice_index list j) ≡ true

abbrev pub TookNext : List ℕ → Stock → Result ℕ Fault → Type 0
TookNext list before r = IfOk r (Next list before)
