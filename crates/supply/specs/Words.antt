-- What words of 64 bits mean as marks.
--   digits      the binary digits of a number, lowest first
--   spread      the 64 digits of each word in turn
--   bit_stock    the words as a stock of so many numbers
--   TookLowest  the number taken was the lowest that was not out
use Rattle.std.specs.Prelude.{◌≡◌, ℕ, zero, suc, ◌/◌, ◌%◌, ◌<◌, Bool, true, List, [], ◌∷◌, ◌++◌, take, IfOk, Result, ◌==◌}
use Rattle.supply.specs.declared.faults.Fault.{Fault}
use Rattle.supply.specs.Stocks.{Stock, is_out, counted}

-- the k lowest binary digits of n, lowest first
unfoldable pub digits : ℕ → ℕ → List Bool
digits zero n = []
digits (suc k) n = (n % 2 == 1) ∷ digits k (n / 2)

unfoldable pub spread : List ℕ → List Bool
spread [] = []
spread (w ∷ ws) = digits 64 w ++ spread ws

abbrev pub bit_stock : ℕ → List ℕ → Stock
bit_stock size words = counted (take size (spread words))

abbrev pub TookLowest : Stock → Result ℕ Fault → Type 0
TookLowest before r = IfOk r (λ n. (k : ℕ) → k < n → is_out before k ≡ true)
