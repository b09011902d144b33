-- The law that the supply for trials owes: never more allowed than the size less what is out.
--   trial_sound   so it is, whatever is out
use Rattle.std.specs.Prelude.{ℕ, ◌≤◌, Bool, List, take}
use Rattle.std.proofs.Common.{length-take, arith}
use Rattle.supply.specs.Stocks.{Sound}
use Rattle.supply.specs.StockLaws.{counted_sound}
use Rattle.trial.specs.Orders.{trial_stock}

pub trial_sound : (size : ℕ) (out : List Bool) → size ≤ 4096 → Sound (trial_stock size out)
trial_sound size out h = counted_sound (take size out) (omega (arith, length-take size out))
