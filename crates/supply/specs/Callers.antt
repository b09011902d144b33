-- The callers of a shared supply.
--   caller_number    the number of a caller: 0 or 1
--   Numbered         the caller with a number, if there is one
use Rattle.std.specs.Prelude.{◌≡◌, ℕ, ◌<◌, Option, MatchOption}
use Rattle.supply.specs.declared.callers.Caller.{Caller}
use Rattle.supply.specs.declared.callers.Caller.TheVariants.{First, Second}

abbrev pub caller_number : Caller → ℕ
caller_number First = 0
caller_number Second = 1

abbrev pub Numbered : ℕ → Option Caller → Type 0
Numbered n r = MatchOption r (1 < n) (λ c. caller_number c ≡ n)
