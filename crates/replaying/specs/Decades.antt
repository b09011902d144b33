-- Numbers by their decades. Assumes nothing.
--   tens_lead    of two numbers the lesser has no greater decade
use Rattle.std.specs.Prelude.{◌≡◌, ℕ, ◌/◌, true}
use Rattle.std.specs.Ordering.{is_le, nat_cmp}
use Rattle.std.proofs.Common.{◌≤◌, arith}
use Rattle.std.proofs.lemmas.Bool.Decides.{nat_tests}

tens_up : (a b : ℕ) → a ≤ b → a / 10 ≤ b / 10
tens_up a b l = omega arith

le_of : (a b : ℕ) → is_le (nat_cmp a b) ≡ true → a ≤ b
le_of a b e = grind (arith, nat_tests)

of_le : (a b : ℕ) → a ≤ b → is_le (nat_cmp a b) ≡ true
of_le a b l = grind (arith, nat_tests)

pub tens_lead : (a b : ℕ) → is_le (nat_cmp a b) ≡ true → is_le (nat_cmp (a / 10) (b / 10)) ≡ true
tens_lead a b e = of_le (a / 10) (b / 10) (tens_up a b (le_of a b e))
