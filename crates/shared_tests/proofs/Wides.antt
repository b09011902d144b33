-- One number of a supply stands for itself, and no other is out.
use Rattle.std.specs.Prelude.{◌≡◌, ◌≢◌, ℕ, zero, suc, Bool, false, nat_eq, ◌∷◌, replicate, slice_index_or, refl}
use Rattle.std.proofs.Common.{sym, ◌∙◌}
use Rattle.std.proofs.Math.Dec.{eqb-suc-zero}
use Rattle.shared_tests.specs.Wides.{one_of}
use Rattle.supply.specs.Stocks.{is_out}

none_in : (n k : ℕ) → slice_index_or (replicate n false) k false ≡ false
none_in zero k = refl
none_in (suc n) zero = refl
none_in (suc n) (suc k) = none_in n k

pub first_alone : (n k : ℕ) (b : Bool) → k ≢ 0 → is_out (one_of n b) k ≡ false
first_alone n zero b h = absurd (h refl)
first_alone n (suc k) b h = none_in n k

pub first_decides : (n k : ℕ) (b : Bool) → k ≢ 0 → nat_eq k 0 ≡ is_out (one_of n b) k
first_decides n zero b h = absurd (h refl)
first_decides n (suc k) b h = eqb-suc-zero k ∙ sym (none_in n k)
