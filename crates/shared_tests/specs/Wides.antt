-- A supply of 5,000 numbers, of which the first alone may be taken.
--   wide_stock b     the first is out where b is true
--   wide_sound       what every supply owes
use Rattle.std.specs.Prelude.{◌≡◌, ℕ, ◌+◌, ◌<◌, ◌^◌, Bool, true, false, cond, ◌∷◌, length, replicate, refl}
use Rattle.std.proofs.Common.{arith}
use Rattle.std.proofs.lemmas.List.{length-replicate}
use Rattle.std.proofs.lemmas.List.Sums.{sum_by-cons}
use Rattle.supply.specs.Stocks.{Stock, marked, nothing_aside, Sound}
use Rattle.supply.proofs.StockLaws.{none_marked}

abbrev pub one_of : ℕ → Bool → Stock
one_of n b = record { marks = b ∷ replicate n false; allowance = cond b 0 1; aside = nothing_aside }

abbrev pub wide_stock : Bool → Stock
wide_stock b = one_of 4999 b

pub outs_one : (n : ℕ) (b : Bool) → marked (b ∷ replicate n false) ≡ cond b 1 0
outs_one n b = omega (arith, sum_by-cons (λ b. cond b 1 0) b (replicate n false), none_marked n)

pub one_sound : (n : ℕ) (b : Bool) → n + 1 < 2 ^ 16 → Sound (one_of n b)
one_sound n true h = record { within = omega (arith, outs_one n true, length-replicate n false); small = omega (arith, length-replicate n false); apart = λ k o. refl }
one_sound n false h = record { within = omega (arith, outs_one n false, length-replicate n false); small = omega (arith, length-replicate n false); apart = λ k o. refl }

pub wide_sound : (b : Bool) → Sound (wide_stock b)
wide_sound b = one_sound 4999 b (omega arith)
