-- A decade among numbers. Assumes nothing.
--     decade_wide    a decade is wide: it is the same as the numbers that it begins
use Rattle.std.proofs.Common.{◌≡◌, ℕ, ◌*◌, ◌+◌, ◌/◌, Ordering, sym, refl, arith}
use Rattle.std.specs.Ordering.{nat_cmp}
use Rattle.order.specs.Wide.{Wide}
use Rattle.order.proofs.Wide.{same_cmp, cmp_same}
use Rattle.order.specs.declared.blend.BlendNumber.{BlendNumber}
use Rattle.replaying.specs.declared.decade.Decade.{Decade}

abbrev by_number : BlendNumber → BlendNumber → Ordering
by_number a b = nat_cmp a.number b.number

abbrev by_tens : Decade → BlendNumber → Ordering
by_tens q k = nat_cmp q.tens (k.number / 10)

abbrev blend : ℕ → BlendNumber
blend n = record { number = n }

apart : (n : ℕ) → n ≡ n + 1 → ⊥
apart n e = omega arith

pub decade_wide : Wide by_number by_tens (λ q k. k.number / 10 ≡ q.tens)
decade_wide = record {
  every = λ q k e. same_cmp q.tens (k.number / 10) (sym e);
  no_other = λ q k e. sym (cmp_same q.tens (k.number / 10) e);
  several = λ q. (blend (10 * q.tens), blend (10 * q.tens + 1), same_cmp q.tens (10 * q.tens / 10) (omega arith), same_cmp q.tens ((10 * q.tens + 1) / 10) (omega arith), λ e. apart (10 * q.tens) (cmp_same (10 * q.tens) (10 * q.tens + 1) e));
  not_pointed = λ p. apart 0 (cmp_same 0 1 (p.single (record { tens = 0 }) (blend 0) (blend 1) refl refl));
}
