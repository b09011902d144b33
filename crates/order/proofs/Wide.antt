-- A day among stamps. Assumes nothing.
--     day_wide       a day is wide: it is the same as the stamps of that day
--     days_worked    the worked search
use Rattle.std.proofs.Common.{◌≡◌, ℕ, Ordering, Less, Equal, refl, sym, subst, arith}
use Rattle.std.specs.Ordering.{nat_cmp, ordering_then}
use Rattle.std.proofs.lemmas.Bool.Decides.{nat_tests}
use Rattle.order.specs.Wide.{Wide, DaysWorked, day, stamp}
use Rattle.order.specs.declared.day.Day.{Day}
use Rattle.order.specs.declared.stamp.BatchStamp.{BatchStamp}

pub same_cmp : (a b : ℕ) → a ≡ b → nat_cmp a b ≡ Equal
same_cmp a b e = grind (arith, nat_tests)

pub cmp_same : (a b : ℕ) → nat_cmp a b ≡ Equal → a ≡ b
cmp_same a b e = grind (arith, nat_tests)

pub less_not : Less ≡ Equal → ⊥
less_not z = let y : ◌≡◌ {A = ℕ} 0 1 = cc in omega arith

abbrev by_stamp : BatchStamp → BatchStamp → Ordering
by_stamp a b = ordering_then (nat_cmp a.day b.day) (nat_cmp a.number b.number)

abbrev by_day : Day → BatchStamp → Ordering
by_day q k = nat_cmp q.day k.day

-- two batches of one day are not the same
day_first : (q : Day) → by_stamp (stamp q.day 0) (stamp q.day 1) ≡ Equal → ⊥
day_first q e = less_not (subst (λ o. ordering_then o Less ≡ Equal) (same_cmp q.day q.day refl) e)

pub day_wide : Wide by_stamp by_day (λ q k. k.day ≡ q.day)
day_wide = record {
  every = λ q k e. same_cmp q.day k.day (sym e);
  no_other = λ q k e. sym (cmp_same q.day k.day e);
  several = λ q. (stamp q.day 0, stamp q.day 1, same_cmp q.day q.day refl, same_cmp q.day q.day refl, day_first q);
  not_pointed = λ p. less_not (p.single (day 0) (stamp 0 0) (stamp 0 1) refl refl);
}

pub days_worked : DaysWorked by_day
days_worked = refl
