-- What a shared supply owes.
--   marked_among              marks that are among others are no more
--   in_take, off_take         what is marked in the first so many is marked; what is not marked is not marked there
--   lesser_left, lesser_right   the lesser of two is at most either
--   shares_sound              no more is allowed than its size less what is out, and no number is out that is barred
use Rattle.std.specs.Prelude.{◌≡◌, ℕ, suc, ◌-◌, ◌<◌, ◌≤◌, Bool, true, false, cond, List, [], ◌∷◌, length, take, nat_eq, slice_index_or, refl}
use Rattle.std.proofs.Common.{sym, ap, ◌∙◌, ⊎_elim, length-take, arith}
use Rattle.std.proofs.lemmas.Bool.{both_ways, cases_lt}
use Rattle.std.proofs.lemmas.Bool.Decides.{nat_tests}
use Rattle.std.proofs.lemmas.List.Sums.{sum_by-cons}
use Rattle.std.proofs.lemmas.List.{get_or-take, get_or_past}
use Rattle.supply.specs.Stocks.{Stock, size_of, barred_by, outs_of, kept_size, marked, Sound}
use Rattle.supply.specs.Shares.{lesser, share_stock, Lent, Divided}

pub marked_among : (m m' : List Bool) → ((n : ℕ) → slice_index_or m n false ≡ true → slice_index_or m' n false ≡ true) → marked m ≤ marked m'
marked_among [] m' f = omega arith
marked_among (true ∷ m) [] f = absurd (both_ways false refl (f 0 refl))
marked_among (false ∷ m) [] f = omega (arith, sum_by-cons (λ b. cond b 1 0) false m, marked_among m [] (λ n e. f (suc n) e))
marked_among (true ∷ m) (b ∷ m') f =
    let z : ◌≡◌ {A = ℕ} (cond b 1 0) 1 = ap (λ c. cond c 1 0) (f 0 refl) in
    omega (arith, sum_by-cons (λ b. cond b 1 0) true m, sum_by-cons (λ b. cond b 1 0) b m', z, marked_among m m' (λ n e. f (suc n) e))
marked_among (false ∷ m) (b ∷ m') f =
    omega (arith, sum_by-cons (λ b. cond b 1 0) false m, sum_by-cons (λ b. cond b 1 0) b m', marked_among m m' (λ n e. f (suc n) e))

pub in_take : (size : ℕ) (m : List Bool) (n : ℕ) → slice_index_or (take size m) n false ≡ true → slice_index_or m n false ≡ true
in_take size m n e =
    ⊎_elim
    (λ (l : n < size). sym (get_or-take size m n false l) ∙ e)
    (λ (l : size ≤ n). absurd (both_ways false refl (sym (get_or_past (take size m) n false (omega (arith, length-take size m))) ∙ e)))
    (cases_lt n size)

pub off_take : (size : ℕ) (m : List Bool) (n : ℕ) → slice_index_or m n false ≡ false → slice_index_or (take size m) n false ≡ false
off_take size m n e = go (slice_index_or (take size m) n false) refl
  where
    go : (b : Bool) → slice_index_or (take size m) n false ≡ b → b ≡ false
    go true q = absurd (both_ways false refl (sym e ∙ in_take size m n q))
    go false q = refl

pub lesser_left : (a b : ℕ) → lesser a b ≤ a
lesser_left a b = grind (arith, nat_tests)

pub lesser_right : (a b : ℕ) → lesser a b ≤ b
lesser_right a b = grind (arith, nat_tests)

module _ (B : Stock) (size c limit : ℕ) (m : List Bool) (limit' : ℕ) (m' : List Bool) (sound : Sound B) (sized : size ≡ kept_size (size_of B)) (lent : Lent B m) (lent' : Lent B m') (divided : Divided m m') where
  few : marked (take size m) ≤ outs_of B
  few = marked_among (take size m) B.marks (λ n e. lent n (in_take size m n e))

  kept : (size ≡ 0) → cond (nat_eq size 0) 0 (lesser (limit - marked (take size m)) B.allowance) ≡ 0
  kept e = grind (arith, nat_tests)

  allowed : cond (nat_eq size 0) 0 (lesser (limit - marked (take size m)) B.allowance) ≤ B.allowance
  allowed = grind (arith, nat_tests, lesser_right (limit - marked (take size m)) B.allowance)

  size_small : size ≤ 4096
  size_small = omega (arith, most)
    where
      most : kept_size (size_of B) ≤ 4096
      most = grind (arith, nat_tests)

  size_same : 0 < size → size ≡ size_of B
  size_same l = grind (arith, nat_tests)

  pub shares_sound : length m ≡ 4096 → Sound (share_stock B size c limit m limit' m')
  shares_sound long = record {
    within = ⊎_elim
        (λ (l : 0 < size). omega (arith, allowed, few, sound.within, size_same l, length-take size m, size_small, long))
        (λ (l : size ≤ 0). let z : size ≡ 0 = omega arith in omega (arith, kept z, length-take size m, Rattle.std.proofs.lemmas.List.Sums.count_by-le-length (λ b. b) (take size m)))
        (cases_lt 0 size);
    small = omega (arith, length-take size m, size_small);
    apart = λ n o.
        let out = in_take size m n o in
        ap (λ b. cond b true (barred_by B.aside.barred n)) (off_take size m' n (divided n out)) ∙ sound.apart n (lent n out);
  }
