-- Lists in which each number below their length stands once. Assumes nothing.
use Rattle.std.proofs.Common.{◌≡◌, ℕ, zero, suc, ◌+◌, ◌-◌, ◌<◌, ◌≤◌, Bool, true, false, cond, eqb, ltb, List, [], ◌∷◌, length, get_or, set, take, replicate, sym, refl, ap, subst, ⊎_elim, arith}
use Rattle.std.specs.List.{count_by}
use Rattle.std.proofs.lemmas.List.Sums.{sum_by-cons, sum_by_more, sum_by-take-le, count_by-le-length}
use Rattle.std.proofs.lemmas.List.{get_or-set_same, get_or-set_other, get_or-replicate, get_or_past, length-set, length-replicate, take_all}
use Rattle.std.proofs.lemmas.Bool.{cases_lt, cases_eq, eq-eqb, ne_eqb, lt-ltb, le-ltb}
use Rattle.std.proofs.lemmas.Bool.Decides.{nat_tests}
use Rattle.trial.specs.Orders.{EachOnce}

-- how often n stands in a list, and how many of its numbers are below k
abbrev pub times : ℕ → List ℕ → ℕ
times n l = count_by (λ x. eqb x n) l

abbrev pub under : ℕ → List ℕ → ℕ
under k l = count_by (λ x. ltb x k) l

one : (x k : ℕ) → ◌≡◌ {A = ℕ} (cond (ltb x (suc k)) 1 0) (cond (ltb x k) 1 0 + cond (eqb x k) 1 0)
one x k = grind (arith, nat_tests)

under_none : (l : List ℕ) → under 0 l ≡ 0
under_none [] = refl
under_none (x ∷ xs) = omega (arith, sum_by-cons (λ y. cond (ltb y 0) 1 0) x xs, ap (λ b. cond {A = ℕ} b 1 0) (le-ltb x 0 (omega arith)), under_none xs)

under_more : (k : ℕ) (l : List ℕ) → under (suc k) l ≡ under k l + times k l
under_more k [] = refl
under_more k (x ∷ xs) =
    omega (arith, sum_by-cons (λ y. cond (ltb y (suc k)) 1 0) x xs, sum_by-cons (λ y. cond (ltb y k) 1 0) x xs, sum_by-cons (λ y. cond (eqb y k) 1 0) x xs, one x k, under_more k xs)

-- a list all of whose numbers are below n
pub under_all : (n : ℕ) (l : List ℕ) → ((i : ℕ) → i < length l → get_or l i 0 < n) → under n l ≡ length l
under_all n [] f = refl
under_all n (x ∷ xs) f =
    omega (arith, sum_by-cons (λ y. cond (ltb y n) 1 0) x xs, ap (λ b. cond {A = ℕ} b 1 0) (lt-ltb x n (f 0 (omega arith))), under_all n xs (λ i q. f (suc i) (omega arith)))

first_or : (n x : ℕ) (xs : List ℕ) → x < n → ((j : ℕ) → j < length xs → get_or xs j 0 < n) → (i : ℕ) → i < suc (length xs) → get_or (x ∷ xs) i 0 < n
first_or n x xs p f zero q = p
first_or n x xs p f (suc i) q = f i (omega arith)

pub under_full : (n : ℕ) (l : List ℕ) → under n l ≡ length l → (i : ℕ) → i < length l → get_or l i 0 < n
under_full n [] e i q = absurd (omega arith)
under_full n (x ∷ xs) e i q =
    let s = sum_by-cons (λ y. cond (ltb y n) 1 0) x xs in
    let m = count_by-le-length (λ y. ltb y n) xs in
    ⊎_elim (λ p. first_or n x xs p (under_full n xs (omega (arith, e, s, ap (λ b. cond {A = ℕ} b 1 0) (lt-ltb x n p)))) i q)
    (λ p. absurd (omega (arith, e, s, m, ap (λ b. cond {A = ℕ} b 1 0) (le-ltb x n p)))) (cases_lt x n)

-- a number that stands in a list has a place there
pub place_of : (n : ℕ) (l : List ℕ) → 0 < times n l → (i : ℕ) × (i < length l) × (get_or l i 0 ≡ n)
place_of n [] h = absurd (omega arith)
place_of n (x ∷ xs) h = ⊎_elim (λ e. (0, omega arith, e)) (λ d. behind (place_of n xs (omega (arith, sum_by-cons (λ y. cond (eqb y n) 1 0) x xs, ap (λ b. cond {A = ℕ} b 1 0) (ne_eqb x n d))))) (cases_eq x n)
  where
    behind : (i : ℕ) × (i < length xs) × (get_or xs i 0 ≡ n) → (i : ℕ) × (i < length (x ∷ xs)) × (get_or (x ∷ xs) i 0 ≡ n)
    behind p = (suc p.0, omega (arith, p.1), p.2)

-- ---- each once

module _ (l : List ℕ) (most : (n : ℕ) → times n l ≤ 1) where
  few : (k : ℕ) → under k l ≤ k
  few zero = omega (arith, under_none l)
  few (suc k) = omega (arith, under_more k l, few k, most k)

  rest : (k d : ℕ) → under (k + d) l ≤ under k l + d
  rest k zero = let e : k + 0 ≡ k = omega arith in omega (arith, ap (λ j. under j l) e)
  rest k (suc d) = let e : k + suc d ≡ suc (k + d) = omega arith in omega (arith, ap (λ j. under j l) e, under_more (k + d) l, rest k d, most (k + d))

  -- as many numbers, none twice and none too high: each is there
  pub each_there : under (length l) l ≡ length l → EachOnce l
  each_there all n q =
      let d : ℕ = length l - suc n in
      let e : suc n + d ≡ length l = omega arith in
      omega (arith, rest (suc n) d, ap (λ j. under j l) e, all, under_more n l, few n, most n)

pub once_under : (l : List ℕ) → EachOnce l → (k : ℕ) → k ≤ length l → under k l ≡ k
once_under l each zero q = under_none l
once_under l each (suc k) q = omega (arith, under_more k l, once_under l each k (omega arith), each k (omega arith))

-- each number of such a list is below its length
pub once_below : (l : List ℕ) → EachOnce l → (i : ℕ) → i < length l → get_or l i 0 < length l
once_below l each i q = under_full (length l) l (once_under l each (length l) (omega arith)) i q

-- ---- numbers marked one after the other

-- the first i numbers are low and marked, none of them twice, and no other number is marked
pub record Marked (l : List ℕ) (i : ℕ) (seen : List Bool) : Type 0 where
  pub long : length seen ≡ 4096
  pub low : (j : ℕ) → j < i → get_or l j 0 < length l
  pub counts : (n : ℕ) → times n (take i l) ≡ cond (get_or seen n false) 1 0

none_seen : (n : ℕ) → get_or (replicate 4096 false) n false ≡ false
none_seen n = ⊎_elim (λ q. get_or-replicate 4096 n false false q) (λ q. get_or_past (replicate 4096 false) n false (omega (arith, length-replicate 4096 false))) (cases_lt n 4096)

pub marked_none : (l : List ℕ) → Marked l 0 (replicate 4096 false)
marked_none l = record {
  long = length-replicate 4096 false;
  low = λ j q. absurd (omega arith);
  counts = λ n. sym (ap (λ b. cond {A = ℕ} b 1 0) (none_seen n));
}

module _ (l : List ℕ) (i : ℕ) (seen : List Bool) (m : Marked l i seen) (within : i < length l) where
  abbrev here : ℕ
  here = get_or l i 0

  more : (n : ℕ) → times n (take (i + 1) l) ≡ times n (take i l) + cond (eqb here n) 1 0
  more n = sum_by_more (λ y. cond (eqb y n) 1 0) l i 0 within

  module _ (small : length l ≤ 4096) (below : get_or l i 0 < length l) (new : get_or seen (get_or l i 0) false ≡ false) where
    pub marked_more : Marked l (i + 1) (set seen (get_or l i 0) true)
    marked_more = record {
      long = omega (arith, length-set seen here true, m.long);
      low = λ j q. ⊎_elim (m.low j) (λ p. let e : i ≡ j = omega arith in subst (λ k. get_or l k 0 < length l) e below) (cases_lt j i);
      counts = λ n. ⊎_elim (same n) (other n) (cases_eq here n);
    }
      where
        same : (n : ℕ) → here ≡ n → times n (take (i + 1) l) ≡ cond (get_or (set seen here true) n false) 1 0
        same n e =
            subst (λ k. times k (take (i + 1) l) ≡ cond (get_or (set seen here true) k false) 1 0) e
            (omega (arith, more here, ap (λ b. cond {A = ℕ} b 1 0) (eq-eqb here here refl), m.counts here, ap (λ b. cond {A = ℕ} b 1 0) new, ap (λ b. cond {A = ℕ} b 1 0) (get_or-set_same seen here true false (omega (arith, m.long)))))

        other : (n : ℕ) → (here ≡ n → ⊥) → times n (take (i + 1) l) ≡ cond (get_or (set seen here true) n false) 1 0
        other n d = omega (arith, more n, ap (λ b. cond {A = ℕ} b 1 0) (ne_eqb here n d), m.counts n, ap (λ b. cond {A = ℕ} b 1 0) (get_or-set_other seen here n true false (λ e. d (sym e))))

  pub not_high : EachOnce l → length l ≤ get_or l i 0 → ⊥
  not_high each q = omega (arith, once_below l each i within)

  pub not_twice : EachOnce l → get_or l i 0 < length l → get_or seen (get_or l i 0) false ≡ true → ⊥
  not_twice each low e =
      omega (arith, more here, ap (λ b. cond {A = ℕ} b 1 0) (eq-eqb here here refl), m.counts here, ap (λ b. cond {A = ℕ} b 1 0) e, sum_by-take-le (λ y. cond (eqb y here) 1 0) l (i + 1), each here low)

pub marked_all : (l : List ℕ) (i : ℕ) (seen : List Bool) → length l ≤ i → Marked l i seen → EachOnce l
marked_all l i seen all m =
    each_there l (λ n. omega (arith, ap (times n) (take_all i l all), m.counts n, at_most (get_or seen n false))) (under_all (length l) l (λ j q. m.low j (omega arith)))
  where
    at_most : (b : Bool) → cond b 1 0 ≤ 1
    at_most true = omega arith
    at_most false = omega arith
