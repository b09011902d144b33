-- Numbers taken one after the other, and given back from the last to the first. Assumes nothing.
use Rattle.std.proofs.Common.{◌≡◌, ℕ, zero, suc, ◌+◌, ◌<◌, ◌≤◌, true, false, List, length, get_or, set, Ok, Err, Result, sym, refl, ap, ◌∙◌, subst, ⊎_elim, arith}
use Rattle.std.proofs.lemmas.List.{get_or-set_same, get_or-set_other}
use Rattle.std.proofs.lemmas.Bool.{both_ways, cases_lt}
use Rattle.supply.specs.declared.faults.Fault.{Fault}
use Rattle.supply.specs.Stocks.{Stock, Aside, size_of, is_out, is_barred, barred_by, Given, Returned, GivenBack}
use Rattle.supply.proofs.StockLaws.{undo, stays_out}
use Rattle.spares.specs.declared.Spare.TheVariants.{Yes, No}
use Rattle.spares.specs.Spares.{Took, TakesInto, Held, Checked}

pub took_none : (s : Stock) (l : List ℕ) → Took s s l 0
unfolding Took
took_none s l = refl

-- a write behind them leaves them
took_kept : (s t : Stock) (l : List ℕ) (k j n : ℕ) → k ≤ j → Took s t l k → Took s t (set l j n) k
unfolding Took
took_kept s t l zero j n h e = e
took_kept s t l (suc k) j n h (u, f, g) = (u, took_kept s u l k j n (omega arith) f, subst (λ x. Given u t x) (sym (get_or-set_other l j k n 0 (λ e. omega arith))) g)

pub took_more : (s t u : Stock) (l : List ℕ) (k n : ℕ) → k < length l → Took s t l k → Given t u n → Took s u (set l k n) (suc k)
unfolding Took
took_more s t u l k n h f g = (t, took_kept s t l k k n (omega arith) f, subst (λ x. Given t u x) (sym (get_or-set_same l k n 0 h)) g)

pub took_less : (s t u : Stock) (l : List ℕ) (k : ℕ) → Took s t l (suc k) → Returned t u (get_or l k 0) → Took s u l k
unfolding Took
took_less s t u l k (v, f, g) r = subst (λ w. Took s w l k) (sym (undo g r)) f

pub took_all : (s t : Stock) (l : List ℕ) → Took s t l 0 → t ≡ s
unfolding Took
took_all s t l e = e

pub took_allowance : (s t : Stock) (l : List ℕ) (k : ℕ) → Took s t l k → s.allowance ≡ t.allowance + k
unfolding Took
took_allowance s t l zero e = omega (arith, ap (λ (x : Stock). x.allowance) e)
took_allowance s t l (suc k) (u, f, g) = omega (arith, took_allowance s u l k f, g.allowance)

took_size : (s t : Stock) (l : List ℕ) (k : ℕ) → Took s t l k → size_of t ≡ size_of s
unfolding Took
took_size s t l zero e = ap size_of e
took_size s t l (suc k) (u, f, g) = g.size ∙ took_size s u l k f

-- what was out stays so, and what is not out was not
took_stays : (s t : Stock) (l : List ℕ) (k : ℕ) → Took s t l k → (n : ℕ) → is_out s n ≡ true → is_out t n ≡ true
unfolding Took
took_stays s t l zero e n o = ap (λ x. is_out x n) e ∙ o
took_stays s t l (suc k) (u, f, g) n o = stays_out g n (took_stays s u l k f n o)

-- each is out now
pub took_out : (s t : Stock) (l : List ℕ) (k : ℕ) → Took s t l k → (i : ℕ) → i < k → is_out t (get_or l i 0) ≡ true
unfolding Took
took_out s t l zero e i q = absurd (omega arith)
took_out s t l (suc k) (u, f, g) i q =
    ⊎_elim (λ p. stays_out g (get_or l i 0) (took_out s u l k f i p)) (λ p. let e : k ≡ i = omega arith in subst (λ j. is_out t (get_or l j 0) ≡ true) e g.out) (cases_lt i k)

took_below : (s t : Stock) (l : List ℕ) (k : ℕ) → Took s t l k → (i : ℕ) → i < k → get_or l i 0 < size_of s
unfolding Took
took_below s t l zero e i q = absurd (omega arith)
took_below s t l (suc k) (u, f, g) i q =
    ⊎_elim (took_below s u l k f i) (λ p. let e : k ≡ i = omega arith in subst (λ j. get_or l j 0 < size_of s) e (omega (arith, g.below, took_size s u l k f))) (cases_lt i k)

took_unused : (s t : Stock) (l : List ℕ) (k : ℕ) → Took s t l k → (i : ℕ) → i < k → is_out s (get_or l i 0) ≡ false
unfolding Took
took_unused s t l zero e i q = absurd (omega arith)
took_unused s t l (suc k) (u, f, g) i q =
    ⊎_elim (took_unused s u l k f i) (λ p. let e : k ≡ i = omega arith in subst (λ j. is_out s (get_or l j 0) ≡ false) e last) (cases_lt i k)
  where
    last : is_out s (get_or l k 0) ≡ false
    last = elim (is_out s (get_or l k 0)) as (λ b. is_out s (get_or l k 0) ≡ b → b ≡ false) [
      | true ↦ λ o. absurd (both_ways (is_out u (get_or l k 0)) g.unused (took_stays s u l k f (get_or l k 0) o))
      | false ↦ λ o. refl
    ] refl

-- what is barred stays as it is
took_aside : (s t : Stock) (l : List ℕ) (k : ℕ) → Took s t l k → t.aside ≡ s.aside
unfolding Took
took_aside s t l zero e = ap (λ (x : Stock). x.aside) e
took_aside s t l (suc k) (u, f, g) = g.aside ∙ took_aside s u l k f

took_allowed : (s t : Stock) (l : List ℕ) (k : ℕ) → Took s t l k → (i : ℕ) → i < k → is_barred s (get_or l i 0) ≡ false
unfolding Took
took_allowed s t l zero e i q = absurd (omega arith)
took_allowed s t l (suc k) (u, f, g) i q =
    ⊎_elim (took_allowed s u l k f i) (λ p. let e : k ≡ i = omega arith in subst (λ j. is_barred s (get_or l j 0) ≡ false) e last) (cases_lt i k)
  where
    last : is_barred s (get_or l k 0) ≡ false
    last = ap (λ (a : Aside). barred_by a.barred (get_or l k 0)) (sym (took_aside s u l k f)) ∙ g.allowed

took_apart : (s t : Stock) (l : List ℕ) (k : ℕ) → Took s t l k → (i j : ℕ) → i < j → j < k → get_or l i 0 ≡ get_or l j 0 → ⊥
unfolding Took
took_apart s t l zero e i j p q = absurd (omega arith)
took_apart s t l (suc k) (u, f, g) i j p q =
    ⊎_elim (took_apart s u l k f i j p) (λ h. let e : k ≡ j = omega arith in λ same. both_ways (is_out u (get_or l j 0)) (subst (λ x. is_out u (get_or l x 0) ≡ false) e g.unused) (ap (is_out u) (sym same) ∙ took_out s u l k f i (omega arith))) (cases_lt j k)

pub took_held : (s t : Stock) (l : List ℕ) (k : ℕ) → Took s t l k → Held s k l
took_held s t l k f = record { taken = (t, f); below = took_below s t l k f; unused = took_unused s t l k f; allowed = took_allowed s t l k f; apart = took_apart s t l k f }

-- the last one given back
pub took_back : (s t u : Stock) (l : List ℕ) (k : ℕ) (r : Result (Unit {0}) Fault) → Took s t l (suc k) → GivenBack t u (get_or l k 0) r → Took s u l k
took_back s t u l k (Ok x) f g = took_less s t u l k f g
took_back s t u l k (Err e) f g = absurd (both_ways (is_out t (get_or l k 0)) g.not_out (took_out s t l (suc k) f k (omega arith)))

-- ---- what the check comes to

module _ {S : Type 0} (supply supply' : S) (s t s' : Stock) (count taken : ℕ) (list list' : List ℕ) (room : count ≤ length list) (w : TakesInto s t list list' count taken) (back : s' ≡ s) where
  pub checked_yes : taken ≡ count → Checked supply supply' s s' count list list' Yes
  checked_yes e = record {
    same = back;
    no_list = λ l. absurd (omega arith);
    yes = λ l a. (refl, subst (λ x. Held x count list') (sym back) (subst (λ n. Held s n list') e (took_held s t list' taken w.took)));
    no = λ l a. absurd (omega (arith, took_allowance s t list' taken w.took));
  }

  pub checked_no : (taken ≡ count → ⊥) → Checked supply supply' s s' count list list' No
  checked_no n = record {
    same = back;
    no_list = λ l. absurd (omega arith);
    yes = λ l a. absurd (⊎_elim n (λ (q : (taken < count) × (t.allowance ≡ 0)). omega (arith, q.0, q.1, took_allowance s t list' taken w.took)) w.all);
    no = λ l a. refl;
  }
