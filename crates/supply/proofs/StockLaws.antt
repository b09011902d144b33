-- Laws of what a supply means. Assumes nothing.
use Rattle.std.specs.Prelude.{◌≡◌, ℕ, zero, suc, ◌+◌, ◌<◌, ◌≤◌, Bool, true, false, cond, List, [], ◌∷◌, length, set, replicate, slice_index_or, slice_set, refl}
use Rattle.std.proofs.Common.{sym, ap, ap₂, ◌∙◌, ⊎_elim, zero-add, one-add, arith}
use Rattle.std.proofs.lemmas.List.{get_or-set_same, get_or-set_other, set-set, set-get_or, get_or_past, length-set, length-replicate}
use Rattle.std.proofs.lemmas.List.Sums.{sum_by-cons, sum_by-set, count_by-le-length}
use Rattle.std.proofs.lemmas.Bool.{both_ways, cases_lt}
use Rattle.std.proofs.lemmas.Bool.Decides.{nat_tests}
use Rattle.supply.specs.Stocks.{Aside, Stock, is_out, marked, counted, fresh, kept_size, Given, Returned}

-- ---- any stock: for callers

abbrev stock_of : List Bool → ℕ → Aside → Stock
stock_of m n a = record { marks = m; allowance = n; aside = a }

pub same_stock : (s t : Stock) → s.marks ≡ t.marks → s.allowance ≡ t.allowance → s.aside ≡ t.aside → s ≡ t
same_stock s t e f g = ap (λ m. stock_of m s.allowance s.aside) e ∙ ap (λ n. stock_of t.marks n s.aside) f ∙ ap (stock_of t.marks t.allowance) g

-- a number given and then returned leaves the stock as it was
pub undo : {s t u : Stock} {n : ℕ} → Given s t n → Returned t u n → u ≡ s
undo {s} {t} {u} {n} g r = same_stock u s (r.marks ∙ g.undone) (omega (arith, r.allowance, g.allowance)) (r.aside ∙ g.aside)

-- a number that is out stays so when another is given
pub stays_out : {s t : Stock} {n : ℕ} → Given s t n → (k : ℕ) → is_out s k ≡ true → is_out t k ≡ true
stays_out {s} {t} {n} g k o = g.others k (λ e. both_ways false refl (sym g.unused ∙ ap (is_out s) (sym e) ∙ o)) ∙ o

-- ---- a stock whose marks are counted

-- a number that is not out may be marked so
pub set_unused : (m : List Bool) (n : ℕ) → slice_index_or m n false ≡ false → slice_set m n false ≡ m
set_unused m n h = ap (set m n) (sym h) ∙ set-get_or m n false

pub marked_given : (m : List Bool) (n : ℕ) → n < length m → slice_index_or m n false ≡ false → marked (slice_set m n true) ≡ marked m + 1
marked_given m n h f =
    let s : marked (slice_set m n true) + cond (slice_index_or m n false) 1 0 ≡ marked m + 1 = sum_by-set (λ b. cond b 1 0) m n true false h in
    let z : ◌≡◌ {A = ℕ} (cond (slice_index_or m n false) 1 0) 0 = ap (λ b. cond b 1 0) f in
    omega arith

pub counted_given : (m : List Bool) (n : ℕ) → n < length m → slice_index_or m n false ≡ false → Given (counted m) (counted (slice_set m n true)) n
counted_given m n h f =
    record {
      below = h;
      unused = f;
      allowed = refl;
      marks = refl;
      aside = refl;
      allowance = omega (arith, marked_given m n h f, length-set m n true, count_by-le-length (λ b. b) (slice_set m n true));
      size = length-set m n true;
      out = get_or-set_same m n true false h;
      others = λ k d. get_or-set_other m n k true false d;
      outs = marked_given m n h f;
      undone = set-set m n true false ∙ set_unused m n f;
    }

-- a number that is out is below the size
pub out_within : (m : List Bool) (k : ℕ) → slice_index_or m k false ≡ true → k < length m
out_within m k h = ⊎_elim (λ l. l) (λ g. absurd (both_ways false refl (sym (get_or_past m k false g) ∙ h))) (cases_lt k (length m))

pub marked_returned : (m : List Bool) (n : ℕ) → slice_index_or m n false ≡ true → marked (slice_set m n false) + 1 ≡ marked m
marked_returned m n f =
    let s : marked (slice_set m n false) + cond (slice_index_or m n false) 1 0 ≡ marked m + 0 = sum_by-set (λ b. cond b 1 0) m n false false (out_within m n f) in
    let z : ◌≡◌ {A = ℕ} (cond (slice_index_or m n false) 1 0) 1 = ap (λ b. cond b 1 0) f in
    omega arith

pub counted_returned : (m : List Bool) (n : ℕ) → slice_index_or m n false ≡ true → Returned (counted m) (counted (slice_set m n false)) n
counted_returned m n f =
    record {
      was_out = f;
      marks = refl;
      aside = refl;
      allowed = refl;
      allowance = omega (arith, marked_returned m n f, length-set m n false, count_by-le-length (λ b. b) m);
      size = length-set m n false;
      unused = get_or-set_same m n false false (out_within m n f);
      others = λ k d. get_or-set_other m n k false false d;
      outs = sym (marked_returned m n f);
    }

-- where all are out, none may be taken
pub all_marked : (m : List Bool) → ((k : ℕ) → k < length m → slice_index_or m k false ≡ true) → marked m ≡ length m
all_marked [] h = refl
all_marked (b ∷ m) h =
    sum_by-cons (λ b. cond b 1 0) b m ∙ ap₂ (λ x y. x + y) (ap (λ b. cond b 1 0) (h 0 (omega arith))) (all_marked m (λ k q. h (suc k) (omega arith)))
    ∙ one-add (length m)

pub none_marked : (n : ℕ) → marked (replicate n false) ≡ 0
none_marked zero = refl
none_marked (suc n) = sum_by-cons (λ b. cond b 1 0) false (replicate n false) ∙ zero-add (marked (replicate n false)) ∙ none_marked n

pub counted_fresh : (n : ℕ) → counted (replicate n false) ≡ fresh n
counted_fresh n = same_stock (counted (replicate n false)) (fresh n) refl (omega (arith, length-replicate n false, none_marked n)) refl

pub all_false : (m : List Bool) (n : ℕ) → length m ≡ n → ((k : ℕ) → k < n → slice_index_or m k false ≡ false) → m ≡ replicate n false
all_false [] zero e h = refl
all_false [] (suc n) e h = absurd (omega arith)
all_false (b ∷ m) zero e h = absurd (omega arith)
all_false (b ∷ m) (suc n) e h = ap₂ (λ x y. x ∷ y) (h 0 (omega arith)) (all_false m n (omega arith) (λ k q. h (suc k) (omega arith)))

-- ---- the size that is kept

pub kept_most : (n : ℕ) → kept_size n ≤ 4096
kept_most n = grind (arith, nat_tests)

pub kept_all : (n : ℕ) → n ≤ 4096 → n ≡ kept_size n
kept_all n h = grind (arith, nat_tests)

pub kept_none : (n : ℕ) → 4096 < n → 0 ≡ kept_size n
kept_none n h = grind (arith, nat_tests)
