-- What the functions of `Chain` rest on. Assumes nothing.
use Rattle.std.proofs.Common.{◌≡◌, ℕ, zero, suc, ◌+◌, ◌-◌, ◌<◌, ◌≤◌, true, false, cond, eqb, List, [], ◌∷◌, map, length, get_or, take, set, replicate, sym, refl, ap, ◌∙◌, subst, add-one, arith}
use lib.Seq.{take-set-lt}
use Rattle.std.specs.List.{range_with_len, count_by}
use Rattle.std.proofs.lemmas.List.Sums.{sum_by-cons}
use Rattle.std.proofs.lemmas.List.FromFn.{length-range_with_len, get_or-range_with_len}
use Rattle.std.proofs.lemmas.List.{get_or-set_same, get_or-set_other, get_or-take, get_or-map, length-map, length-take-le, map-set}
use Rattle.std.proofs.lemmas.Bool.{eqb-true, ne_eqb}
use Rattle.supply.specs.declared.links.Chain.{Chain}
use Rattle.supply.specs.Stocks.{marked, counted, fresh, Given, Returned}
use Rattle.supply.specs.Rows.{Chained, row_of, Below, Unused, Apart, Rising, link_marks, link_stock}
use Rattle.supply.proofs.StockLaws.{counted_given, counted_returned, counted_fresh, out_within, marked_given, marked_returned, all_false, none_marked}

-- ---- the marks

pub length_marks : (n : ℕ) (l : List ℕ) → n ≤ length l → length (link_marks n l) ≡ n
unfolding link_marks
length_marks n l h = length-map (take n l) (λ x. eqb x 65535) ∙ length-take-le n l h

pub index_marks : (n : ℕ) (l : List ℕ) (k : ℕ) → n ≤ length l → k < n → get_or (link_marks n l) k false ≡ eqb (get_or l k 0) 65535
unfolding link_marks
index_marks n l k h q =
    get_or-map (λ x. eqb x 65535) (take n l) k 0 false (omega (arith, length-take-le n l h)) ∙ ap (λ x. eqb x 65535) (get_or-take n l k 0 q)

set_marks : (n : ℕ) (l : List ℕ) (k v : ℕ) → k < n → link_marks n (set l k v) ≡ set (link_marks n l) k (eqb v 65535)
unfolding link_marks
set_marks n l k v q = ap (map (λ x. eqb x 65535)) (take-set-lt n l k v q) ∙ map-set (λ x. eqb x 65535) (take n l) k v

-- a number that is out is below the size, and its link says so
pub out_below : (n : ℕ) (l : List ℕ) (k : ℕ) → n ≤ length l → get_or (link_marks n l) k false ≡ true → k < n
out_below n l k h o = omega (arith, out_within (link_marks n l) k o, length_marks n l h)

out_link : (n : ℕ) (l : List ℕ) (k : ℕ) → n ≤ length l → get_or (link_marks n l) k false ≡ true → get_or l k 0 ≡ 65535
out_link n l k h o = eqb-true (get_or l k 0) 65535 (sym (index_marks n l k h (out_below n l k h o)) ∙ o)

-- the marks are counted by the links
pub marked_links : (n : ℕ) (l : List ℕ) → marked (link_marks n l) ≡ count_by (λ x. eqb x 65535) (take n l)
unfolding link_marks
marked_links n l = go (take n l)
  where
    go : (xs : List ℕ) → marked (map (λ x. eqb x 65535) xs) ≡ count_by (λ x. eqb x 65535) xs
    go [] = refl
    go (x ∷ xs) =
        sum_by-cons (λ b. cond b 1 0) (eqb x 65535) (map (λ x. eqb x 65535) xs) ∙ ap (λ m. cond (eqb x 65535) 1 0 + m) (go xs)
        ∙ sym (sum_by-cons (λ x. cond (eqb x 65535) 1 0) x xs)

-- ---- the row

-- the number k is not in the row
abbrev Off : ℕ → List ℕ → Type 0
Off k row = (i : ℕ) → i < length row → get_or row i 0 ≡ k → ⊥

-- a write at a number that is not in the row leaves it
row_set : (l : List ℕ) (k v h n : ℕ) → Off k (row_of l h n) → row_of (set l k v) h n ≡ row_of l h n
row_set l k v h zero off = refl
row_set l k v h (suc n) off =
    ap (λ r. h ∷ r)
    (ap (λ x. row_of (set l k v) x n) (get_or-set_other l k h v 0 (off 0 (omega arith))) ∙ row_set l k v (get_or l h 0) n (λ i q. off (suc i) (omega arith)))

row_first : (l : List ℕ) (h n : ℕ) → 0 < n → row_of l h n ≡ h ∷ row_of l (get_or l h 0) (n - 1)
row_first l h zero p = absurd (omega arith)
row_first l h (suc n) p = let e : n ≡ suc n - 1 = omega arith in ap (λ m. h ∷ row_of l (get_or l h 0) m) e

row_rising : (l : List ℕ) → Rising l 4096 → (h n : ℕ) → h + n ≤ 4096 → row_of l h n ≡ range_with_len h n
row_rising l rising h zero q = refl
row_rising l rising h (suc n) q =
    ap (λ r. h ∷ r) (ap (λ x. row_of l x n) (rising h (omega arith)) ∙ row_rising l rising (h + 1) n (omega arith))

-- ---- what holds of every chain

pub chained_of : (s : Chain) → Chained s.size s.left s.head s.links
chained_of s = record { fits = s.fits; counts = s.counts; inner = s.inner; below = s.below; unused = s.unused; apart = s.apart }

-- ---- the first of the row is taken

pub none_left : (l : List ℕ) (z h n : ℕ) → z ≤ length l → Chained z n h l → n ≡ 0 → (link_stock z l).allowance ≡ 0
none_left l z h n fits c e = omega (arith, c.counts, length_marks z l fits)

module _ (l : List ℕ) (z h n : ℕ) (fits : z ≤ length l) (c : Chained z n h l) (some : 0 < n) where
  first : row_of l h n ≡ h ∷ row_of l (get_or l h 0) (n - 1)
  first = row_first l h n some

  below_all : Below z (h ∷ row_of l (get_or l h 0) (n - 1))
  below_all = subst (Below z) first c.below

  unused_all : Unused l (h ∷ row_of l (get_or l h 0) (n - 1))
  unused_all = subst (Unused l) first c.unused

  apart_all : Apart (h ∷ row_of l (get_or l h 0) (n - 1))
  apart_all = subst Apart first c.apart

  pub head_below : h < z
  head_below = below_all 0 (omega arith)

  head_unused : get_or l h 0 ≡ 65535 → ⊥
  head_unused = unused_all 0 (omega arith)

  off_rest : Off h (row_of l (get_or l h 0) (n - 1))
  off_rest i q e = apart_all 0 (suc i) (omega arith) (omega arith) (sym e)

  rest_kept : row_of (set l h 65535) (get_or l h 0) (n - 1) ≡ row_of l (get_or l h 0) (n - 1)
  rest_kept = row_set l h 65535 (get_or l h 0) (n - 1) off_rest

  pub taken_row : row_of l h n ≡ h ∷ row_of (set l h 65535) (get_or l h 0) (n - 1)
  taken_row = first ∙ ap (λ r. h ∷ r) (sym rest_kept)

  unused_head : get_or (link_marks z l) h false ≡ false
  unused_head = index_marks z l h fits head_below ∙ ne_eqb (get_or l h 0) 65535 head_unused

  pub given : Given (link_stock z l) (link_stock z (set l h 65535)) h
  given =
      subst (λ m. Given (link_stock z l) (counted m) h) (sym (set_marks z l h 65535 head_below))
      (counted_given (link_marks z l) h (omega (arith, length_marks z l fits, head_below)) unused_head)

  pub taken_chained : get_or l h 0 < 65536 → Chained z (n - 1) (get_or l h 0) (set l h 65535)
  taken_chained word =
      record {
        fits = c.fits;
        counts =
            omega (arith, c.counts, ap marked (set_marks z l h 65535 head_below), marked_given (link_marks z l) h (omega (arith, length_marks z l fits, head_below)) unused_head);
        inner = omega (arith, head_unused);
        below = subst (Below z) (sym rest_kept) (λ i q. below_all (suc i) (omega arith));
        unused =
            subst (Unused (set l h 65535)) (sym rest_kept)
            (λ i q e. unused_all (suc i) (omega arith) (sym (get_or-set_other l h (get_or (row_of l (get_or l h 0) (n - 1)) i 0) 65535 0 (off_rest i q)) ∙ e));
        apart = subst Apart (sym rest_kept) (λ i j p q. apart_all (suc i) (suc j) (omega arith) (omega arith));
      }

-- ---- a number that is out comes first in the row

cons_below : (z k : ℕ) (row : List ℕ) → k < z → Below z row → Below z (k ∷ row)
cons_below z k row h f zero q = h
cons_below z k row h f (suc i) q = f i (omega arith)

cons_unused : (l : List ℕ) (k : ℕ) (row : List ℕ) → (get_or l k 0 ≡ 65535 → ⊥) → Unused l row → Unused l (k ∷ row)
cons_unused l k row h f zero q = h
cons_unused l k row h f (suc i) q = f i (omega arith)

cons_apart : (k : ℕ) (row : List ℕ) → Off k row → Apart row → Apart (k ∷ row)
cons_apart k row h f i zero p q e = absurd (omega arith)
cons_apart k row h f zero (suc j) p q e = h j (omega arith) (sym e)
cons_apart k row h f (suc i) (suc j) p q e = f i j (omega arith) (omega arith) e

module _ (l : List ℕ) (z h n k : ℕ) (fits : z ≤ length l) (c : Chained z n h l) (out : get_or (link_marks z l) k false ≡ true) where
  low : k < z
  low = out_below z l k fits out

  off : Off k (row_of l h n)
  off i q e = c.unused i q (ap (λ x. get_or l x 0) e ∙ out_link z l k fits out)

  link : get_or (set l k h) k 0 ≡ h
  link = get_or-set_same l k h 0 (omega (arith, low))

  row_kept : row_of (set l k h) h n ≡ row_of l h n
  row_kept = row_set l k h h n off

  pub back_row : row_of (set l k h) k (n + 1) ≡ k ∷ row_of l h n
  back_row = ap (row_of (set l k h) k) (add-one n) ∙ ap (λ r. k ∷ r) (ap (λ x. row_of (set l k h) x n) link ∙ row_kept)

  marks_back : link_marks z (set l k h) ≡ set (link_marks z l) k false
  marks_back = set_marks z l k h low ∙ ap (set (link_marks z l) k) (ne_eqb h 65535 (λ e. omega (arith, c.inner)))

  pub returned : Returned (link_stock z l) (link_stock z (set l k h)) k
  returned = subst (λ m. Returned (link_stock z l) (counted m) k) (sym marks_back) (counted_returned (link_marks z l) k out)

  pub back_chained : Chained z (n + 1) k (set l k h)
  back_chained =
      record {
        fits = c.fits;
        counts = omega (arith, c.counts, ap marked marks_back, marked_returned (link_marks z l) k out);
        inner = omega (arith, low, c.fits);
        below = subst (Below z) (sym back_row) (cons_below z k (row_of l h n) low c.below);
        unused =
            subst (Unused (set l k h)) (sym back_row)
            (cons_unused (set l k h) k (row_of l h n) (λ e. omega (arith, link, c.inner))
            (λ i q e. c.unused i q (sym (get_or-set_other l k (get_or (row_of l h n) i 0) h 0 (off i q)) ∙ e)));
        apart = subst Apart (sym back_row) (cons_apart k (row_of l h n) off c.apart);
      }

-- ---- a new chain

module _ (l : List ℕ) (rising : Rising l 4096) (long : length l ≡ 4096) (z : ℕ) (fits : z ≤ 4096) where
  row_all : row_of l 0 z ≡ range_with_len 0 z
  row_all = row_rising l rising 0 z (omega arith)

  at : (i : ℕ) → i < length (range_with_len 0 z) → get_or (range_with_len 0 z) i 0 ≡ i
  at i q = get_or-range_with_len 0 z i 0 (omega (arith, length-range_with_len 0 z)) ∙ omega arith

  all_marks : link_marks z l ≡ replicate z false
  all_marks =
      let s : length (link_marks z l) ≡ z = length_marks z l (omega arith) in
      all_false (link_marks z l) z s (λ k q. let r : get_or l k 0 ≡ k + 1 = rising k (omega arith) in
      index_marks z l k (omega arith) q ∙ ne_eqb (get_or l k 0) 65535 (λ e. omega arith))

  pub new_chained : Chained z z 0 l
  new_chained =
      record {
        fits = fits;
        counts = omega (arith, ap marked all_marks, none_marked z);
        inner = omega arith;
        below = subst (Below z) (sym row_all) (λ i q. omega (arith, at i q, length-range_with_len 0 z));
        unused =
            subst (Unused l) (sym row_all)
            (λ i q e. let r : get_or l (get_or (range_with_len 0 z) i 0) 0 ≡ i + 1 = ap (λ x. get_or l x 0) (at i q) ∙ rising i (omega (arith, length-range_with_len 0 z)) in omega (arith, length-range_with_len 0 z));
        apart = subst Apart (sym row_all) (λ i j p q e. omega (arith, at i (omega arith), at j q));
      }

  pub new_stock : link_stock z l ≡ fresh z
  new_stock = ap counted all_marks ∙ counted_fresh z

  pub new_row : row_of l 0 z ≡ range_with_len 0 z
  new_row = row_all
