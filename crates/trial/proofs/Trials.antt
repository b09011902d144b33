-- What the functions of `Trial` rest on. Assumes nothing.
use Rattle.std.proofs.Common.{◌≡◌, ℕ, ◌-◌, ◌<◌, ◌≤◌, Bool, true, false, List, ◌++◌, length, get_or, set, take, replicate, sym, refl, ap, ◌∙◌, subst, arith}
use lib.Seq.{take-set-lt}
use Rattle.std.proofs.lemmas.List.{get_or-take, length-take-le, take-replicate, take_at}
use Rattle.supply.specs.Stocks.{Given, Returned, counted, fresh}
use Rattle.supply.proofs.StockLaws.{counted_given, counted_returned, counted_fresh, all_marked, out_within}
use Rattle.trial.specs.Orders.{EachOnce, Next, trial_stock}
use Rattle.trial.proofs.Once.{place_of, once_below}

module _ (size : ℕ) (order : List ℕ) (out : List Bool) (fits : size ≤ 4096) (long : length order ≡ 4096) (wide : length out ≡ 4096) where
  pub listed_long : length (take size order) ≡ size
  listed_long = length-take-le size order (omega arith)

  pub marks_long : length (take size out) ≡ size
  marks_long = length-take-le size out (omega arith)

  pub listed_at : (i : ℕ) → i < size → get_or (take size order) i 0 ≡ get_or order i 0
  listed_at i q = get_or-take size order i 0 q

  pub mark_at : (n : ℕ) → n < size → get_or (take size out) n false ≡ get_or out n false
  mark_at n q = get_or-take size out n false q

  pub out_below : (n : ℕ) → get_or (take size out) n false ≡ true → n < size
  out_below n h = omega (arith, out_within (take size out) n h, marks_long)

  pub given : (n : ℕ) → n < size → get_or out n false ≡ false → Given (trial_stock size out) (trial_stock size (set out n true)) n
  given n q f =
      subst (λ m. Given (trial_stock size out) (counted m) n) (sym (take-set-lt size out n true q))
      (counted_given (take size out) n (omega (arith, marks_long)) (mark_at n q ∙ f))

  pub returned : (n : ℕ) → get_or (take size out) n false ≡ true → Returned (trial_stock size out) (trial_stock size (set out n false)) n
  returned n h =
      subst (λ m. Returned (trial_stock size out) (counted m) n) (sym (take-set-lt size out n false (out_below n h)))
      (counted_returned (take size out) n h)

  module _ (each : EachOnce (take size order)) where
    pub listed_below : (i : ℕ) → i < size → get_or order i 0 < size
    listed_below i q = omega (arith, listed_at i q, once_below (take size order) each i (omega (arith, listed_long)), listed_long)

    -- where all numbers of the list are out, none may be taken
    pub all_out : ((i : ℕ) → i < size → get_or out (get_or order i 0) false ≡ true) → (trial_stock size out).allowance ≡ 0
    all_out f = omega (arith, marks_long, all_marked (take size out) (λ k q. at k (omega (arith, marks_long))))
      where
        at : (k : ℕ) → k < size → get_or (take size out) k false ≡ true
        at k q =
            let p = place_of k (take size order) (omega (arith, each k (omega (arith, listed_long)))) in
            let i : p.0 < size = omega (arith, p.1, listed_long) in
            mark_at k q ∙ ap (λ n. get_or out n false) (sym p.2 ∙ listed_at p.0 i) ∙ f p.0 i

    -- where the numbers before place i are out, the one there is the next, if it is not
    pub next_at : (i : ℕ) → i < size → ((j : ℕ) → j < i → get_or out (get_or order j 0) false ≡ true) → Next (take size order) (trial_stock size out) (get_or (take size order) i 0)
    next_at i q f = record {
      place = i;
      within = omega (arith, listed_long);
      there = refl;
      passed = λ j p.
          ap (λ n. get_or (take size out) n false) (listed_at j (omega arith)) ∙ mark_at (get_or order j 0) (listed_below j (omega arith)) ∙ f j p;
    }

    pub unused_at : (i : ℕ) → i < size → get_or out (get_or (take size order) i 0) false ≡ false → (get_or (take size order) i 0 < size) × (get_or out (get_or (take size order) i 0) false ≡ false)
    unused_at i q f = (omega (arith, listed_at i q, listed_below i q), f)

pub stock_new : (n : ℕ) → n ≤ 4096 → trial_stock n (replicate 4096 false) ≡ fresh n
stock_new n h = ap counted (take-replicate n 4096 false h) ∙ counted_fresh n

-- ---- a list written

module _ (l : List ℕ) (short : length l ≤ 4096) where
  abbrev cells : List ℕ
  cells = l ++ replicate (4096 - length l) 0

  pub written_order : take (length l) cells ≡ l
  written_order = take_at l (replicate (4096 - length l) 0) (length l) refl

  pub written_each : EachOnce l → EachOnce (take (length l) cells)
  written_each e = subst EachOnce (sym written_order) e
