-- A row walked link by link, with a mark at each number that was met. Assumes nothing.
use Rattle.std.proofs.Common.{◌≡◌, ℕ, zero, suc, ◌+◌, ◌<◌, ◌≤◌, Bool, true, false, List, length, get_or, set, take, replicate, sym, refl, ap, ◌∙◌, subst, ◌⊎◌, inl, inr, ⊎_elim, add-one, arith}
use Rattle.std.proofs.lemmas.List.{get_or-set_same, get_or-set_other, get_or-replicate, get_or_past, length-set, length-replicate, get_or-take, length-take-le}
use Rattle.std.proofs.lemmas.Bool.{both_ways, cases_lt}
use Rattle.supply.specs.Rows.{row_of, IsRow}

-- the number that so many links lead to
unfoldable pub reached : List ℕ → ℕ → ℕ → ℕ
reached l h zero = h
reached l h (suc i) = reached l (get_or l h 0) i

pub reached_none : (l : List ℕ) (h : ℕ) → reached l h 0 ≡ h
unfolding reached
reached_none l h = refl

reached_next : (l : List ℕ) (h i : ℕ) → reached l h (suc i) ≡ get_or l (reached l h i) 0
unfolding reached
reached_next l h zero = refl
reached_next l h (suc i) = reached_next l (get_or l h 0) i

pub reached_more : (l : List ℕ) (h i : ℕ) → reached l h (i + 1) ≡ get_or l (reached l h i) 0
reached_more l h i = ap (reached l h) (add-one i) ∙ reached_next l h i

pub length_row : (l : List ℕ) (h n : ℕ) → length (row_of l h n) ≡ n
length_row l h zero = refl
length_row l h (suc n) = ap suc (length_row l (get_or l h 0) n)

pub row_at : (l : List ℕ) (h n i : ℕ) → i < n → get_or (row_of l h n) i 0 ≡ reached l h i
unfolding reached
row_at l h zero i q = absurd (omega arith)
row_at l h (suc n) zero q = refl
row_at l h (suc n) (suc i) q = row_at l (get_or l h 0) n i (omega arith)

-- i numbers of the row were met, each is marked and no other, and the walk stands at the one behind them
pub record Walked (z : ℕ) (l : List ℕ) (h i node : ℕ) (seen : List Bool) : Type 0 where
  pub here : node ≡ reached l h i
  pub long : length seen ≡ 4096
  pub below : (j : ℕ) → j < i → reached l h j < z
  pub unused : (j : ℕ) → j < i → get_or l (reached l h j) 0 ≡ 65535 → ⊥
  pub apart : (j k : ℕ) → j < k → k < i → reached l h j ≡ reached l h k → ⊥
  pub marked : (j : ℕ) → j < i → get_or seen (reached l h j) false ≡ true
  pub met : (x : ℕ) → get_or seen x false ≡ true → (j : ℕ) × (j < i) × (reached l h j ≡ x)

none_true : (n x : ℕ) → get_or (replicate n false) x false ≡ true → ⊥
none_true n x e = both_ways false refl (sym (⊎_elim (λ q. get_or-replicate n x false false q) (λ q. get_or_past (replicate n false) x false (omega (arith, length-replicate n false))) (cases_lt x n)) ∙ e)

pub walked_none : (z : ℕ) (l : List ℕ) (h : ℕ) → Walked z l h 0 h (replicate 4096 false)
walked_none z l h = record {
  here = sym (reached_none l h);
  long = length-replicate 4096 false;
  below = λ j q. absurd (omega arith);
  unused = λ j q. absurd (omega arith);
  apart = λ j k p q. absurd (omega arith);
  marked = λ j q. absurd (omega arith);
  met = λ x e. absurd (none_true 4096 x e);
}

module _ (z : ℕ) (l : List ℕ) (h i node : ℕ) (seen : List Bool) (w : Walked z l h i node seen) (small : z ≤ 4096) (low : node < z) (used : get_or l node 0 ≡ 65535 → ⊥) (new : get_or seen node false ≡ false) where
  -- the number is none of those that were met
  strange : (j : ℕ) → j < i → reached l h j ≡ node → ⊥
  strange j q e = both_ways false refl (sym new ∙ ap (λ x. get_or seen x false) (sym e) ∙ w.marked j q)

  last_or : (j : ℕ) → j < i + 1 → (P : ℕ → Type 0) → ((k : ℕ) → k < i → P k) → P i → P j
  last_or j q P f g = ⊎_elim (f j) (λ p. let e : i ≡ j = omega arith in subst P e g) (cases_lt j i)

  pub walked_more : Walked z l h (i + 1) (get_or l node 0) (set seen node true)
  walked_more = record {
    here = ap (λ x. get_or l x 0) w.here ∙ sym (reached_more l h i);
    long = omega (arith, length-set seen node true, w.long);
    below = λ j q. last_or j q (λ k. reached l h k < z) w.below (omega (arith, w.here));
    unused = λ j q. last_or j q (λ k. get_or l (reached l h k) 0 ≡ 65535 → ⊥) w.unused (λ e. used (ap (λ x. get_or l x 0) w.here ∙ e));
    apart = λ j k p q. last_or k q (λ k. j < k → reached l h j ≡ reached l h k → ⊥) (λ k' q' p' e. w.apart j k' p' q' e) (λ p' e. strange j p' (e ∙ sym w.here)) p;
    marked = λ j q. last_or j q (λ k. get_or (set seen node true) (reached l h k) false ≡ true)
        (λ k q'. get_or-set_other seen node (reached l h k) true false (strange k q') ∙ w.marked k q')
        (ap (λ x. get_or (set seen node true) x false) (sym w.here) ∙ get_or-set_same seen node true false (omega (arith, w.long)));
    met = λ x e. meeting x e (cases_lt x node) (cases_lt node x);
  }
    where
      open_up : (x : ℕ) → get_or (set seen node true) x false ≡ true → (node ≡ x → ⊥) → (j : ℕ) × (j < i + 1) × (reached l h j ≡ x)
      open_up x e d = let (j, q, m) = w.met x (sym (get_or-set_other seen node x true false (λ y. d (sym y))) ∙ e) in (j, omega arith, m)

      meeting : (x : ℕ) → get_or (set seen node true) x false ≡ true → (x < node) ⊎ (node ≤ x) → (node < x) ⊎ (x ≤ node) → (j : ℕ) × (j < i + 1) × (reached l h j ≡ x)
      meeting x e (inl a) b = open_up x e (λ y. omega arith)
      meeting x e (inr a) (inl b) = open_up x e (λ y. omega arith)
      meeting x e (inr a) (inr b) = (i, omega arith, sym w.here ∙ omega arith)

-- ---- what comes of the walk

pub row_walked : (z : ℕ) (l : List ℕ) (h n i node : ℕ) (seen : List Bool) → n ≤ i → Walked z l h i node seen → IsRow z l (row_of l h n)
row_walked z l h n i node seen all w = (
  λ j q. omega (arith, at j q, w.below j (omega (arith, low j q))),
  λ j q e. w.unused j (omega (arith, low j q)) (ap (λ x. get_or l x 0) (sym (at j q)) ∙ e),
  λ j k p q e. w.apart j k p (omega (arith, low k q)) (sym (at j (omega arith)) ∙ e ∙ at k q),
)
  where
    low : (i : ℕ) → i < length (row_of l h n) → i < n
    low i q = omega (arith, length_row l h n)

    at : (i : ℕ) → i < length (row_of l h n) → get_or (row_of l h n) i 0 ≡ reached l h i
    at i q = row_at l h n i (low i q)

module _ (z : ℕ) (l : List ℕ) (h n i node : ℕ) (seen : List Bool) (w : Walked z l h i node seen) (more : i < n) (r : IsRow z l (row_of l h n)) where
  here_at : get_or (row_of l h n) i 0 ≡ node
  here_at = row_at l h n i more ∙ sym w.here

  pub not_high : z ≤ node → ⊥
  not_high q = let b = r.0 i (omega (arith, length_row l h n)) in omega (arith, here_at)

  pub not_out : get_or l node 0 ≡ 65535 → ⊥
  not_out e = r.1 i (omega (arith, length_row l h n)) (ap (λ x. get_or l x 0) here_at ∙ e)

  pub not_twice : get_or seen node false ≡ true → ⊥
  not_twice e =
      let (j, q, m) = w.met node e in
      r.2 j i q (omega (arith, length_row l h n)) (row_at l h n j (omega arith) ∙ m ∙ sym here_at)

-- the links below the size alone
module _ (z : ℕ) (l : List ℕ) (long : length l ≡ 4096) (small : z ≤ 4096) where
  pub length_part : length (take z l) ≡ z
  length_part = length-take-le z l (omega arith)

  pub part_at : (k : ℕ) → k < z → get_or (take z l) k 0 ≡ get_or l k 0
  part_at k q = get_or-take z l k 0 q
