-- What the calls of a shared supply rest on. Assumes nothing.
use Rattle.std.proofs.Common.{◌≡◌, ◌≢◌, ℕ, ◌+◌, ◌-◌, ◌<◌, ◌≤◌, Bool, true, false, cond, List, ◌∷◌, length, take, set, replicate, slice_index_or, slice_set, nat_eq, sym, refl, ap, ◌∙◌, ⊎_elim, length-take, arith}
use lib.Seq.{take-set-lt}
use Rattle.std.proofs.lemmas.List.{take-replicate}
use Rattle.std.proofs.lemmas.Bool.{both_ways, cases_eq, cases_lt}
use Rattle.std.proofs.lemmas.Bool.Decides.{nat_tests}
use Rattle.std.proofs.lemmas.List.{get_or-set_same, get_or-set_other, get_or-take, get_or-replicate, get_or_past, length-set, length-replicate, set-set}
use Rattle.supply.specs.Stocks.{Stock, size_of, is_out, barred_by, kept_size, marked, Given, Returned}
use Rattle.supply.specs.Shares.{lesser, share_stock, unshared, BelowSize, Lent, Divided}
use Rattle.supply.specs.ShareLaws.{in_take, off_take}
use Rattle.supply.proofs.StockLaws.{marked_given, marked_returned, none_marked, set_unused, out_within, kept_most}

-- a mark more, and one less
module _ (m : List Bool) (k : ℕ) where
  marked_then : (v : Bool) (n : ℕ) → k < length m → slice_index_or (slice_set m k v) n false ≡ true → (n ≢ k) → slice_index_or m n false ≡ true
  marked_then v n l e d = sym (get_or-set_other m k n v false d) ∙ e

pub not_marked : (m : List Bool) (n : ℕ) → (slice_index_or m n false ≡ true → ⊥) → slice_index_or m n false ≡ false
not_marked m n f = go (slice_index_or m n false) refl
  where
    go : (b : Bool) → slice_index_or m n false ≡ b → b ≡ false
    go true q = absurd (f q)
    go false q = refl

module _ (B B' : Stock) (size limit out : ℕ) (m : List Bool) (limit' : ℕ) (m' : List Bool) (k : ℕ)
    (sized : size ≡ kept_size (size_of B)) (low : BelowSize size m) (lent : Lent B m) (lent' : Lent B m') (count : out ≡ marked (take size m)) (few : out ≤ limit) (divided : Divided m m')
    (wide : length m ≡ 4096) where
  size_few : size ≤ 4096
  size_few = omega (arith, kept_most (size_of B))

  long : length (take size m) ≡ size
  long = omega (arith, length-take size m, size_few)

  at : (n : ℕ) → n < size → slice_index_or (take size m) n false ≡ slice_index_or m n false
  at n l = get_or-take size m n false l

  size_same : 0 < size → size ≡ size_of B
  size_same l = grind (arith, nat_tests)

  -- ---- taken

  module _ (some : 0 < size) (room : out < limit) (g : Given B B' k) where
    below_size : k < size
    below_size = omega (arith, size_same some, g.below)

    unused : slice_index_or m k false ≡ false
    unused = not_marked m k (λ e. both_ways false refl (sym g.unused ∙ lent k e))

    unused' : slice_index_or m' k false ≡ false
    unused' = not_marked m' k (λ e. both_ways false refl (sym g.unused ∙ lent' k e))

    abbrev m₁ : List Bool
    m₁ = slice_set m k true

    pub taken_marks : take size m₁ ≡ slice_set (take size m) k true
    taken_marks = take-set-lt size m k true below_size

    pub taken_low : BelowSize size m₁
    taken_low n e = ⊎_elim (λ (q : n ≡ k). omega (arith, below_size)) (λ (q : n ≢ k). low n (marked_then m k true n (omega (arith, below_size, size_few)) e q)) (cases_eq n k)

    still : (n : ℕ) → is_out B n ≡ true → is_out B' n ≡ true
    still n e = ⊎_elim (λ (q : n ≡ k). ap (is_out B') q ∙ g.out) (λ (q : n ≢ k). g.others n q ∙ e) (cases_eq n k)

    pub taken_lent : Lent B' m₁
    taken_lent n e = ⊎_elim (λ (q : n ≡ k). ap (is_out B') q ∙ g.out) (λ (q : n ≢ k). still n (lent n (marked_then m k true n (omega (arith, below_size, size_few)) e q))) (cases_eq n k)

    pub taken_lent' : Lent B' m'
    taken_lent' n e = still n (lent' n e)

    pub taken_count : out + 1 ≡ marked (take size m₁)
    taken_count = omega (arith, count, ap marked taken_marks, marked_given (take size m) k (omega (arith, long, below_size)) (at k below_size ∙ unused))

    pub taken_divided : Divided m₁ m'
    taken_divided n e = ⊎_elim (λ (q : n ≡ k). ap (λ j. slice_index_or m' j false) q ∙ unused') (λ (q : n ≢ k). divided n (marked_then m k true n (omega (arith, below_size, size_few)) e q)) (cases_eq n k)

    pub taken_sized : size ≡ kept_size (size_of B')
    taken_sized = sized ∙ ap kept_size (sym g.size)

    pub taken_given : (c : ℕ) → Given (share_stock B size c limit m limit' m') (share_stock B' size c limit m₁ limit' m') k
    taken_given c = record {
      below = omega (arith, long, below_size);
      unused = at k below_size ∙ unused;
      allowed = ap (λ b. cond b true (barred_by B.aside.barred k)) (off_take size m' k unused') ∙ g.allowed;
      marks = taken_marks;
      allowance = less;
      aside = ap (λ a. record { barred = take size m' ∷ a.barred; terms = c ∷ limit ∷ limit' ∷ a.terms }) g.aside;
      size = omega (arith, ap length taken_marks, length-set (take size m) k true);
      out = ap (λ l. slice_index_or l k false) taken_marks ∙ get_or-set_same (take size m) k true false (omega (arith, long, below_size));
      others = λ n d. ap (λ l. slice_index_or l n false) taken_marks ∙ get_or-set_other (take size m) k n true false d;
      outs = omega (arith, taken_count, count);
      undone = ap (λ l. set l k false) taken_marks ∙ set-set (take size m) k true false ∙ set_unused (take size m) k (at k below_size ∙ unused);
    }
      where
        less : cond (nat_eq size 0) 0 (lesser (limit - marked (take size m)) B.allowance) ≡ cond (nat_eq size 0) 0 (lesser (limit - marked (take size m₁)) B'.allowance) + 1
        less =
            let a = g.allowance in
            let b = taken_count in
            grind (arith, nat_tests)

    pub taken_wide : length m₁ ≡ 4096
    taken_wide = length-set m k true ∙ wide

  -- ---- given back

  module _ (was : slice_index_or (take size m) k false ≡ true) (g : Returned B B' k) where
    was_in : slice_index_or m k false ≡ true
    was_in = in_take size m k was

    under : k < size
    under = low k was_in

    abbrev m₂ : List Bool
    m₂ = slice_set m k false

    back_marks : take size m₂ ≡ slice_set (take size m) k false
    back_marks = take-set-lt size m k false under

    left : (n : ℕ) → slice_index_or m₂ n false ≡ true → (n ≢ k) × (slice_index_or m n false ≡ true)
    left n e = (off, marked_then m k false n (omega (arith, under, size_few)) e off)
      where
        off : n ≢ k
        off q = both_ways false refl (sym (ap (λ j. slice_index_or m₂ j false) q ∙ get_or-set_same m k false false (omega (arith, under, size_few, wide))) ∙ e)

    others_out : (n : ℕ) → (n ≢ k) → is_out B n ≡ true → is_out B' n ≡ true
    others_out n d e = g.others n d ∙ e

    pub back_low : BelowSize size m₂
    back_low n e = low n (left n e).1

    pub back_lent : Lent B' m₂
    back_lent n e = others_out n (left n e).0 (lent n (left n e).1)

    pub back_lent' : Lent B' m'
    back_lent' n e = others_out n (λ q. both_ways false refl (sym (divided k was_in) ∙ ap (λ j. slice_index_or m' j false) (sym q) ∙ e)) (lent' n e)

    pub back_count : out - 1 ≡ marked (take size m₂)
    back_count = omega (arith, count, ap marked back_marks, marked_returned (take size m) k was)

    pub back_divided : Divided m₂ m'
    back_divided n e = divided n (left n e).1

    pub back_sized : size ≡ kept_size (size_of B')
    back_sized = sized ∙ ap kept_size (sym g.size)

    pub back_wide : length m₂ ≡ 4096
    back_wide = length-set m k false ∙ wide

    pub back_some : 0 < out
    back_some = omega (arith, count, marked_returned (take size m) k was)

    pub back_returned : (c : ℕ) → Returned (share_stock B size c limit m limit' m') (share_stock B' size c limit m₂ limit' m') k
    back_returned c = record {
      was_out = was;
      marks = back_marks;
      allowance = more;
      aside = ap (λ a. record { barred = take size m' ∷ a.barred; terms = c ∷ limit ∷ limit' ∷ a.terms }) g.aside;
      allowed = ap (λ b. cond b true (barred_by B.aside.barred k)) (off_take size m' k (divided k was_in)) ∙ g.allowed;
      size = omega (arith, ap length back_marks, length-set (take size m) k false);
      unused = ap (λ l. slice_index_or l k false) back_marks ∙ get_or-set_same (take size m) k false false (out_within (take size m) k was);
      others = λ n d. ap (λ l. slice_index_or l n false) back_marks ∙ get_or-set_other (take size m) k n false false d;
      outs = omega (arith, ap marked back_marks, marked_returned (take size m) k was);
    }
      where
        more : cond (nat_eq size 0) 0 (lesser (limit - marked (take size m₂)) B'.allowance) ≡ cond (nat_eq size 0) 0 (lesser (limit - marked (take size m)) B.allowance) + 1
        more =
            let a = g.allowance in
            let b = back_count in
            let d = back_some in
            let e = under in
            grind (arith, nat_tests)

-- what an allowance above 0 says
pub may_take : (size limit n A : ℕ) → 0 < cond (nat_eq size 0) 0 (lesser (limit - n) A) → (0 < size) × (n < limit)
may_take size limit n A l = (grind (arith, nat_tests), grind (arith, nat_tests))

-- ---- a new one

module _ (B : Stock) (c limit limit' : ℕ) (wide : List Bool) (blank : wide ≡ replicate 4096 false) where
  abbrev size : ℕ
  size = kept_size (size_of B)

  pub new_marks : take size wide ≡ replicate size false
  new_marks = ap (take size) blank ∙ take-replicate size 4096 false (kept_most (size_of B))

  pub new_share : (s : ℕ) → s ≡ size → (m' : List Bool) → m' ≡ replicate 4096 false → share_stock B s c limit wide limit' m' ≡ unshared B c limit limit'
  new_share s e m' blank' =
      ap (λ z. share_stock B z c limit wide limit' m') e
      ∙ ap (λ l. record { marks = l; allowance = cond (nat_eq size 0) 0 (lesser (limit - marked l) B.allowance); aside = record { barred = take size m' ∷ B.aside.barred; terms = c ∷ limit ∷ limit' ∷ B.aside.terms } }) new_marks
      ∙ ap (λ l. record { marks = replicate size false; allowance = cond (nat_eq size 0) 0 (lesser (limit - marked (replicate size false)) B.allowance); aside = record { barred = l ∷ B.aside.barred; terms = c ∷ limit ∷ limit' ∷ B.aside.terms } }) (ap (take size) blank' ∙ take-replicate size 4096 false (kept_most (size_of B)))
      ∙ ap (λ n. record { marks = replicate size false; allowance = cond (nat_eq size 0) 0 (lesser n B.allowance); aside = record { barred = replicate size false ∷ B.aside.barred; terms = c ∷ limit ∷ limit' ∷ B.aside.terms } }) whole
    where
      whole : limit - marked (replicate size false) ≡ limit
      whole = omega (arith, none_marked size)

  pub new_none : (n : ℕ) → slice_index_or wide n false ≡ false
  new_none n =
      ap (λ l. slice_index_or l n false) blank
      ∙ ⊎_elim (λ (l : n < 4096). get_or-replicate 4096 n false false l) (λ (l : 4096 ≤ n). get_or_past (replicate 4096 false) n false (omega (arith, length-replicate 4096 false))) (cases_lt n 4096)

  pub new_off : (n : ℕ) → slice_index_or wide n false ≡ true → ⊥
  new_off n e = both_ways false refl (sym (new_none n) ∙ e)

  pub new_count : (s : ℕ) → s ≡ size → 0 ≡ marked (take s wide)
  new_count s e = sym (ap (λ z. marked (take z wide)) e ∙ ap marked new_marks ∙ none_marked size)

  pub new_wide : length wide ≡ 4096
  new_wide = ap length blank ∙ length-replicate 4096 false
