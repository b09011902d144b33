-- One supply shared by two callers, who are served by turns.
--   lesser            the lesser of two numbers
--   share_stock       the supply as one caller means it: what is out is its own, the allowance is the lesser of what its limit leaves and the
--                     allowance below; barred is what the other has, and what is barred below
--   share_for         the same of either caller, by its number
--   unshared          a share of which nothing is out, over the supply B
--   BelowSize size m  each number that is marked is below the size
--   Lent B m          each number that is marked is out in the supply below
--   Divided m m'      no number is marked in both rows
use Rattle.std.specs.Prelude.{◌≡◌, ℕ, ◌-◌, ◌<◌, Bool, true, false, cond, List, ◌∷◌, replicate, take, nat_lt, nat_eq, slice_index_or}
use Rattle.supply.specs.Stocks.{Stock, size_of, is_out, kept_size, marked}

abbrev pub lesser : ℕ → ℕ → ℕ
lesser a b = cond (nat_lt a b) a b

-- B is the supply below; c, limit and m are the caller's number, limit and marks; limit' and m' are the other's
abbrev pub share_stock : Stock → ℕ → ℕ → ℕ → List Bool → ℕ → List Bool → Stock
share_stock B size c limit m limit' m' = record {
  marks = take size m;
  allowance = cond (nat_eq size 0) 0 (lesser (limit - marked (take size m)) B.allowance);
  aside = record { barred = take size m' ∷ B.aside.barred; terms = c ∷ limit ∷ limit' ∷ B.aside.terms };
}

-- the same of either caller, by its number: c is served
abbrev pub share_for : Stock → ℕ → ℕ → ℕ → List Bool → ℕ → List Bool → ℕ → Stock
share_for B size c limit m limit' m' n = cond (nat_eq n c) (share_stock B size c limit m limit' m') (share_stock B size n limit' m' limit m)

abbrev pub BelowSize : ℕ → List Bool → Type 0
BelowSize size m = (n : ℕ) → slice_index_or m n false ≡ true → n < size

abbrev pub Lent : Stock → List Bool → Type 0
Lent B m = (n : ℕ) → slice_index_or m n false ≡ true → is_out B n ≡ true

abbrev pub Divided : List Bool → List Bool → Type 0
Divided m m' = (n : ℕ) → slice_index_or m n false ≡ true → slice_index_or m' n false ≡ false

-- a share of which nothing is out, over the supply B
abbrev pub unshared : Stock → ℕ → ℕ → ℕ → Stock
unshared B c limit limit' = record {
  marks = replicate (kept_size (size_of B)) false;
  allowance = cond (nat_eq (kept_size (size_of B)) 0) 0 (lesser limit B.allowance);
  aside = record { barred = replicate (kept_size (size_of B)) false ∷ B.aside.barred; terms = c ∷ limit ∷ limit' ∷ B.aside.terms };
}
