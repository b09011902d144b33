-- What the functions of `Bitmap` rest on. Assumes nothing.
use Rattle.std.proofs.Common.{◌≡◌, ℕ, zero, suc, ◌+◌, ◌-◌, ◌*◌, ◌/◌, ◌%◌, ◌^◌, ◌<◌, ◌≤◌, Bool, true, false, cond, not, eqb, List, length, get_or, take, drop, set, replicate, sym, refl, ap, ◌∙◌, subst, ap₂, ⊎_elim, arith, length-take}
use lib.Bits.{bit_xor, bit_and, and_mask}
use lib.Count.{count_trailing_zeros}
use lib.Seq.{take-set-lt}
use Rattle.std.proofs.lemmas.List.Sums.{sum_by-take-drop}
use Rattle.std.proofs.lemmas.List.{get_or-take, drop-set-lt, length-take-le, take-replicate, drop-replicate}
use Rattle.std.proofs.lemmas.Nat.{one_shl}
use Rattle.std.proofs.lemmas.Bool.{not-false, not-true, cases_lt}
use Rattle.supply.specs.Stocks.{is_out, marked, counted, fresh, Given, Returned}
use Rattle.supply.specs.Words.{digits, spread, bit_stock}
use Rattle.supply.proofs.StockLaws.{out_within, counted_given, counted_returned, counted_fresh, all_marked, none_marked}
use Rattle.supply.proofs.Digits.{length_spread, index_spread, set_spread, digits_turn, digit_at, turned_digit, trailing_lowest, digits_zero, spread_zero}

-- the mark of n is the digit n % 64 of the word n / 64
pub index_spread_at : (ws : List ℕ) (n : ℕ) → n < length ws * 64 → get_or (spread ws) n false ≡ get_or (digits 64 (get_or ws (n / 64) 0)) (n % 64) false
index_spread_at ws n h =
    let e : n ≡ n / 64 * 64 + n % 64 = omega arith in
    ap (λ k. get_or (spread ws) k false) e ∙ index_spread ws (n / 64) (n % 64) false (omega arith) (omega arith)

-- `(w >> n % 64) & 1 == 1`
pub bit_is : (ws : List ℕ) (n : ℕ) → n < length ws * 64 → eqb (bit_and (get_or ws (n / 64) 0 / 2 ^ (n % 64)) 1) 1 ≡ get_or (spread ws) n false
bit_is ws n h =
    ap (λ x. eqb x 1) (and_mask (get_or ws (n / 64) 0 / 2 ^ (n % 64)) 1)
    ∙ sym (index_spread_at ws n h ∙ digit_at 64 (n % 64) (get_or ws (n / 64) 0) (omega arith))

-- `w ^ 1 << n % 64`
pub flip_is : (ws : List ℕ) (n : ℕ) → n < length ws * 64
    → spread (set ws (n / 64) (bit_xor (get_or ws (n / 64) 0) ((1 * 2 ^ (n % 64)) % 2 ^ 64))) ≡ set (spread ws) n (not (get_or (spread ws) n false))
flip_is ws n h =
    let e : n / 64 * 64 + n % 64 ≡ n = omega arith in
    let w : ℕ = get_or ws (n / 64) 0 in
    let t : digits 64 (bit_xor w ((1 * 2 ^ (n % 64)) % 2 ^ 64)) ≡ set (digits 64 w) (n % 64) (not (get_or (spread ws) n false)) =
    ap (λ b. digits 64 (bit_xor w b)) (one_shl (n % 64) 64 (omega arith)) ∙ digits_turn 64 (n % 64) w (omega arith)
    ∙ ap (λ b. set (digits 64 w) (n % 64) (not b)) (sym (index_spread_at ws n h)) in
    set_spread ws (n / 64) (n % 64) _ (not (get_or (spread ws) n false)) (omega arith) (omega arith) t
    ∙ ap (λ k. set (spread ws) k (not (get_or (spread ws) n false))) e

pub flip_clear : (ws ws' : List ℕ) (n k : ℕ) (b : Bool) → k < n → spread ws' ≡ set (spread ws) k b → marked (drop n (spread ws)) ≡ 0 → marked (drop n (spread ws')) ≡ 0
flip_clear ws ws' n k b h e z = ap (λ l. marked (drop n l)) e ∙ ap marked (drop-set-lt n (spread ws) k b h) ∙ z

-- a word that has every digit set
full_digit : (w j : ℕ) → w ≡ 2 ^ 64 - 1 → j < 64 → get_or (digits 64 w) j false ≡ true
full_digit w j e h =
    let t : get_or (digits 64 0) j false ≡ not (get_or (digits 64 w) j false) = turned_digit 64 w 0 (omega arith) j h in
    let z : get_or (digits 64 0) j false ≡ false = ap (λ l. get_or l j false) (digits_zero 64) ∙ replicate_false 64 j in
    not-false (get_or (digits 64 w) j false) (sym t ∙ z)
  where
    replicate_false : (n j : ℕ) → get_or (replicate n false) j false ≡ false
    replicate_false zero j = refl
    replicate_false (suc n) zero = refl
    replicate_false (suc n) (suc j) = replicate_false n j

abbrev pub Full : List ℕ → ℕ → Type 0
Full ws i = (k : ℕ) → k < i → get_or ws k 0 ≡ 2 ^ 64 - 1

-- all is set below a place in front of which every word is full
pub full_before : (ws : List ℕ) (i : ℕ) → i ≤ length ws → Full ws i → (k : ℕ) → k < i * 64 → get_or (spread ws) k false ≡ true
full_before ws i h f k q = index_spread_at ws k (omega arith) ∙ full_digit (get_or ws (k / 64) 0) (k % 64) (f (k / 64) (omega arith)) (omega arith)

-- u is the word at i with every digit turned, and t the lowest digit that is set in it
module _ (ws : List ℕ) (i u : ℕ) (within : i < length ws) (full : Full ws i) (turned : u + get_or ws i 0 + 1 ≡ 2 ^ 64) (some : 0 < u) where
  pub lowest_within : count_trailing_zeros 64 u < 64
  lowest_within = (trailing_lowest 64 u some (omega arith)).0

  pub lowest_here : get_or (spread ws) (i * 64 + count_trailing_zeros 64 u) false ≡ false
  lowest_here =
      index_spread ws i (count_trailing_zeros 64 u) false within lowest_within
      ∙ not-true (get_or (digits 64 (get_or ws i 0)) (count_trailing_zeros 64 u) false)
      (sym (turned_digit 64 (get_or ws i 0) u turned (count_trailing_zeros 64 u) lowest_within) ∙ (trailing_lowest 64 u some (omega arith)).1)

  pub lowest_before : (k : ℕ) → k < i * 64 + count_trailing_zeros 64 u → get_or (spread ws) k false ≡ true
  lowest_before k q = ⊎_elim (full_before ws i (omega arith) full k) past (cases_lt k (i * 64))
    where
      past : i * 64 ≤ k → get_or (spread ws) k false ≡ true
      past p =
          let j : ℕ = k - i * 64 in
          let e : k ≡ i * 64 + j = omega arith in
          let h : j < 64 = omega (arith, lowest_within) in
          ap (λ k. get_or (spread ws) k false) e ∙ index_spread ws i j false within h
          ∙ not-false (get_or (digits 64 (get_or ws i 0)) j false)
          (sym (turned_digit 64 (get_or ws i 0) u turned j h) ∙ (trailing_lowest 64 u some (omega arith)).2 j (omega arith))

-- ---- the whole bitmap

pub size_is : (ws : List ℕ) (n : ℕ) → n ≤ length ws * 64 → length (take n (spread ws)) ≡ n
size_is ws n h = length-take-le n (spread ws) (omega (arith, length_spread ws))

-- the bits past the size are clear, so all that are set are counted
pub ones_are : (ws : List ℕ) (n : ℕ) → marked (drop n (spread ws)) ≡ 0 → marked (take n (spread ws)) ≡ marked (spread ws)
ones_are ws n z = omega (arith, sum_by-take-drop (λ b. cond b 1 0) (spread ws) n)

pub new_clear : (n : ℕ) → marked (drop n (spread (replicate 64 0))) ≡ 0
new_clear n = ap (λ l. marked (drop n l)) (spread_zero 64) ∙ ap marked (drop-replicate n 4096 false) ∙ none_marked (4096 - n)

pub new_fresh : (n : ℕ) → n ≤ 4096 → bit_stock n (replicate 64 0) ≡ fresh n
new_fresh n h = ap (λ l. counted (take n l)) (spread_zero 64) ∙ ap counted (take-replicate n 4096 false h) ∙ counted_fresh n

pub take_none : (ws : List ℕ) (n r : ℕ) → n ≤ r → ((k : ℕ) → k < r → get_or (spread ws) k false ≡ true) → (bit_stock n ws).allowance ≡ 0
take_none ws n r h f =
    let l : length (take n (spread ws)) ≤ n = omega (arith, length-take n (spread ws)) in
    let e : marked (take n (spread ws)) ≡ length (take n (spread ws)) =
    all_marked (take n (spread ws)) (λ k q. let d : k < n = omega arith in get_or-take n (spread ws) k false d ∙ f k (omega arith)) in
    omega arith

pub take_some : (ws ws' : List ℕ) (n n' k : ℕ) → n ≤ length ws * 64 → k < n → n' ≡ n → get_or (spread ws) k false ≡ false
    → spread ws' ≡ set (spread ws) k (not (get_or (spread ws) k false)) → Given (bit_stock n ws) (bit_stock n' ws') k
take_some ws ws' n n' k fits h same f e =
    let m : List Bool = take n (spread ws) in
    let after : take n' (spread ws') ≡ set m k true =
    ap₂ take same (e ∙ ap (λ b. set (spread ws) k (not b)) f) ∙ take-set-lt n (spread ws) k true h in
    subst (λ a. Given (counted m) (counted a) k) (sym after) (counted_given m k (omega (arith, size_is ws n fits)) (get_or-take n (spread ws) k false h ∙ f))

-- ---- a number that is out

pub out_below : (ws : List ℕ) (n k : ℕ) → get_or (take n (spread ws)) k false ≡ true → k < n
out_below ws n k h = omega (arith, out_within (take n (spread ws)) k h, length-take n (spread ws))

pub give_some : (ws ws' : List ℕ) (n n' k : ℕ) → n' ≡ n → get_or (take n (spread ws)) k false ≡ true
    → spread ws' ≡ set (spread ws) k (not (get_or (spread ws) k false)) → Returned (bit_stock n ws) (bit_stock n' ws') k
give_some ws ws' n n' k same f e =
    let m : List Bool = take n (spread ws) in
    let h : k < n = out_below ws n k f in
    let was : get_or (spread ws) k false ≡ true = sym (get_or-take n (spread ws) k false h) ∙ f in
    let after : take n' (spread ws') ≡ set m k false =
    ap₂ take same (e ∙ ap (λ b. set (spread ws) k (not b)) was) ∙ take-set-lt n (spread ws) k false h in
    subst (λ a. Returned (counted m) (counted a) k) (sym after) (counted_returned m k f)

-- what holds of the words below a number holds of the stock
pub lowest_out : (ws : List ℕ) (n r : ℕ) → r ≤ n → ((k : ℕ) → k < r → get_or (spread ws) k false ≡ true) → (k : ℕ) → k < r → is_out (bit_stock n ws) k ≡ true
lowest_out ws n r h f k q = get_or-take n (spread ws) k false (omega arith) ∙ f k q
