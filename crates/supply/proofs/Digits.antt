-- Laws of the digits of words, and of words spread into a row of marks. Assumes nothing.
use Rattle.std.proofs.Common.{◌≡◌, ℕ, zero, suc, ◌+◌, ◌-◌, ◌*◌, ◌/◌, ◌%◌, ◌^◌, ◌<◌, Bool, true, false, cond, not, eqb, List, [], ◌∷◌, ◌++◌, length, get_or, take, set, replicate, sym, refl, ap, ◌∙◌, ap₂, mod-lt, pow-suc, one-add, arith, lit<, length-append}
use lib.Bits.{bit_xor, xor_shr, xor_mod, xor_zero_r}
use lib.Count.{ones, ones_step, count_trailing_zeros, under}
use Rattle.std.specs.List.{sum_by}
use Rattle.std.proofs.lemmas.List.Sums.{sum_by-cons, sum_by-append, count_by-le-length}
use Rattle.std.proofs.lemmas.List.{get_or_append_left, get_or-append_right, set-append_left, set-append_right, take_more, append_assoc, append-nil, replicate-append-replicate}
use Rattle.std.proofs.lemmas.Nat.{shr-shr}
use Rattle.supply.specs.Stocks.{marked}
use Rattle.supply.specs.Words.{digits, spread}

pub length_digits : (k n : ℕ) → length (digits k n) ≡ k
unfolding digits
length_digits zero n = refl
length_digits (suc k) n = ap suc (length_digits k (n / 2))

pub length_spread : (ws : List ℕ) → length (spread ws) ≡ length ws * 64
unfolding spread
length_spread [] = refl
length_spread (w ∷ ws) = omega (arith, length-append (digits 64 w) (spread ws), length_digits 64 w, length_spread ws)

pub index_spread : (ws : List ℕ) (i j : ℕ) (d : Bool) → i < length ws → j < 64 → get_or (spread ws) (i * 64 + j) d ≡ get_or (digits 64 (get_or ws i 0)) j d
unfolding spread
index_spread [] i j d h q = absurd (omega arith)
index_spread (w ∷ ws) zero j d h q =
    let e : 0 * 64 + j ≡ j = omega arith in
    ap (λ n. get_or (digits 64 w ++ spread ws) n d) e ∙ get_or_append_left (digits 64 w) (spread ws) d j (omega (arith, length_digits 64 w))
index_spread (w ∷ ws) (suc i) j d h q =
    let e : suc i * 64 + j - 64 ≡ i * 64 + j = omega arith in
    get_or-append_right (digits 64 w) (spread ws) 64 (suc i * 64 + j) d (length_digits 64 w) (omega arith)
    ∙ ap (λ n. get_or (spread ws) n d) e ∙ index_spread ws i j d (omega arith) q

pub set_spread : (ws : List ℕ) (i j y : ℕ) (b : Bool) → i < length ws → j < 64 → digits 64 y ≡ set (digits 64 (get_or ws i 0)) j b → spread (set ws i y) ≡ set (spread ws) (i * 64 + j) b
unfolding spread
set_spread [] i j y b h q e = absurd (omega arith)
set_spread (w ∷ ws) zero j y b h q e =
    let s : 0 * 64 + j ≡ j = omega arith in
    ap (λ l. l ++ spread ws) e ∙ sym (set-append_left (digits 64 w) (spread ws) j b (omega (arith, length_digits 64 w)))
    ∙ ap (λ n. set (digits 64 w ++ spread ws) n b) (sym s)
set_spread (w ∷ ws) (suc i) j y b h q e =
    let s : suc i * 64 + j - 64 ≡ i * 64 + j = omega arith in
    ap (λ l. digits 64 w ++ l) (set_spread ws i j y b (omega arith) q e ∙ ap (λ n. set (spread ws) n b) (sym s))
    ∙ sym (set-append_right (digits 64 w) (spread ws) 64 (suc i * 64 + j) b (length_digits 64 w) (omega arith))

-- ---- one digit is turned

turn_low : (x : ℕ) → x < 2 → eqb (bit_xor x 1) 1 ≡ not (eqb x 1)
turn_low zero h = refl
turn_low (suc zero) h = refl
turn_low (suc (suc x)) h = absurd (omega arith)

pub digits_turn : (k j n : ℕ) → j < k → digits k (bit_xor n (2 ^ j)) ≡ set (digits k n) j (not (get_or (digits k n) j false))
unfolding digits
digits_turn zero j n h = absurd (omega arith)
digits_turn (suc k) zero n h =
    ap₂ (λ b m. b ∷ digits k m) (ap (λ x. eqb x 1) (xor_mod n 1 1) ∙ turn_low (n % 2) (mod-lt n (lit< tt))) (xor_shr n 1 1 ∙ xor_zero_r (n / 2))
digits_turn (suc k) (suc j) n h =
    let low : 2 ^ suc j % 2 ≡ 0 = omega (arith, pow-suc 2 j) in
    let half : 2 ^ suc j / 2 ≡ 2 ^ j = omega (arith, pow-suc 2 j) in
    let odd : bit_xor n (2 ^ suc j) % 2 ≡ n % 2 = xor_mod n (2 ^ suc j) 1 ∙ ap (bit_xor (n % 2)) low ∙ xor_zero_r (n % 2) in
    let rest : bit_xor n (2 ^ suc j) / 2 ≡ bit_xor (n / 2) (2 ^ j) = xor_shr n (2 ^ suc j) 1 ∙ ap (bit_xor (n / 2)) half in
    ap₂ (λ b m. eqb b 1 ∷ m) odd (ap (digits k) rest ∙ digits_turn k j (n / 2) (omega arith))

-- ---- a digit is read

pub digit_at : (k j n : ℕ) → j < k → get_or (digits k n) j false ≡ eqb (n / 2 ^ j % 2) 1
unfolding digits
digit_at zero j n h = absurd (omega arith)
digit_at (suc k) zero n h = ap (λ x. eqb (x % 2) 1) (omega arith)
digit_at (suc k) (suc j) n h =
    digit_at k j (n / 2) (omega arith) ∙ ap (λ x. eqb (x % 2) 1) (shr-shr n 1 j ∙ ap (λ m. n / 2 ^ m) (one-add j))

-- ---- digits are counted

low_one : (x : ℕ) → x < 2 → cond (eqb x 1) 1 0 ≡ x
low_one zero h = refl
low_one (suc zero) h = refl
low_one (suc (suc x)) h = absurd (omega arith)

pub count_digits : (k n : ℕ) → n < 2 ^ k → marked (digits k n) ≡ ones n
unfolding digits ones
count_digits zero n h = let z : 0 ≡ n = omega arith in ap ones z
count_digits (suc k) n h =
    sum_by-cons (λ b. cond b 1 0) (eqb (n % 2) 1) (digits k (n / 2))
    ∙ ap₂ (λ a b. a + b) (low_one (n % 2) (mod-lt n (lit< tt))) (count_digits k (n / 2) (omega (arith, pow-suc 2 k))) ∙ sym (ones_step n)

pub spread_append : (xs ys : List ℕ) → spread (xs ++ ys) ≡ spread xs ++ spread ys
unfolding spread
spread_append [] ys = refl
spread_append (x ∷ xs) ys = ap (λ l. digits 64 x ++ l) (spread_append xs ys) ∙ sym (append_assoc (digits 64 x) (spread xs) (spread ys))

spread_one : (w : ℕ) → spread (w ∷ []) ≡ digits 64 w
unfolding spread
spread_one w = append-nil (digits 64 w)

-- one word more
pub marked_more : (ws : List ℕ) (i : ℕ) → i < length ws → get_or ws i 0 < 2 ^ 64 → marked (spread (take (i + 1) ws)) ≡ marked (spread (take i ws)) + ones (get_or ws i 0)
marked_more ws i h f =
    ap (λ l. marked (spread l)) (take_more ws i 0 h)
    ∙ ap marked (spread_append (take i ws) (get_or ws i 0 ∷ []) ∙ ap (λ l. spread (take i ws) ++ l) (spread_one (get_or ws i 0)))
    ∙ sum_by-append (λ b. cond b 1 0) (spread (take i ws)) (digits 64 (get_or ws i 0))
    ∙ ap (λ n. marked (spread (take i ws)) + n) (count_digits 64 (get_or ws i 0) f)

-- the bits of words are those of each in turn
pub marked_words : (ws : List ℕ) → ((k : ℕ) → k < length ws → get_or ws k 0 < 2 ^ 64) → marked (spread ws) ≡ sum_by ones ws
unfolding spread
marked_words [] fits = refl
marked_words (w ∷ ws) fits =
    sum_by-append (λ b. cond b 1 0) (digits 64 w) (spread ws)
    ∙ ap₂ (λ a b. a + b) (count_digits 64 w (fits 0 (omega arith))) (marked_words ws (λ k h. fits (suc k) (omega arith)))
    ∙ sym (sum_by-cons ones w ws)

-- and so the bits of 64 words are few
pub words_few : (ws : List ℕ) → length ws ≡ 64 → ((k : ℕ) → k < length ws → get_or ws k 0 < 2 ^ 64) → sum_by ones ws < 2 ^ 16
words_few ws long fits = omega (arith, marked_words ws fits, count_by-le-length (λ b. b) (spread ws), length_spread ws)

-- ---- the lowest digit that is set

abbrev Lowest : ℕ → List Bool → ℕ → Type 0
Lowest t ds k = (t < k) × (get_or ds t false ≡ true) × ((j : ℕ) → j < t → get_or ds j false ≡ false)

lowest_step : (x t k : ℕ) (ds : List Bool) → x < 2 → (x ≡ 0 → Lowest t ds k) → Lowest (under x t) (eqb x 1 ∷ ds) (suc k)
lowest_step zero t k ds h f = let r = f refl in (omega (arith, r.0), r.1, below r)
  where
    below : Lowest t ds k → (j : ℕ) → j < suc t → get_or (false ∷ ds) j false ≡ false
    below r zero q = refl
    below r (suc j) q = r.2 j (omega arith)
lowest_step (suc zero) t k ds h f = (omega arith, refl, λ j q. absurd (omega arith))
lowest_step (suc (suc x)) t k ds h f = absurd (omega arith)

pub trailing_lowest : (k n : ℕ) → 0 < n → n < 2 ^ k → Lowest (count_trailing_zeros k n) (digits k n) k
unfolding digits count_trailing_zeros
trailing_lowest zero n p h = absurd (omega arith)
trailing_lowest (suc k) n p h =
    lowest_step (n % 2) (count_trailing_zeros k (n / 2)) k (digits k (n / 2)) (mod-lt n (lit< tt))
    (λ e. trailing_lowest k (n / 2) (omega arith) (omega (arith, pow-suc 2 k)))

-- ---- every digit is turned

turn_digit : (x y : ℕ) → x + y ≡ 1 → eqb x 1 ≡ not (eqb y 1)
turn_digit zero zero h = absurd (omega arith)
turn_digit zero (suc zero) h = refl
turn_digit zero (suc (suc y)) h = absurd (omega arith)
turn_digit (suc zero) zero h = refl
turn_digit (suc x) (suc y) h = absurd (omega arith)
turn_digit (suc (suc x)) zero h = absurd (omega arith)

-- u is w with every digit turned
pub turned_digit : (k w u : ℕ) → u + w + 1 ≡ 2 ^ k → (j : ℕ) → j < k → get_or (digits k u) j false ≡ not (get_or (digits k w) j false)
unfolding digits
turned_digit zero w u h j q = absurd (omega arith)
turned_digit (suc k) w u h zero q = turn_digit (u % 2) (w % 2) (omega (arith, pow-suc 2 k))
turned_digit (suc k) w u h (suc j) q = turned_digit k (w / 2) (u / 2) (omega (arith, pow-suc 2 k)) j (omega arith)

pub digits_zero : (k : ℕ) → digits k 0 ≡ replicate k false
unfolding digits
digits_zero zero = refl
digits_zero (suc k) = ap (λ l. false ∷ l) (digits_zero k)

pub spread_zero : (m : ℕ) → spread (replicate m 0) ≡ replicate (m * 64) false
unfolding spread
spread_zero zero = refl
spread_zero (suc m) =
    let e : 64 + m * 64 ≡ suc m * 64 = omega arith in
    ap₂ (λ a b. a ++ b) (digits_zero 64) (spread_zero m) ∙ replicate-append-replicate 64 (m * 64) false ∙ ap (λ n. replicate n false) e
