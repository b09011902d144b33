-- Laws of stretches of a table. Assumes nothing.
use Rattle.std.proofs.Common.{◌≡◌, ℕ, ◌+◌, ◌-◌, ◌<◌, ◌≤◌, min, List, [], ◌∷◌, ◌++◌, length, get_or, take, drop, set, sym, refl, ap, ◌∙◌, subst, ap₂, ⊎_elim, add-zero, arith, length-append, length-drop, length-set, length-take, get_or-drop, get_or-set_other, get_or-take, get_or-set_same}
use Rattle.std.proofs.lemmas.List.{same_lists, get_or_read, get_or_default, length-take-le, take_at, drop_at, get_or_append_left, get_or-append_right, drop-drop}
use Rattle.std.proofs.lemmas.Bool.{cases_lt}
use Rattle.node.specs.Cells.{span, Put}

module _ {X : Type 0} where
  pub span_at : (xs : List X) (a n k : ℕ) (d : X) → k < n → get_or (span xs a n) k d ≡ get_or xs (a + k) d
  span_at xs a n k d l = get_or-take n (drop a xs) k d l ∙ get_or-drop a xs k d

  pub span_len : (xs : List X) (a n : ℕ) → length (span xs a n) ≡ min n (length xs - a)
  span_len xs a n = simp (length-take, length-drop)

  pub span_length : (xs : List X) (a n : ℕ) → a + n ≤ length xs → length (span xs a n) ≡ n
  span_length xs a n l = simp (length-take, length-drop) (omega arith)

  -- stretches that agree at each place
  pub span_same : (xs ys : List X) (a b n : ℕ) → length xs - a ≡ length ys - b → ((k : ℕ) (d : X) → k < n → get_or xs (a + k) d ≡ get_or ys (b + k) d) → span xs a n ≡ span ys b n
  span_same xs ys a b n e f =
      same_lists (span xs a n) (span ys b n) (span_len xs a n ∙ ap (min n) e ∙ sym (span_len ys b n))
      (λ k d l.
      let p : k < n = omega (arith, span_len xs a n) in
      span_at xs a n k d p ∙ f k d p ∙ sym (span_at ys b n k d p))

  -- a stretch in two parts
  pub span_split : (xs : List X) (a m n : ℕ) → span xs a (m + n) ≡ span xs a m ++ span xs (a + m) n
  span_split xs a m n =
      same_lists (span xs a (m + n)) (span xs a m ++ span xs (a + m) n)
      (span_len xs a (m + n) ∙ sym (length-append (span xs a m) (span xs (a + m) n) ∙ omega (arith, span_len xs a m, span_len xs (a + m) n)))
      (λ k d l.
      let p : k < m + n = omega (arith, span_len xs a (m + n)) in
      let q : k < length xs - a = omega (arith, span_len xs a (m + n)) in
      ⊎_elim
      (λ (h : k < m). span_at xs a (m + n) k d p ∙ sym (get_or_append_left (span xs a m) (span xs (a + m) n) d k (omega (arith, span_len xs a m)) ∙ span_at xs a m k d h))
      (λ (h : m ≤ k).
      let z : a + m + (k - m) ≡ a + k = omega arith in
      span_at xs a (m + n) k d p
      ∙ sym (get_or-append_right (span xs a m) (span xs (a + m) n) m k d (omega (arith, span_len xs a m)) h
      ∙ span_at xs (a + m) n (k - m) d (omega arith) ∙ ap (λ i. get_or xs i d) z))
      (cases_lt k m))

-- what is copied within a table
pub copied : {X : Type 0} (xs ys : List X) (from to n : ℕ) → from + n ≤ length xs → to + n ≤ length xs → length ys ≡ length xs
    → ((k : ℕ) (d : X) → to ≤ k → k < to + n → get_or ys k d ≡ get_or xs (from + (k - to)) d)
    → ((k : ℕ) (d : X) → k < to → get_or ys k d ≡ get_or xs k d)
    → ((k : ℕ) (d : X) → to + n ≤ k → get_or ys k d ≡ get_or xs k d)
    → Put xs ys to (span xs from n)
copied xs ys from to n inner room size there before behind =
    let len : length (span xs from n) ≡ n = span_length xs from n inner in
    record {
      size = size;
      here = ap (span ys to) len ∙ same_lists (span ys to n) (span xs from n) (omega (arith, span_len ys to n))
          (λ k d l.
          let p : k < n = omega (arith, span_len ys to n) in
          let z : from + (to + k - to) ≡ from + k = omega arith in
          span_at ys to n k d p ∙ there (to + k) d (omega arith) (omega arith) ∙ ap (λ i. get_or xs i d) z ∙ sym (span_at xs from n k d p));
      before = λ a m l. span_same ys xs a a m (ap (λ z. z - a) size) (λ k d p. before (a + k) d (omega arith));
      behind = λ a m l. span_same ys xs a a m (ap (λ z. z - a) size) (λ k d p. behind (a + k) d (omega arith));
    }

-- one cell written
pub written : {X : Type 0} (xs : List X) (b : ℕ) (v : X) → b < length xs → Put xs (set xs b v) b (v ∷ [])
written xs b v l =
    let size : length (set xs b v) ≡ length xs = length-set xs b v in
    record {
      size = size;
      here = same_lists (span (set xs b v) b 1) (v ∷ []) (omega (arith, span_len (set xs b v) b 1))
          (λ k d p.
          let z : k ≡ 0 = omega (arith, span_len (set xs b v) b 1) in
          rw z (span_at (set xs b v) b 1 0 d (omega arith) ∙ rw (add-zero b) (get_or-set_same xs b v d l)));
      before = λ a m p. span_same (set xs b v) xs a a m (ap (λ z. z - a) size) (λ k d q. get_or-set_other xs b (a + k) v d (omega arith));
      behind = λ a m p. span_same (set xs b v) xs a a m (ap (λ z. z - a) size) (λ k d q. get_or-set_other xs b (a + k) v d (omega arith));
    }

module _ {X : Type 0} where
  -- a cell as a stretch of one
  pub span_one : (xs : List X) (a : ℕ) (v : X) → a < length xs → v ≡ get_or xs a v → span xs a 1 ≡ v ∷ []
  span_one xs a v l e =
      same_lists (span xs a 1) (v ∷ []) (omega (arith, span_len xs a 1))
      (λ k d p.
      let z : k ≡ 0 = omega (arith, span_len xs a 1) in
      rw z (span_at xs a 1 0 d (omega arith) ∙ rw (add-zero a) (sym (get_or_read xs a v l e d))))

  -- two writes side by side are one
  pub put_join : (xs ys zs : List X) (b : ℕ) (us vs : List X) → Put xs ys (b + length us) vs → Put ys zs b us → Put xs zs b (us ++ vs)
  put_join xs ys zs b us vs p q =
      let n : length (us ++ vs) ≡ length us + length vs = length-append us vs in
      record {
        size = q.size ∙ p.size;
        here = ap (span zs b) n ∙ span_split zs b (length us) (length vs)
            ∙ ap₂ (λ s t. s ++ t) q.here (q.behind (b + length us) (length vs) (omega arith) ∙ p.here);
        before = λ a m l. q.before a m l ∙ p.before a m (omega arith);
        behind = λ a m l. q.behind a m (omega arith) ∙ p.behind a m (omega arith);
      }

  -- one cell more
  pub span_more : (xs : List X) (a i : ℕ) (d : X) → a ≤ i → i < length xs → span xs a (i + 1 - a) ≡ span xs a (i - a) ++ get_or xs i d ∷ []
  span_more xs a i d p l =
      let z : i + 1 - a ≡ i - a + 1 = omega arith in
      let y : a + (i - a) ≡ i = omega arith in
      ap (span xs a) z ∙ span_split xs a (i - a) 1
      ∙ ap (λ s. span xs a (i - a) ++ s) (ap (λ n. span xs n 1) y ∙ span_one xs i (get_or xs i d) l (get_or_default xs i d (get_or xs i d) l))

  -- a stretch written over
  pub overlaid : (xs ws : List X) (b n : ℕ) → length ws ≡ n → b + n ≤ length xs → Put xs (take b xs ++ (ws ++ drop n (drop b xs))) b ws
  overlaid xs ws b n e l =
      let rest : List X = drop n (drop b xs) in
      let all : List X = take b xs ++ (ws ++ rest) in
      let front : length (take b xs) ≡ b = length-take-le b xs (omega arith) in
      let size : length all ≡ length xs =
      omega (arith, length-append (take b xs) (ws ++ rest), length-append ws rest, length-drop n (drop b xs), length-drop b xs) in
      let past : drop b all ≡ ws ++ rest = drop_at (take b xs) (ws ++ rest) b front in
      record {
        size = size;
        here = ap (take (length ws)) past ∙ take_at ws rest (length ws) refl;
        before = λ a m p.
            span_same all xs a a m (ap (λ z. z - a) size)
            (λ k d q. get_or_append_left (take b xs) (ws ++ rest) d (a + k) (omega arith) ∙ get_or-take b xs (a + k) d (omega arith));
        behind = λ a m p.
            let z : b + n + (a - (b + n)) ≡ a = omega arith in
            let end : drop (b + n) all ≡ drop (b + n) xs = sym (drop-drop n b all) ∙ ap (drop n) past ∙ drop_at ws rest n e ∙ drop-drop n b xs in
            let far : drop a all ≡ drop a xs =
            ap (λ i. drop i all) (sym z) ∙ sym (drop-drop (a - (b + n)) (b + n) all) ∙ ap (drop (a - (b + n))) end ∙ drop-drop (a - (b + n)) (b + n) xs ∙ ap (λ i. drop i xs) z in
            ap (take m) far;
      }

  -- a stretch of one list written over another, as the language copies between parts of slices
  pub pasted : (to from ys : List X) (dest at count : ℕ) → ys ≡ take (at + count - at) (drop at from) → at + count ≤ length from → dest + count ≤ length to
      → Put to (take dest to ++ (ys ++ drop (dest + count - dest) (drop dest to))) dest (span from at count)
  pasted to from ys dest at count e p q =
      let z : at + count - at ≡ count = omega arith in
      let y : dest + count - dest ≡ count = omega arith in
      let is : ys ≡ span from at count = e ∙ ap (λ n. take n (drop at from)) z in
      let abbrev-all : (List X → ℕ → List X) = λ us n. take dest to ++ (us ++ drop n (drop dest to)) in
      subst (λ (all : List X). Put to all dest (span from at count)) (sym (ap₂ abbrev-all is y))
      (overlaid to (span from at count) dest count (span_length from at count p) q)
