-- A node parted before an entry is put into it, or after.
use Rattle.std.proofs.Common.{◌≡◌, ℕ, zero, suc, ◌+◌, ◌-◌, ◌<◌, ◌≤◌, List, [], ◌∷◌, ◌++◌, length, get_or, take, drop, sym, refl, ap, ◌∙◌, arith, length-take}
use lib.Seq.{take-nil, drop-nil}
use Rattle.std.proofs.lemmas.List.{take-append-le, drop-append-le, take-take, drop-take, drop-drop, get_or_append_left, get_or-take}
use Rattle.node.specs.Shape.{Tree, mk}
use Rattle.rules.specs.Rules.{part}
use Rattle.node.specs.Rules.{parted, put, swap}

module _ {X : Type 0} where
  -- cut behind the place
  low_take : (i c : ℕ) (x : X) (xs : List X) → i ≤ c → take (suc c) (take i xs ++ x ∷ drop i xs) ≡ take i (take c xs) ++ x ∷ drop i (take c xs)
  low_take zero c x xs q = refl
  low_take (suc i) zero x xs q = absurd (omega arith)
  low_take (suc i) (suc c) x [] q = refl
  low_take (suc i) (suc c) x (y ∷ ys) q = ap (λ r. y ∷ r) (low_take i c x ys (omega arith))

  low_drop : (i c : ℕ) (x : X) (xs : List X) → i ≤ c → drop (suc c) (take i xs ++ x ∷ drop i xs) ≡ drop c xs
  low_drop zero c x xs q = refl
  low_drop (suc i) zero x xs q = absurd (omega arith)
  low_drop (suc i) (suc c) x [] q = refl
  low_drop (suc i) (suc c) x (y ∷ ys) q = low_drop i c x ys (omega arith)

  low_get_or : (i c : ℕ) (x d : X) (xs : List X) → i ≤ c → get_or (take i xs ++ x ∷ drop i xs) (suc c) d ≡ get_or xs c d
  low_get_or zero c x d xs q = refl
  low_get_or (suc i) zero x d xs q = absurd (omega arith)
  low_get_or (suc i) (suc c) x d [] q = refl
  low_get_or (suc i) (suc c) x d (y ∷ ys) q = low_get_or i c x d ys (omega arith)

  low_take_two : (i c : ℕ) (l r : X) (xs : List X) → i < c → take (suc c) (take i xs ++ l ∷ r ∷ drop (suc i) xs) ≡ take i (take c xs) ++ l ∷ r ∷ drop (suc i) (take c xs)
  low_take_two i zero l r xs q = absurd (omega arith)
  low_take_two zero (suc c) l r [] q = ap (λ z. l ∷ r ∷ z) (take-nil c)
  low_take_two zero (suc c) l r (y ∷ ys) q = refl
  low_take_two (suc i) (suc zero) l r xs q = absurd (omega arith)
  low_take_two (suc i) (suc (suc c)) l r [] q = refl
  low_take_two (suc i) (suc (suc c)) l r (y ∷ ys) q = ap (λ z. y ∷ z) (low_take_two i (suc c) l r ys (omega arith))

  low_drop_two : (i c : ℕ) (l r : X) (xs : List X) → i < c → drop (suc c) (take i xs ++ l ∷ r ∷ drop (suc i) xs) ≡ drop c xs
  low_drop_two i zero l r xs q = absurd (omega arith)
  low_drop_two zero (suc c) l r [] q = drop-nil c
  low_drop_two zero (suc c) l r (y ∷ ys) q = refl
  low_drop_two (suc i) (suc zero) l r xs q = absurd (omega arith)
  low_drop_two (suc i) (suc (suc c)) l r [] q = refl
  low_drop_two (suc i) (suc (suc c)) l r (y ∷ ys) q = low_drop_two i (suc c) l r ys (omega arith)

  -- cut before it
  high_take : (c i : ℕ) (xs ys : List X) → c ≤ i → i ≤ length xs → take c (take i xs ++ ys) ≡ take c xs
  high_take c i xs ys p q = take-append-le c (take i xs) ys (simp length-take (omega arith)) ∙ take-take c i xs p

  high_get_or : (c i : ℕ) (xs ys : List X) (d : X) → c < i → i ≤ length xs → get_or (take i xs ++ ys) c d ≡ get_or xs c d
  high_get_or c i xs ys d p q = get_or_append_left (take i xs) ys d c (simp length-take (omega arith)) ∙ get_or-take i xs c d p

  high_drop : (c i : ℕ) (xs ys : List X) → c ≤ i → i ≤ length xs → drop c (take i xs ++ ys) ≡ take (i - c) (drop c xs) ++ ys
  high_drop c i xs ys p q =
      drop-append-le c (take i xs) ys (simp length-take (omega arith))
      ∙ ap (λ z. z ++ ys) (ap (λ n. drop c (take n xs)) (let e : i ≡ c + (i - c) = omega arith in e) ∙ drop-take c (i - c) xs)

  past : (c i : ℕ) (xs : List X) → c ≤ i → drop i xs ≡ drop (i - c) (drop c xs)
  past c i xs p = ap (λ n. drop n xs) (let e : i ≡ c + (i - c) = omega arith in e) ∙ sym (drop-drop (i - c) c xs)

module _ {E : Type 0} where
  -- a leaf has no children, and gets none; elsewhere two come for one
  abbrev pub Fits : ℕ → List (Tree E) → List (Tree E) → Type 0
  Fits i [] ks = ks ≡ []
  Fits i (l ∷ []) ks = ⊥
  Fits i (l ∷ (r ∷ [])) ks = i < length ks
  Fits i (l ∷ (r ∷ (k ∷ new))) ks = ⊥

  swap_low_take : (i : ℕ) (new ks : List (Tree E)) → Fits i new ks → i ≤ 6 → take 8 (swap i new ks) ≡ swap i new (take 7 ks)
  swap_low_take i [] ks f q = ap (λ z. take 8 z) f ∙ sym (ap (λ z. take 7 z) f)
  swap_low_take i (l ∷ []) ks f q = absurd f
  swap_low_take i (l ∷ (r ∷ [])) ks f q = low_take_two i 7 l r ks (omega arith)
  swap_low_take i (l ∷ (r ∷ (k ∷ new))) ks f q = absurd f

  swap_low_drop : (i : ℕ) (new ks : List (Tree E)) → Fits i new ks → i ≤ 6 → drop 8 (swap i new ks) ≡ drop 7 ks
  swap_low_drop i [] ks f q = ap (λ z. drop 8 z) f ∙ sym (ap (λ z. drop 7 z) f)
  swap_low_drop i (l ∷ []) ks f q = absurd f
  swap_low_drop i (l ∷ (r ∷ [])) ks f q = low_drop_two i 7 l r ks (omega arith)
  swap_low_drop i (l ∷ (r ∷ (k ∷ new))) ks f q = absurd f

  swap_high_take : (i : ℕ) (new ks : List (Tree E)) → Fits i new ks → 6 < i → take 7 (swap i new ks) ≡ take 7 ks
  swap_high_take i [] ks f q = refl
  swap_high_take i (l ∷ []) ks f q = absurd f
  swap_high_take i (l ∷ (r ∷ [])) ks f q = high_take 7 i ks (l ∷ r ∷ drop (suc i) ks) (omega arith) (omega arith)
  swap_high_take i (l ∷ (r ∷ (k ∷ new))) ks f q = absurd f

  swap_high_drop : (i : ℕ) (new ks : List (Tree E)) → Fits i new ks → 6 < i → drop 7 (swap i new ks) ≡ swap (i - 7) new (drop 7 ks)
  swap_high_drop i [] ks f q = refl
  swap_high_drop i (l ∷ []) ks f q = absurd f
  swap_high_drop i (l ∷ (r ∷ [])) ks f q =
      high_drop 7 i ks (l ∷ r ∷ drop (suc i) ks) (omega arith) (omega arith)
      ∙ ap (λ z. take (i - 7) (drop 7 ks) ++ l ∷ r ∷ z)
      (past 7 (suc i) ks (omega arith) ∙ ap (λ n. drop n (drop 7 ks)) (let e : suc i - 7 ≡ suc (i - 7) = omega arith in e))
  swap_high_drop i (l ∷ (r ∷ (k ∷ new))) ks f q = absurd f

  pub part_low : (fresh m i : ℕ) (es : List E) (ks : List (Tree E)) (x : E) (new : List (Tree E)) → i ≤ 6 → Fits i new ks
      → part 7 fresh m (put i x es) (swap i new ks) x
      ≡ parted (mk m (put i x (take 6 es)) (swap i new (take 7 ks))) (get_or es 6 x) (mk fresh (drop 7 es) (drop 7 ks))
  part_low fresh m i es ks x new q f =
      let e₁ = low_take i 6 x es q in
      let e₂ = low_get_or i 6 x x es q in
      let e₃ = low_drop i 7 x es (omega arith) in
      let e₄ = swap_low_take i new ks f q in
      let e₅ = swap_low_drop i new ks f q in
      cc

  pub part_high : (fresh m i : ℕ) (es : List E) (ks : List (Tree E)) (x : E) (new : List (Tree E)) → 6 < i → i ≤ length es → Fits i new ks
      → part 6 fresh m (put i x es) (swap i new ks) x
      ≡ parted (mk m (take 6 es) (take 7 ks)) (get_or es 6 x) (mk fresh (put (i - 7) x (drop 7 es)) (swap (i - 7) new (drop 7 ks)))
  part_high fresh m i es ks x new q j f =
      let e₁ = high_take 6 i es (x ∷ drop i es) (omega arith) j in
      let e₂ = high_get_or 6 i es (x ∷ drop i es) x q j in
      let e₃ : drop 7 (put i x es) ≡ put (i - 7) x (drop 7 es) =
      high_drop 7 i es (x ∷ drop i es) (omega arith) j ∙ ap (λ z. take (i - 7) (drop 7 es) ++ x ∷ z) (past 7 i es (omega arith)) in
      let e₄ = swap_high_take i new ks f q in
      let e₅ = swap_high_drop i new ks f q in
      cc
