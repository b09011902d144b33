-- Trees with a border: lists of which one is unlike the others, and trees whose border nodes may have any number of entries up to 11.
use Rattle.std.proofs.Common.{◌≡◌, ℕ, zero, suc, ◌+◌, ◌<◌, ◌≤◌, List, [], ◌∷◌, ◌++◌, length, get_or, take, drop, All, sym, refl, ap, ◌∙◌, subst, zero-add, arith}
use Rattle.std.proofs.lemmas.List.Elements.{All-append, All-take, All-drop, All-nil, All-cons, All-head, All-tail}
use Rattle.node.specs.Shape.{Tree, row, kids, mk, Within}
use Rattle.node.specs.declared.ends.Side.{Side}
use Rattle.node.specs.declared.ends.Side.TheVariants.{First, Last}
use Rattle.node.specs.Ends.{end_index}
use Rattle.node.proofs.Weaves.{trees_forest}
use Rattle.rules.proofs.Nodes.{fan_out, Limbs}

-- Q of the one at j, and P of the others
abbrev pub Around : {X : Type 0} → (X → Type 0) → (X → Type 0) → ℕ → List X → Type 0
Around P Q j [] = ⊥
Around P Q zero (x ∷ xs) = Q x × All P xs
Around P Q (suc j) (x ∷ xs) = P x × Around P Q j xs

module _ {X : Type 0} (P Q : X → Type 0) where
  pub around_left : (j : ℕ) (xs ys : List X) → Around P Q j xs → All P ys → Around P Q j (xs ++ ys)
  around_left j [] ys a c = absurd a
  around_left zero (x ∷ xs) ys a c = (a.0, All-append P xs ys a.1 c)
  around_left (suc j) (x ∷ xs) ys a c = (a.0, around_left j xs ys a.1 c)

  pub around_right : (n j : ℕ) (xs ys : List X) → n ≡ length xs + j → All P xs → Around P Q j ys → Around P Q n (xs ++ ys)
  around_right n j [] ys q a c = subst (λ k. Around P Q k ys) (sym (q ∙ zero-add j)) c
  around_right zero j (x ∷ xs) ys q a c = absurd (omega arith)
  around_right (suc n) j (x ∷ xs) ys q a c = (All-head P x xs a, around_right n j xs ys (omega arith) (All-tail P x xs a) c)

  -- in front of it
  pub around_take : (c j : ℕ) (xs : List X) → c ≤ j → Around P Q j xs → All P (take c xs)
  around_take zero j xs q a = All-nil P
  around_take (suc c) j [] q a = absurd a
  around_take (suc c) zero (x ∷ xs) q a = absurd (omega arith)
  around_take (suc c) (suc j) (x ∷ xs) q a = All-cons P x (take c xs) a.0 (around_take c j xs (omega arith) a.1)

  pub around_from : (c j n : ℕ) (xs : List X) → n + c ≡ j → Around P Q j xs → Around P Q n (drop c xs)
  around_from zero j n xs q a = subst (λ k. Around P Q k xs) (omega arith) a
  around_from (suc c) j n [] q a = absurd a
  around_from (suc c) zero n (x ∷ xs) q a = absurd (omega arith)
  around_from (suc c) (suc j) n (x ∷ xs) q a = around_from c j n xs (omega arith) a.1

  -- behind it
  pub around_upto : (c j : ℕ) (xs : List X) → j < c → Around P Q j xs → Around P Q j (take c xs)
  around_upto zero j xs q a = absurd (omega arith)
  around_upto (suc c) j [] q a = absurd a
  around_upto (suc c) zero (x ∷ xs) q a = (a.0, All-take P c xs a.1)
  around_upto (suc c) (suc j) (x ∷ xs) q a = (a.0, around_upto c j xs (omega arith) a.1)

  pub around_drop : (c j : ℕ) (xs : List X) → j < c → Around P Q j xs → All P (drop c xs)
  around_drop zero j xs q a = absurd (omega arith)
  around_drop (suc c) j [] q a = absurd a
  around_drop (suc c) zero (x ∷ xs) q a = All-drop P c xs a.1
  around_drop (suc c) (suc j) (x ∷ xs) q a = around_drop c j xs (omega arith) a.1

  pub around_at : (j : ℕ) (xs : List X) (d : X) → Around P Q j xs → Q (get_or xs j d)
  around_at j [] d a = absurd a
  around_at zero (x ∷ xs) d a = a.0
  around_at (suc j) (x ∷ xs) d a = around_at j xs d a.1

  pub around_off : (i j : ℕ) (xs : List X) (d : X) → (i ≡ j → ⊥) → i < length xs → Around P Q j xs → P (get_or xs i d)
  around_off i j [] d n q a = absurd a
  around_off zero zero (x ∷ xs) d n q a = absurd (n refl)
  around_off (suc i) zero (x ∷ xs) d n q a = Rattle.std.proofs.lemmas.List.Elements.All-get_or P xs i d (omega arith) a.1
  around_off zero (suc j) (x ∷ xs) d n q a = a.0
  around_off (suc i) (suc j) (x ∷ xs) d n q a = around_off i j xs d (λ e. n (ap suc e)) (omega arith) a.1

-- a tree of height h whose border nodes may have any number of entries up to 11
unfoldable pub Edge : {E : Type 0} → Side → ℕ → Tree E → Type 0
Edge s zero t = (length (row t) ≤ 11) × (length (kids t) ≡ 0)
Edge s (suc h) t =
    (length (row t) ≤ 11) × (length (kids t) ≡ suc (length (row t))) × Around (Within 4 h) (Edge s h) (end_index s (length (row t))) (kids t)

module _ {E : Type 0} where
  abbrev pub Fringe : Side → ℕ → ℕ → List (Tree E) → Type 0
  Fringe s zero n ks = Unit {0}
  Fringe s (suc h) n ks = Around (Within 4 h) (Edge s h) (end_index s n) ks

  pub edge_mk : (s : Side) (h m : ℕ) (es : List E) (ks : List (Tree E)) → length es ≤ 11 → length ks ≡ fan_out h (length es) → Fringe s h (length es) ks → Edge s h (mk m es ks)
  unfolding Edge
  edge_mk s zero m es ks p q a = (p, rw trees_forest q)
  edge_mk s (suc h) m es ks p q a = (p, rw trees_forest q, rw trees_forest a)

  pub edge_most : (s : Side) (h : ℕ) (t : Tree E) → Edge s h t → length (row t) ≤ 11
  unfolding Edge
  edge_most s zero t a = a.0
  edge_most s (suc h) t a = a.0

  pub edge_fan : (s : Side) (h : ℕ) (t : Tree E) → Edge s h t → length (kids t) ≡ fan_out h (length (row t))
  unfolding Edge
  edge_fan s zero t a = a.1
  edge_fan s (suc h) t a = a.1

  pub edge_fringe : (s : Side) (h : ℕ) (t : Tree E) → Edge s h t → Fringe s h (length (row t)) (kids t)
  unfolding Edge
  edge_fringe s zero t a = tt
  edge_fringe s (suc h) t a = a.2

  pub edge_leaf : (least : ℕ) (s : Side) (t : Tree E) → Edge s zero t → least ≤ length (row t) → Within least zero t
  unfolding Edge Within
  edge_leaf least s t a q = (q, a.0, a.1)

  -- joined children: the border ones stand last, or first
  pub fringe_last : (h a n : ℕ) (ks ls : List (Tree E)) → length ks ≡ fan_out h a → Limbs h ks → Fringe Last h n ls → Fringe Last h (a + suc n) (ks ++ ls)
  fringe_last zero a n ks ls q p f = tt
  fringe_last (suc h) a n ks ls q p f = around_right (Within 4 h) (Edge Last h) (a + suc n) n ks ls (omega arith) p f

  pub fringe_first : (h a n : ℕ) (ks ls : List (Tree E)) → Fringe First h a ks → Limbs h ls → Fringe First h (a + suc n) (ks ++ ls)
  fringe_first zero a n ks ls f p = tt
  fringe_first (suc h) a n ks ls f p = around_left (Within 4 h) (Edge First h) 0 ks ls f p

  -- parted children
  pub fringe_last_part : (h c n r : ℕ) (ks : List (Tree E)) → r + suc c ≡ n → Fringe Last h n ks → Limbs h (take (suc c) ks) × Fringe Last h r (drop (suc c) ks)
  fringe_last_part zero c n r ks q f = (tt, tt)
  fringe_last_part (suc h) c n r ks q f =
      (around_take (Within 4 h) (Edge Last h) (suc c) n ks (omega arith) f, around_from (Within 4 h) (Edge Last h) (suc c) n r ks q f)

  pub fringe_first_part : (h c n r : ℕ) (ks : List (Tree E)) → Fringe First h n ks → Fringe First h r (take (suc c) ks) × Limbs h (drop (suc c) ks)
  fringe_first_part zero c n r ks f = (tt, tt)
  fringe_first_part (suc h) c n r ks f =
      (around_upto (Within 4 h) (Edge First h) (suc c) 0 ks (omega arith) f, around_drop (Within 4 h) (Edge First h) (suc c) 0 ks (omega arith) f)
