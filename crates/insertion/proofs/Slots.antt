-- The children of a node while what came of one of them is put in. Assumes nothing.
use Rattle.std.proofs.Common.{◌≡◌, ℕ, suc, ◌+◌, ◌-◌, ◌<◌, ◌≤◌, List, [], ◌∷◌, ◌++◌, map, length, take, drop, sym, refl, ap, ◌∙◌, subst, ap₂, ⊎_elim, append_assoc, arith, length-append, length-drop, length-take}
use lib.Seq.{take-nil, take-append-le, drop-append-le, take-append-add, drop-append-add}
use Rattle.std.proofs.lemmas.Bool.{cases_lt}
use Rattle.node.specs.Shape.{Tree, number}
use Rattle.node.specs.Rules.{swap}
use Rattle.map.specs.Inserts.{Edges}
use Rattle.insertion.specs.Grew.{seated, coming}
use Rattle.insertion.specs.Descent.{Comes}

module _ {E : Type 0} where
  -- nothing comes in a leaf; elsewhere two come for one
  abbrev pub Fits : ℕ → List (Tree E) → List (Tree E) → Type 0
  Fits i [] ks = ks ≡ []
  Fits i (l ∷ []) ks = ⊥
  Fits i (l ∷ (r ∷ [])) ks = i < length ks
  Fits i (l ∷ (r ∷ (k ∷ new))) ks = ⊥

  -- the one that is in its place already
  abbrev pub seat : List (Tree E) → List (Tree E)
  seat [] = []
  seat (l ∷ new) = l ∷ []

  -- up to the place, and behind it
  abbrev pub up_to : ℕ → List (Tree E) → List (Tree E) → List (Tree E)
  up_to i new ks = take i ks ++ seat new

  abbrev pub past : ℕ → List (Tree E) → List (Tree E)
  past i ks = drop (suc i) ks

  pub seated_parts : (i : ℕ) (new ks : List (Tree E)) → Fits i new ks → seated i new ks ≡ up_to i new ks ++ past i ks
  seated_parts i [] ks f = f ∙ sym (ap (λ z. (take i z ++ []) ++ drop (suc i) z) f ∙ ap (λ z. (z ++ []) ++ []) (take-nil i))
  seated_parts i (l ∷ []) ks f = absurd f
  seated_parts i (l ∷ (r ∷ [])) ks f = sym (append_assoc (take i ks) (l ∷ []) (drop (suc i) ks))
  seated_parts i (l ∷ (r ∷ (k ∷ new))) ks f = absurd f

  pub swap_parts : (i : ℕ) (new ks : List (Tree E)) → Fits i new ks → swap i new ks ≡ up_to i new ks ++ (coming new ++ past i ks)
  swap_parts i [] ks f = f ∙ sym (ap (λ z. (take i z ++ []) ++ drop (suc i) z) f ∙ ap (λ z. (z ++ []) ++ []) (take-nil i))
  swap_parts i (l ∷ []) ks f = absurd f
  swap_parts i (l ∷ (r ∷ [])) ks f = sym (append_assoc (take i ks) (l ∷ []) (r ∷ drop (suc i) ks))
  swap_parts i (l ∷ (r ∷ (k ∷ new))) ks f = absurd f

  -- the place is in the front part, or behind it
  pub seated_front : (i : ℕ) (new as' bs : List (Tree E)) → Fits i new as' → seated i new (as' ++ bs) ≡ seated i new as' ++ bs
  seated_front i [] as' bs f = refl
  seated_front i (l ∷ []) as' bs f = absurd f
  seated_front i (l ∷ (r ∷ [])) as' bs f =
      ap₂ (λ u v. u ++ l ∷ v) (take-append-le i as' bs (omega arith)) (drop-append-le (suc i) as' bs (omega arith))
      ∙ sym (append_assoc (take i as') (l ∷ drop (suc i) as') bs)
  seated_front i (l ∷ (r ∷ (k ∷ new))) as' bs f = absurd f

  pub seated_back : (j : ℕ) (new as' bs : List (Tree E)) → Fits j new bs → seated (length as' + j) new (as' ++ bs) ≡ as' ++ seated j new bs
  seated_back j [] as' bs f = refl
  seated_back j (l ∷ []) as' bs f = absurd f
  seated_back j (l ∷ (r ∷ [])) as' bs f =
      ap₂ (λ u v. u ++ l ∷ v) (take-append-add as' bs j)
      (ap (λ n. drop n (as' ++ bs)) (let e : suc (length as' + j) ≡ length as' + suc j = omega arith in e) ∙ drop-append-add as' bs (suc j))
      ∙ append_assoc as' (take j bs) (l ∷ drop (suc j) bs)
  seated_back j (l ∷ (r ∷ (k ∷ new))) as' bs f = absurd f

  pub fits_front : (i : ℕ) (new ks : List (Tree E)) → Fits i new ks → i ≤ 6 → Fits i new (take 7 ks)
  fits_front i [] ks f q = ap (take 7) f
  fits_front i (l ∷ []) ks f q = absurd f
  fits_front i (l ∷ (r ∷ [])) ks f q = omega (arith, length-take 7 ks)
  fits_front i (l ∷ (r ∷ (k ∷ new))) ks f q = absurd f

  pub fits_back : (i : ℕ) (new ks : List (Tree E)) → Fits i new ks → 6 < i → Fits (i - 7) new (drop 7 ks)
  fits_back i [] ks f q = ap (drop 7) f
  fits_back i (l ∷ []) ks f q = absurd f
  fits_back i (l ∷ (r ∷ [])) ks f q = omega (arith, length-drop 7 ks)
  fits_back i (l ∷ (r ∷ (k ∷ new))) ks f q = absurd f

  -- how many there are
  pub seated_length : (i : ℕ) (new ks : List (Tree E)) → Fits i new ks → length (seated i new ks) ≡ length ks
  seated_length i [] ks f = refl
  seated_length i (l ∷ []) ks f = absurd f
  seated_length i (l ∷ (r ∷ [])) ks f = omega (arith, length-append (take i ks) (l ∷ drop (suc i) ks), length-take i ks, length-drop (suc i) ks)
  seated_length i (l ∷ (r ∷ (k ∷ new))) ks f = absurd f

  pub up_to_none : (i : ℕ) (new ks : List (Tree E)) → Fits i new ks → length new ≡ 0 → length (up_to i new ks) ≡ 0
  up_to_none i [] ks f z = ap (λ v. length (take i v ++ [])) f ∙ ap (λ v. length (v ++ [])) (take-nil i)
  up_to_none i (l ∷ new) ks f z = absurd (omega arith)

  pub up_to_long : (i : ℕ) (new ks : List (Tree E)) → Fits i new ks → 0 < length new → length (up_to i new ks) ≡ i + 1
  up_to_long i [] ks f z = absurd (omega arith)
  up_to_long i (l ∷ []) ks f z = absurd f
  up_to_long i (l ∷ (r ∷ [])) ks f z = omega (arith, length-append (take i ks) (l ∷ []), length-take i ks)
  up_to_long i (l ∷ (r ∷ (k ∷ new))) ks f z = absurd f

  pub past_none : (i : ℕ) (new ks : List (Tree E)) → Fits i new ks → length new ≡ 0 → length (past i ks) ≡ 0
  past_none i [] ks f z = ap (λ v. length (drop (suc i) v)) f
  past_none i (l ∷ new) ks f z = absurd (omega arith)

  -- from what is said of the height
  pub comes_fits : (h i c : ℕ) (new ks : List (Tree E)) → Comes h i c new ks → Fits i new ks
  comes_fits h i c new ks q =
      ⊎_elim
      (λ (z : h < 1). let e = q.leaf (omega arith) in subst (λ n. Fits i n ks) (sym e.0) e.1)
      (λ (z : 1 ≤ h). let e = q.inner (omega arith) in subst (λ n. Fits i n ks) (sym e.2) e.4)
      (cases_lt h 1)

  pub comes_lengths : (h i c : ℕ) (new ks : List (Tree E)) → Comes h i c new ks → (h ≡ 0 → length new ≡ 0) × (0 < h → 0 < length new)
  comes_lengths h i c new ks q = (
    (λ z. ap length (q.leaf z).0),
    (λ z. let e : length new ≡ 2 = ap length (q.inner z).2 in omega arith),
  )

  pub comes_edges : (h i c : ℕ) (new ks : List (Tree E)) → Comes h i c new ks → Edges h c (map number (coming new))
  comes_edges h i c new ks q = record {
    leaf = λ z. ap (λ n. map number (coming n)) (q.leaf z).0;
    inner = λ z. ap (λ n. map number (coming n)) (q.inner z).2 ∙ ap (λ n. n ∷ []) (q.inner z).3;
  }
