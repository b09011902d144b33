-- What steps hand out. Assumes nothing.
use Rattle.std.proofs.lemmas.Option.{none-some}
use Rattle.std.proofs.Common.{◌≡◌, ℕ, zero, suc, ◌+◌, ◌≤◌, ◌⊎◌, List, [], ◌∷◌, ◌++◌, map, reverse, length, replicate, Some, None, All, Option, sym, refl, ap, ◌∙◌, subst, ap₂, inl, inr, append_assoc, append-nil, arith}
use lib.ListN.{length-map}
use Rattle.std.proofs.lemmas.List.Elements.{All-nil, All-cons, All-head, All-tail, All-append}
use Rattle.std.proofs.lemmas.List.{nil_from_length, map-append, reverse-append, length_push}
use Rattle.node.specs.declared.ends.Side.{Side}
use Rattle.node.specs.declared.ends.Side.TheVariants.{First, Last}
use Rattle.node.specs.Shape.{Tree, number, row, kids, mk, weave, before, flat, total}
use Rattle.node.proofs.Weaves.{trees_forest, weave_mid, weave_join, total_append, flat_mk}
use Rattle.walk.specs.Steps.{cons, last_of, front_of, uncons, of_row, of_kid, of_kids, step, Handed, handed, steps, stepped, Fanned}
use Rattle.walk.specs.Laws.{TakenOff, StepTakes, StepEnds, StepsPart, Forward, Backward, StepsForward, StepsBackward}

pub some_is : {X : Type 0} (x y : X) → Some x ≡ Some y → x ≡ y
some_is x y e = cc

-- ---- an end of a list

module _ {X : Type 0} where
  last_push : (x : X) (xs : List X) (y : X) → last_of x (xs ++ y ∷ []) ≡ y
  last_push x [] y = refl
  last_push x (z ∷ xs) y = last_push z xs y

  front_push : (x : X) (xs : List X) (y : X) → front_of x (xs ++ y ∷ []) ≡ x ∷ xs
  front_push x [] y = refl
  front_push x (z ∷ xs) y = ap (λ r. x ∷ r) (front_push z xs y)

  front_last : (x : X) (xs : List X) → x ∷ xs ≡ front_of x xs ++ last_of x xs ∷ []
  front_last x [] = refl
  front_last x (y ∷ xs) = ap (λ r. x ∷ r) (front_last y xs)

  pub uncons_cons : (s : Side) (x : X) (xs : List X) → uncons s (cons s x xs) ≡ Some (x, xs)
  uncons_cons First x xs = refl
  uncons_cons Last x [] = refl
  uncons_cons Last x (y ∷ xs) = ap₂ (λ z zs. Some (z, zs)) (last_push y xs x) (front_push y xs x)

  some_both : (x y : X) (xs ys : List X) → ◌≡◌ {A = Option (X × List X)} (Some (x, xs)) (Some (y, ys)) → (x ≡ y) × (xs ≡ ys)
  some_both x y xs ys e = let q = some_is (x, xs) (y, ys) e in (ap (λ p. p.0) q, ap (λ p. p.1) q)

  pub uncons_is : (s : Side) (xs : List X) (x : X) (ys : List X) → uncons s xs ≡ Some (x, ys) → xs ≡ cons s x ys
  uncons_is First [] x ys e = absurd (let z : ◌≡◌ {A = ℕ} 0 1 = cc in omega arith)
  uncons_is First (y ∷ xs) x ys e = let q = some_both y x xs ys e in ap₂ (λ z zs. z ∷ zs) q.0 q.1
  uncons_is Last [] x ys e = absurd (let z : ◌≡◌ {A = ℕ} 0 1 = cc in omega arith)
  uncons_is Last (y ∷ xs) x ys e =
      let q = some_both (last_of y xs) x (front_of y xs) ys e in front_last y xs ∙ ap₂ (λ z zs. zs ++ z ∷ []) q.0 q.1

  -- a list is empty, or has something at its end
  pub ends : (s : Side) (xs : List X) → (xs ≡ []) ⊎ ((x : X) × (ys : List X) × (xs ≡ cons s x ys))
  ends s [] = inl refl
  ends First (x ∷ xs) = inr (x, xs, refl)
  ends Last (x ∷ xs) = inr (last_of x xs, front_of x xs, front_last x xs)

  pub length_cons : (s : Side) (x : X) (xs : List X) → length (cons s x xs) ≡ suc (length xs)
  length_cons First x xs = refl
  length_cons Last x xs = length_push xs x ∙ omega arith

  pub cons_some : (s : Side) (x : X) (xs : List X) → cons s x xs ≡ [] → ⊥
  cons_some s x xs e = omega (arith, ap length e, length_cons s x xs)

  pub map_cons : {Y : Type 0} (f : X → Y) (s : Side) (x : X) (xs : List X) → map f (cons s x xs) ≡ cons s (f x) (map f xs)
  map_cons f First x xs = refl
  map_cons f Last x xs = map-append f xs (x ∷ [])

  pub all_cons : (P : X → Type 0) (s : Side) (x : X) (xs : List X) → P x → All P xs → All P (cons s x xs)
  all_cons P First x xs p a = All-cons P x xs p a
  all_cons P Last x xs p a = All-append P xs (x ∷ []) a (All-cons P x [] p (All-nil P))

  all_unpush : (P : X → Type 0) (xs : List X) (x : X) → All P (xs ++ x ∷ []) → P x × All P xs
  all_unpush P [] x a = (All-head P x [] a, All-nil P)
  all_unpush P (y ∷ xs) x a = let b = all_unpush P xs x (All-tail P y (xs ++ x ∷ []) a) in (b.0, All-cons P y xs (All-head P y (xs ++ x ∷ []) a) b.1)

  pub all_uncons : (P : X → Type 0) (s : Side) (x : X) (xs : List X) → All P (cons s x xs) → P x × All P xs
  all_uncons P First x xs a = (All-head P x xs a, All-tail P x xs a)
  all_uncons P Last x xs a = all_unpush P xs x a

  pub total_cons : (f : X → ℕ) (s : Side) (x : X) (xs : List X) → total f (cons s x xs) ≡ f x + total f xs
  total_cons f First x xs = refl
  total_cons f Last x xs = total_append f xs (x ∷ []) ∙ omega arith

-- ---- entries between lists

module _ {E : Type 0} where
  weave_last : (ls : List (List E)) (l : List E) (es : List E) → length ls ≡ length es → weave (ls ++ l ∷ []) es ≡ before ls es ++ l
  weave_last ls l es q = ap (λ r. weave (ls ++ l ∷ []) r) (sym (append-nil es)) ∙ weave_mid ls es (l ∷ []) [] q

  weave_kid : (s : Side) (e : E) (l : List E) (ls : List (List E)) (es : List E) → length ls ≡ length es → weave (cons s (cons s e l) ls) es ≡ cons s e (weave (cons s l ls) es)
  weave_kid First e l ls [] q = refl
  weave_kid First e l ls (x ∷ es) q = refl
  weave_kid Last e l ls es q =
      weave_last ls (l ++ e ∷ []) es q ∙ sym (append_assoc (before ls es) l (e ∷ [])) ∙ ap (λ r. r ++ e ∷ []) (sym (weave_last ls l es q))

  weave_row : (s : Side) (e : E) (ls : List (List E)) (es : List E) → length ls ≡ suc (length es) → weave (cons s [] ls) (cons s e es) ≡ cons s e (weave ls es)
  weave_row First e ls es q = refl
  weave_row Last e ls es q = weave_join ls es e ([] ∷ []) [] q

  weave_none : (s : Side) (ls : List (List E)) → length ls ≡ 0 → weave (cons s [] ls) [] ≡ []
  weave_none First ls q = refl
  weave_none Last ls q = ap (λ (r : List (List E)). weave (r ++ [] ∷ []) []) (nil_from_length ls q)

-- ---- one step

module _ {E : Type 0} where
  flat_cons : (s : Side) (h : ℕ) (t : Tree E) (k : Tree E) (ks : List (Tree E)) → kids t ≡ cons s k ks → flat (suc h) t ≡ weave (cons s (flat h k) (map (flat h) ks)) (row t)
  unfolding flat
  flat_cons s h t k ks e = ap (λ r. weave (map (flat h) r) (row t)) e ∙ ap (λ r. weave r (row t)) (map_cons (flat h) s k ks)

  pub fanned_from : (h m : ℕ) (es : List E) (ks : List (Tree E)) → length ks ≡ suc (length es) → All (Fanned h) ks → Fanned (suc h) (mk m es ks)
  unfolding Fanned
  fanned_from h m es ks q a = (ap length (trees_forest ks) ∙ q, subst (λ r. All (Fanned h) r) (sym (trees_forest ks)) a)

  pub fanned_fan : (h : ℕ) (t : Tree E) → Fanned (suc h) t → length (kids t) ≡ suc (length (row t))
  unfolding Fanned
  fanned_fan h t w = w.0

  pub fanned_kids : (h : ℕ) (t : Tree E) → Fanned (suc h) t → All (Fanned h) (kids t)
  unfolding Fanned
  fanned_kids h t w = w.1

  some_pair : (e e' : E) (t t' : Tree E) → ◌≡◌ {A = Option (E × Tree E)} (Some (e, t)) (Some (e', t')) → (e ≡ e') × (t ≡ t')
  some_pair e e' t t' q = let p = some_is (e, t) (e', t') q in (ap (λ p. p.0) p, ap (λ p. p.1) p)

  pub step_under : (s : Side) (h : ℕ) (t : Tree E) (k : Tree E) (ks : List (Tree E)) → kids t ≡ cons s k ks → step s (suc h) t ≡ of_kid s (number t) (row t) ks (step s h k)
  unfolding step
  step_under s h t k ks e = ap (of_kids s (step s h) (number t) (row t)) (ap (uncons s) e ∙ uncons_cons s k ks)

  -- an entry of the row
  pub row_some : (s : Side) (m : ℕ) (ks : List (Tree E)) (es : List E) (e : E) (t' : Tree E) → of_row m ks (uncons s es) ≡ Some (e, t') → (fs : List E) × (es ≡ cons s e fs) × (t' ≡ mk m fs ks)
  row_some s m ks es e t' q = go (uncons s es) refl q
    where
      go : (o : Option (E × List E)) → uncons s es ≡ o → of_row m ks o ≡ Some (e, t') → (fs : List E) × (es ≡ cons s e fs) × (t' ≡ mk m fs ks)
      go None p q = absurd (none-some (e, t') q)
      go (Some a) p q =
          let r = some_pair a.0 e (mk m a.1 ks) t' q in
          (a.1, uncons_is s es a.0 a.1 p ∙ ap (λ x. cons s x a.1) r.0, sym r.1)

  pub row_none : (s : Side) (m : ℕ) (ks : List (Tree E)) (es : List E) → of_row m ks (uncons s es) ≡ None → es ≡ []
  row_none First m ks [] q = refl
  row_none First m ks (e ∷ es) q = absurd (none-some (e, mk m es ks) (sym q))
  row_none Last m ks [] q = refl
  row_none Last m ks (e ∷ es) q = absurd (none-some (last_of e es, mk m (front_of e es) ks) (sym q))

  flat_leaf : (t : Tree E) → flat zero t ≡ row t
  unfolding flat
  flat_leaf t = refl

  pub step_leaf : (s : Side) (t : Tree E) → step s zero t ≡ of_row (number t) (kids t) (uncons s (row t))
  unfolding step
  step_leaf s t = refl

  fanned_leaf : (t : Tree E) (es : List E) → Fanned zero t → Fanned zero (mk (number t) es (kids t))
  unfolding Fanned
  fanned_leaf t es w = ap length (trees_forest (kids t)) ∙ w

  -- what a step in a node makes of a step in its child at that end
  pub data Under (s : Side) (t k : Tree E) (ks : List (Tree E)) (e : E) (t' : Tree E) (o : Option (E × Tree E)) : Type 0 where
    inside : (k' : Tree E) → o ≡ Some (e, k') → t' ≡ mk (number t) (row t) (cons s k' ks) → Under s t k ks e t' o
    above : (es : List E) → o ≡ None → row t ≡ cons s e es → t' ≡ mk (number t) es ks → Under s t k ks e t' o

  under : (s : Side) (t k : Tree E) (ks : List (Tree E)) (e : E) (t' : Tree E) (o : Option (E × Tree E)) → of_kid s (number t) (row t) ks o ≡ Some (e, t') → Under s t k ks e t' o
  under s t k ks e t' None q = let r = row_some s (number t) ks (row t) e t' q in above r.0 refl r.1 r.2
  under s t k ks e t' (Some p) q =
      let r = some_pair p.0 e (mk (number t) (row t) (cons s p.1 ks)) t' q in inside p.1 (ap (λ x. Some (x, p.1)) r.0) (sym r.1)

  pub step_some : (s : Side) (h : ℕ) (t k : Tree E) (ks : List (Tree E)) (e : E) (t' : Tree E) → kids t ≡ cons s k ks → step s (suc h) t ≡ Some (e, t') → Under s t k ks e t' (step s h k)
  step_some s h t k ks e t' p q = under s t k ks e t' (step s h k) (sym (step_under s h t k ks p) ∙ q)

  none_under : (s : Side) (t : Tree E) (ks : List (Tree E)) (o : Option (E × Tree E)) → of_kid s (number t) (row t) ks o ≡ None → (o ≡ None) × (row t ≡ [])
  none_under s t ks None q = (refl, row_none s (number t) ks (row t) q)
  none_under s t ks (Some p) q = absurd (none-some (p.0, mk (number t) (row t) (cons s p.1 ks)) (sym q))

  pub step_none : (s : Side) (h : ℕ) (t k : Tree E) (ks : List (Tree E)) → kids t ≡ cons s k ks → step s (suc h) t ≡ None → (step s h k ≡ None) × (row t ≡ [])
  step_none s h t k ks p q = none_under s t ks (step s h k) (sym (step_under s h t k ks p) ∙ q)

  -- the child at an end
  pub some_kid : (s : Side) (h : ℕ) (t : Tree E) → length (kids t) ≡ suc (length (row t)) → (k : Tree E) × (ks : List (Tree E)) × (kids t ≡ cons s k ks)
  some_kid s h t q = elim (ends s (kids t)) [ inl e ↦ absurd (omega (arith, ap length e)) | inr p ↦ p ]

  -- ---- the laws of one step

  pub step_stops : (s : Side) (h : ℕ) (t : Tree E) → Fanned h t → step s h t ≡ None → flat h t ≡ []
  step_stops s zero t w q = flat_leaf t ∙ row_none s (number t) (kids t) (row t) (sym (step_leaf s t) ∙ q)
  step_stops s (suc h) t w q =
      let f = fanned_fan h t w in
      let p = some_kid s h t f in
      let k : Tree E = p.0 in
      let ks : List (Tree E) = p.1 in
      let n = step_none s h t k ks p.2 q in
      let a = all_uncons (Fanned h) s k ks (subst (λ r. All (Fanned h) r) p.2 (fanned_kids h t w)) in
      let z : length (map (flat h) ks) ≡ 0 = omega (arith, length-map ks (flat h), length_cons s k ks, ap length p.2, ap length n.1) in
      flat_cons s h t k ks p.2 ∙ ap₂ (λ l es. weave (cons s l (map (flat h) ks)) es) (step_stops s h k a.0 n.0) n.1 ∙ weave_none s (map (flat h) ks) z

  takes_under : (s : Side) (h : ℕ) (t k : Tree E) (ks : List (Tree E)) (e : E) (t' : Tree E) → Fanned (suc h) t → kids t ≡ cons s k ks → Fanned h k → All (Fanned h) ks
      → ((k' : Tree E) → step s h k ≡ Some (e, k') → TakenOff s h k e k') → Under s t k ks e t' (step s h k) → TakenOff s (suc h) t e t'
  takes_under s h t k ks e t' w p fk fks ih (inside k' o q) =
      let i = ih k' o in
      let z : length (map (flat h) ks) ≡ length (row t) = omega (arith, length-map ks (flat h), length_cons s k ks, ap length p, fanned_fan h t w) in
      record {
        flat_is =
            flat_cons s h t k ks p ∙ ap (λ l. weave (cons s l (map (flat h) ks)) (row t)) i.flat_is ∙ weave_kid s e (flat h k') (map (flat h) ks) (row t) z
            ∙ ap (cons s e) (ap (λ r. weave r (row t)) (sym (map_cons (flat h) s k' ks)) ∙ sym (flat_mk h (number t) (row t) (cons s k' ks)) ∙ ap (flat (suc h)) (sym q));
        fanned =
            subst (Fanned (suc h)) (sym q)
            (fanned_from h (number t) (row t) (cons s k' ks) (omega (arith, length_cons s k ks, length_cons s k' ks, ap length p, fanned_fan h t w)) (all_cons (Fanned h) s k' ks i.fanned fks));
      }
  takes_under s h t k ks e t' w p fk fks ih (above es o r q) =
      let z : length ks ≡ suc (length es) = omega (arith, length_cons s k ks, ap length p, fanned_fan h t w, ap length r, length_cons s e es) in
      let z' : length (map (flat h) ks) ≡ suc (length es) = omega (arith, length-map ks (flat h)) in
      record {
        flat_is =
            flat_cons s h t k ks p ∙ ap₂ (λ l rs. weave (cons s l (map (flat h) ks)) rs) (step_stops s h k fk o) r ∙ weave_row s e (map (flat h) ks) es z'
            ∙ ap (cons s e) (sym (flat_mk h (number t) es ks) ∙ ap (flat (suc h)) (sym q));
        fanned = subst (Fanned (suc h)) (sym q) (fanned_from h (number t) es ks z fks);
      }

  pub step_takes : StepTakes E
  step_takes s zero t e t' w q =
      let r = row_some s (number t) (kids t) (row t) e t' (sym (step_leaf s t) ∙ q) in
      record {
        flat_is = flat_leaf t ∙ r.1 ∙ ap (cons s e) (sym (flat_leaf (mk (number t) r.0 (kids t))) ∙ ap (flat zero) (sym r.2));
        fanned = subst (Fanned zero) (sym r.2) (fanned_leaf t r.0 w);
      }
  step_takes s (suc h) t e t' w q =
      let p = some_kid s h t (fanned_fan h t w) in
      let a = all_uncons (Fanned h) s p.0 p.1 (subst (λ r. All (Fanned h) r) p.2 (fanned_kids h t w)) in
      takes_under s h t p.0 p.1 e t' w p.2 a.0 a.1 (λ k' o. step_takes s h p.0 e k' a.0 o) (step_some s h t p.0 p.1 e t' p.2 q)

  pub step_ends : StepEnds E
  step_ends s h t w = (step_stops s h t w, λ q. go (step s h t) refl q)
    where
      go : (o : Option (E × Tree E)) → step s h t ≡ o → flat h t ≡ [] → step s h t ≡ None
      go None p q = p
      go (Some a) p q = absurd (cons_some s a.0 (flat h a.1) (sym (step_takes s h t a.0 a.1 w p).flat_is ∙ q))

-- ---- several steps

module _ {E : Type 0} where
  reverse_more : (e : E) (es : List E) → reverse (e ∷ es) ≡ reverse es ++ e ∷ []
  reverse_more e es = reverse-append (e ∷ []) es

  part_more : (s : Side) (e : E) (w : Handed E) (h : ℕ) → cons s e (w.fronts ++ (flat h w.left ++ reverse w.backs)) ≡ (handed s e w).fronts ++ (flat h (handed s e w).left ++ reverse (handed s e w).backs)
  part_more First e w h = refl
  part_more Last e w h =
      append_assoc w.fronts (flat h w.left ++ reverse w.backs) (e ∷ [])
      ∙ ap (λ r. w.fronts ++ r) (append_assoc (flat h w.left) (reverse w.backs) (e ∷ []) ∙ ap (λ r. flat h w.left ++ r) (sym (reverse_more e w.backs)))

  abbrev Parted : ℕ → Tree E → Handed E → Type 0
  Parted h t w = flat h t ≡ w.fronts ++ (flat h w.left ++ reverse w.backs)

  parted : (s : Side) (f : Tree E → Handed E) (h : ℕ) (t : Tree E) → Fanned h t → ((u : Tree E) → Fanned h u → Parted h u (f u)) → (o : Option (E × Tree E)) → step s h t ≡ o → Parted h t (stepped s f t o)
  parted s f h t w ih None p = ih t w
  parted s f h t w ih (Some a) p =
      let q = step_takes s h t a.0 a.1 w p in
      q.flat_is ∙ ap (cons s a.0) (ih a.1 q.fanned) ∙ part_more s a.0 (f a.1) h

  pub steps_part : StepsPart E
  steps_part [] h t w = sym (append-nil (flat h t))
  steps_part (s ∷ ss) h t w = parted s (steps ss h) h t w (λ u v. steps_part ss h u v) (step s h t) refl

  forward_more : (n h : ℕ) (t : Tree E) → Fanned h t → length (flat h t) ≤ suc n → ((u : Tree E) → Fanned h u → length (flat h u) ≤ n → Forward n h u) → (o : Option (E × Tree E)) → step First h t ≡ o
      → ((stepped First (steps (replicate n First) h) t o).fronts ≡ flat h t) × (flat h (stepped First (steps (replicate n First) h) t o).left ≡ [])
  forward_more n h t w l ih None p =
      let z : flat h t ≡ [] = step_stops First h t w p in
      let i = ih t w (omega (arith, ap length z)) in
      (i.all, i.none_left)
  forward_more n h t w l ih (Some a) p =
      let q = step_takes First h t a.0 a.1 w p in
      let i = ih a.1 q.fanned (omega (arith, ap length q.flat_is)) in
      (ap (λ r. a.0 ∷ r) i.all ∙ sym q.flat_is, i.none_left)

  pub steps_forward : StepsForward E
  steps_forward zero h t w l = let z : flat h t ≡ [] = nil_from_length (flat h t) (omega arith) in record { all = sym z; none_left = z }
  steps_forward (suc n) h t w l =
      let r = forward_more n h t w l (λ u v m. steps_forward n h u v m) (step First h t) refl in record { all = r.0; none_left = r.1 }

  backward_more : (n h : ℕ) (t : Tree E) → Fanned h t → length (flat h t) ≤ suc n → ((u : Tree E) → Fanned h u → length (flat h u) ≤ n → Backward n h u) → (o : Option (E × Tree E)) → step Last h t ≡ o
      → ((stepped Last (steps (replicate n Last) h) t o).backs ≡ reverse (flat h t)) × (flat h (stepped Last (steps (replicate n Last) h) t o).left ≡ [])
  backward_more n h t w l ih None p =
      let z : flat h t ≡ [] = step_stops Last h t w p in
      let i = ih t w (omega (arith, ap length z)) in
      (i.all, i.none_left)
  backward_more n h t w l ih (Some a) p =
      let q = step_takes Last h t a.0 a.1 w p in
      let i = ih a.1 q.fanned (omega (arith, ap length q.flat_is, length_push (flat h a.1) a.0)) in
      (ap (λ r. a.0 ∷ r) i.all ∙ sym (ap reverse q.flat_is ∙ reverse-append (flat h a.1) (a.0 ∷ [])), i.none_left)

  pub steps_backward : StepsBackward E
  steps_backward zero h t w l = let z : flat h t ≡ [] = nil_from_length (flat h t) (omega arith) in record { all = ap reverse (sym z); none_left = z }
  steps_backward (suc n) h t w l =
      let r = backward_more n h t w l (λ u v m. steps_backward n h u v m) (step Last h t) refl in record { all = r.0; none_left = r.1 }
