-- Children that get a new parent, one after another. Assumes nothing.
use Rattle.std.proofs.Common.{◌≡◌, ℕ, zero, suc, ◌+◌, ◌-◌, ◌<◌, ◌≤◌, ◌⊎◌, List, [], ◌∷◌, ◌++◌, length, get_or, set, All, sym, refl, ap, ◌∙◌, subst, inl, inr, ⊎_elim, arith, length-set}
use Rattle.std.proofs.lemmas.List.{get_or-set_same, get_or-set_other, get_or_append_left, get_or_push, length_push}
use Rattle.std.proofs.lemmas.Bool.{cases_eq, cases_lt}
use Rattle.std.proofs.lemmas.Bool.Decides.{nat_tests}
use Rattle.node.specs.declared.head.Head.{Head}
use Rattle.node.specs.Store.{head_in, no_head, times}
use Rattle.std.proofs.lemmas.List.Elements.{All-get_or}
use Rattle.node.specs.Cells.{span}
use Rattle.node.specs.Links.{Adopted, relink, edge}
use Rattle.node.proofs.Spans.{span_more, span_len, span_at}

-- ---- how often a number stands in a list

pub times_append : (x : ℕ) (xs ys : List ℕ) → times x (xs ++ ys) ≡ times x xs + times x ys
times_append x [] ys = omega arith
times_append x (y ∷ xs) ys = omega (arith, times_append x xs ys)

pub times_one : (x y : ℕ) → times x (y ∷ []) ≡ 0 → x ≡ y → ⊥
times_one x y h e = grind (arith, nat_tests)

pub times_at : (xs : List ℕ) (j : ℕ) → j < length xs → 1 ≤ times (get_or xs j 0) xs
times_at [] j l = absurd (omega arith)
times_at (y ∷ xs) zero l = grind (arith, nat_tests)
times_at (y ∷ xs) (suc j) l = omega (arith, times_at xs j (omega arith))

-- a write to head y that keeps a field keeps that field everywhere
pub kept_by_set : {X : Type 0} (f : Head → X) (H : List Head) (y : ℕ) (h : Head) → f h ≡ f (head_in H y) → y < length H → (x : ℕ) → f (head_in (set H y h) x) ≡ f (head_in H x)
kept_by_set f H y h e l x =
    ⊎_elim
    (λ (q : x ≡ y). rw q (ap f (get_or-set_same H y h no_head l) ∙ e))
    (λ (q : x ≡ y → ⊥). ap f (get_or-set_other H y x h no_head q))
    (cases_eq x y)

pub adopted_none : (H : List Head) (p i : ℕ) → Adopted H H p i []
adopted_none H p i = record {
  size = refl;
  lens = λ x. refl;
  edges = λ x. refl;
  parent_same = λ x z. refl;
  place_same = λ x z. refl;
  parents = λ j l. absurd (omega arith);
  places = λ o j l. absurd (omega arith);
}

module _ (H G : List Head) (p i : ℕ) (cs : List ℕ) (w : Adopted H G p i cs) (y : ℕ) (room : y < length G) (n : ℕ) (is : n ≡ i + length cs) where
  abbrev given : Head
  given = record { parent = p; place = n; len = (head_in G y).len; edges = (head_in G y).edges }

  other : (x : ℕ) → times x (cs ++ y ∷ []) ≡ 0 → (x ≡ y → ⊥) × (times x cs ≡ 0)
  other x z = let s = times_append x cs (y ∷ []) in (times_one x y (omega arith), omega arith)

  last_or_not : (j : ℕ) → j < length (cs ++ y ∷ []) → (j < length cs) ⊎ (j ≡ length cs)
  last_or_not j l = ⊎_elim (λ (h : j < length cs). inl h) (λ (h : length cs ≤ j). inr (omega (arith, length_push cs y))) (cases_lt j (length cs))

  pub adopt_step : Adopted H (relink G p n y) p i (cs ++ y ∷ [])
  adopt_step = record {
    size = length-set G y given ∙ w.size;
    lens = λ x. kept_by_set (λ h. h.len) G y given refl room x ∙ w.lens x;
    edges = λ x. kept_by_set (λ h. h.edges) G y given refl room x ∙ w.edges x;
    parent_same = λ x z. ap (λ h. h.parent) (get_or-set_other G y x given no_head (other x z).0) ∙ w.parent_same x (other x z).1;
    place_same = λ x z. ap (λ h. h.place) (get_or-set_other G y x given no_head (other x z).0) ∙ w.place_same x (other x z).1;
    parents = λ j l.
        ⊎_elim
        (λ (h : j < length cs).
        let e : get_or (cs ++ y ∷ []) j 0 ≡ get_or cs j 0 = get_or_append_left cs (y ∷ []) 0 j h in
        rw e
        (⊎_elim
        (λ (q : get_or cs j 0 ≡ y). rw q (ap (λ h. h.parent) (get_or-set_same G y given no_head room)))
        (λ (q : get_or cs j 0 ≡ y → ⊥). ap (λ h. h.parent) (get_or-set_other G y (get_or cs j 0) given no_head q) ∙ w.parents j h)
        (cases_eq (get_or cs j 0) y)))
        (λ (h : j ≡ length cs). rw (get_or_push cs y 0 j (sym h)) (ap (λ h. h.parent) (get_or-set_same G y given no_head room)))
        (last_or_not j l);
    places = λ once j l.
        ⊎_elim
        (λ (h : j < length cs).
        let e : get_or (cs ++ y ∷ []) j 0 ≡ get_or cs j 0 = get_or_append_left cs (y ∷ []) 0 j h in
        let c : ℕ = get_or cs j 0 in
        let some = times_at cs j h in
        let sum = times_append c cs (y ∷ []) in
        let few = once c in
        let q : c ≡ y → ⊥ = times_one c y (omega arith) in
        rw e (ap (λ h. h.place) (get_or-set_other G y c given no_head q) ∙ w.places (λ x. omega (arith, once x, times_append x cs (y ∷ []))) j h))
        (λ (h : j ≡ length cs). rw (get_or_push cs y 0 j (sym h)) (ap (λ h. h.place) (get_or-set_same G y given no_head room) ∙ is ∙ ap (λ z. i + z) (sym h)))
        (last_or_not j l);
  }

module _ (H G : List Head) (p a i : ℕ) (w : Adopted H G p a (span (head_in H p).edges a (i - a))) (from : a ≤ i) (wide : length (head_in G p).edges ≡ 12) (within : i < 12) where
  here : edge G p i ≡ get_or (head_in H p).edges i 0
  here = ap (λ es. get_or es i 0) (w.edges p)

  long : length (head_in H p).edges ≡ 12
  long = ap length (sym (w.edges p)) ∙ wide

  pub adopted_more : edge G p i < length G → Adopted H (relink G p i (edge G p i)) p a (span (head_in H p).edges a (i + 1 - a))
  adopted_more room =
      let e = span_more (head_in H p).edges a i 0 from (omega (arith, long)) in
      let n : i ≡ a + length (span (head_in H p).edges a (i - a)) = omega (arith, span_len (head_in H p).edges a (i - a), long) in
      subst (λ cs. Adopted H (relink G p i (edge G p i)) p a cs) (ap (λ y. span (head_in H p).edges a (i - a) ++ y ∷ []) here ∙ sym e)
      (adopt_step H G p a (span (head_in H p).edges a (i - a)) w (edge G p i) room i n)

  -- a child outside the table is one of those that were listed
  pub adopted_not : (b : ℕ) → i < b → b ≤ 12 → length G ≤ edge G p i → All (λ c. c < length H) (span (head_in H p).edges a (b - a)) → ⊥
  adopted_not b l most out all =
      let z : a + (i - a) ≡ i = omega arith in
      let q : get_or (span (head_in H p).edges a (b - a)) (i - a) 0 < length H =
      All-get_or (λ c. c < length H) (span (head_in H p).edges a (b - a)) (i - a) 0 (omega (arith, span_len (head_in H p).edges a (b - a), long)) all in
      let e : get_or (span (head_in H p).edges a (b - a)) (i - a) 0 ≡ edge G p i =
      span_at (head_in H p).edges a (b - a) (i - a) 0 (omega arith) ∙ ap (λ n. get_or (head_in H p).edges n 0) z ∙ sym here in
      omega (arith, w.size)
