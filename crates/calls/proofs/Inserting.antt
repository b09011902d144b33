-- What an insertion makes of a book. Assumes nothing.
use Rattle.std.proofs.Common.{◌≡◌, ◌≢◌, ℕ, ◌≤◌, ◌+◌, Bool, true, false, List, [], ◌∷◌, ◌++◌, length, nat_lt, nat_le, suc, inl, inr, Some, None, Ok, Err, All, Option, Ordering, Equal, refl, ap, subst, sym, arith, ◌∙◌, length-append}
use Rattle.std.specs.Ordering.{is_lt, is_gt}
use Rattle.std.proofs.lemmas.Option.{none-some, same_Some}
use Rattle.std.proofs.lemmas.Bool.{false≢true, cond_both, ltb-true}
use Rattle.std.proofs.lemmas.List.Elements.{All-weaker, All-nil, All-cons, All-head, All-tail}
use Rattle.order.specs.Laws.{Ordered}
use Rattle.node.specs.Shape.{Tree, flat, mk, Formed, Within}
use Rattle.node.specs.Store.{first, second}
use Rattle.node.proofs.Weaves.{all_back, all_both, all_of}
use Rattle.rules.specs.Rules.{insert, need, run, low, high}
use Rattle.rules.proofs.Grows.{insert_formed, insert_flat, insert_numbers}
use Rattle.rules.proofs.Sorts.{sorted_parts}
use Rattle.rules.proofs.Ways.{way_parts}
use Rattle.node.proofs.Sorting.{sorted_rises}
use Rattle.map.specs.Lookup.{InOrder, Sought, seek}
use Rattle.map.specs.Replacing.{amend, Altered}
use Rattle.map.proofs.Replaces.{amend_list, amend_formed}
use Rattle.calls.specs.declared.calls.Answer.{Answer}
use Rattle.calls.specs.declared.calls.Answer.TheVariants.{Inserted}
use Rattle.books.specs.Books.{Book, bare, planted, walked, idle}
use Rattle.books.specs.Kinds.{kind_of, is_map}
use Rattle.calls.specs.Rules.{Part, tree_book, beside_key, put_in, insert_in}
use Rattle.calls.specs.Meaning.{Sound, Gains, InsertMeans}
use Rattle.calls.proofs.Agreeing.{lt_left, key_agrees, lt_from_gt, downward, finds, sorted_back}
use Rattle.calls.proofs.Keeping.{Kept, err_ok, ok_same, granted_kept, declined_kept, within_kept}

formed_one : {E : Type 0} (m : ℕ) (e : E) → Formed 0 (mk m (e ∷ []) [])
unfolding Within
formed_one m e = (omega arith, omega arith, refl)

flat_one : {E : Type 0} (m : ℕ) (e : E) → flat 0 (mk m (e ∷ []) []) ≡ e ∷ []
unfolding flat
flat_one m e = refl

inserted_same : {K V : Type 0} (x y : Option V) → ◌≡◌ {A = Answer K V} (Inserted x) (Inserted y) → x ≡ y
inserted_same x y q = cc

module _ {K V : Type 0} {compares : K → K → Ordering} (ordered : Ordered compares) (e : K × V) where
  abbrev before_key : K × V → K × V → Bool
  before_key x y = is_lt (compares (first x) (first y))

  abbrev below_key : K × V → Bool
  below_key y = is_gt (compares (first e) (first y))

  abbrev Others : List (K × V) → Type 0
  Others l = All (λ y. compares (first e) (first y) ≢ Equal) l

  -- an entry put where no key is the same
  put_order : (xs ys : List (K × V)) → InOrder compares (xs ++ ys) → Others (xs ++ ys) → All (λ y. below_key y ≡ true) xs → All (λ y. below_key y ≡ false) ys → InOrder compares (xs ++ e ∷ ys)
  put_order xs ys s n l r =
      let n' : Others ys = all_back (λ y. compares (first e) (first y) ≢ Equal) xs ys n in
      let behind : All (λ y. before_key e y ≡ true) ys =
      all_both (λ y. below_key y ≡ false) (λ y. compares (first e) (first y) ≢ Equal) (λ y. before_key e y ≡ true) (λ y q m. lt_left (compares (first e) (first y)) q m) ys r n' in
      sorted_back before_key xs ys (e ∷ ys) s (behind, (sorted_parts before_key xs ys s).1)
      (All-weaker (λ y. below_key y ≡ true) (λ x. All (λ z. before_key x z ≡ true) ys → All (λ z. before_key x z ≡ true) (e ∷ ys))
      (λ x q a. All-cons (λ z. before_key x z ≡ true) e ys (lt_from_gt ordered (first e) (first x) q) a) xs l)

  -- another value under a key
  altered_order : (v : V) (xs : List (K × V)) (x : K × V) (ys : List (K × V)) → InOrder compares (xs ++ x ∷ ys) → InOrder compares (xs ++ (first x, v) ∷ ys)
  altered_order v xs x ys s =
      let t : InOrder compares (x ∷ ys) = (sorted_parts before_key xs (x ∷ ys) s).1 in
      sorted_back before_key xs (x ∷ ys) ((first x, v) ∷ ys) s (t.0, t.1)
      (all_of {P = λ y. All (λ z. before_key y z ≡ true) (x ∷ ys) → All (λ z. before_key y z ≡ true) ((first x, v) ∷ ys)}
      (λ y a. All-cons (λ z. before_key y z ≡ true) (first x, v) ys (All-head (λ z. before_key y z ≡ true) x ys a) (All-tail (λ z. before_key y z ≡ true) x ys a)) xs)

  module _ (fresh : ℕ → ℕ) (top a : ℕ) (h : ℕ) (t : Tree (K × V)) (w : Formed h t) (s : InOrder compares (flat h t)) where
    abbrev Put : Option (K × V) → Part K V
    Put x = put_in compares fresh top a e h t x

    abbrev grown : ℕ × Tree (K × V)
    grown = insert fresh top below_key e h t

    -- the key is there
    altered_in : (x : K × V) → seek (beside_key compares e) h t ≡ Some x → Altered (λ y. (first y, second e)) x (flat h t) (flat h (amend (λ y. (first y, second e)) (beside_key compares e) h t))
    altered_in x q = amend_list (λ y. (first y, second e)) (beside_key compares e) h t w x q

    sought_in : (x : Option (K × V)) → seek (beside_key compares e) h t ≡ x → Sought (beside_key compares e) (flat h t) x
    sought_in x q = subst (λ r. Sought (beside_key compares e) (flat h t) r) q (finds (key_agrees ordered (first e)) h t w s)

    old_kept : (x : K × V) → seek (beside_key compares e) h t ≡ Some x → Kept compares (planted h t) (Put (Some x))
    old_kept x q =
        let r = altered_in x q in
        let long : length (flat h (amend (λ y. (first y, second e)) (beside_key compares e) h t)) ≡ length (flat h t) =
        ap length r.now_is ∙ length-append r.ante ((first x, second e) ∷ r.post) ∙ sym (ap length r.was ∙ length-append r.ante (x ∷ r.post)) in
        granted_kept compares (planted h t) (planted h (amend (λ y. (first y, second e)) (beside_key compares e) h t)) (Inserted (Some (second x))) (
          (amend_formed (λ y. (first y, second e)) (beside_key compares e) h t w).0,
          subst (λ l. InOrder compares l) (sym r.now_is) (altered_order (second e) r.ante x r.post (subst (λ l. InOrder compares l) r.was s)),
        )
        (omega (arith, long))

    old_means : (x : K × V) → seek (beside_key compares e) h t ≡ Some x → InsertMeans compares a (planted h t) (Put (Some x)).1 (Put (Some x)).0 e
    old_means x q = record {
      answers = inl (Some (second x), refl);
      kind = refl;
      new = λ r. absurd (none-some (second x) (sym (inserted_same (Some (second x)) None (ok_same (Inserted (Some (second x))) (Inserted None) r))));
      old = λ v r. (x, (sought_in (Some x) q).1, same_Some (second x) v (inserted_same (Some (second x)) (Some v) (ok_same (Inserted (Some (second x))) (Inserted (Some v)) r)), altered_in x q);
    }

    -- it is not
    new_order : Others (flat h t) → InOrder compares (low below_key h t ++ e ∷ high below_key h t)
    new_order n =
        let p = way_parts below_key h t w in
        let q = p.1 (sorted_rises before_key below_key (downward (key_agrees ordered (first e))) (flat h t) s) in
        put_order (low below_key h t) (high below_key h t) (subst (λ l. InOrder compares l) p.0 s) (subst Others p.0 n) q.0 q.1

    new_sound : Others (flat h t) → Sound compares (tree_book grown)
    new_sound n = (insert_formed fresh top below_key e h t w, subst (λ l. InOrder compares l) (sym (insert_flat fresh top below_key e h t w)) (new_order n))

    new_gains : Gains e (flat h t) (flat grown.0 grown.1)
    new_gains = record { ante = low below_key h t; post = high below_key h t; was = (way_parts below_key h t w).0; now_is = insert_flat fresh top below_key e h t w }

    new_kept : seek (beside_key compares e) h t ≡ None → Kept compares (planted h t) (Put None)
    new_kept q =
        let r = new_gains in
        let long : length (flat grown.0 grown.1) ≡ length (flat h t) + 1 =
        ap length r.now_is ∙ length-append r.ante (e ∷ r.post) ∙ omega (arith, ap length r.was, length-append r.ante r.post) in
        within_kept compares (need below_key h t) a (planted h t) (Ok (Inserted None), tree_book grown) (w, s)
        (granted_kept compares (planted h t) (tree_book grown) (Inserted None) (new_sound (sought_in None q)) (omega (arith, long)))

    -- at most one number for each level, and one for a new root
    need_few : need below_key h t ≤ h + 2
    need_few =
        let m = (insert_numbers (λ u. u) fresh top below_key e h t w).1 in
        cond_both (nat_le (suc h) (run below_key h t)) 1 0 (λ n. run below_key h t + n ≤ h + 2) (λ z. omega (arith, m)) (λ z. omega (arith, m))

    new_means : seek (beside_key compares e) h t ≡ None → InsertMeans compares a (planted h t) (Put None).1 (Put None).0 e
    new_means q =
        let n : ℕ = need below_key h t in
        let few : n ≤ h + 2 = need_few in
        cond_both {A = Part K V} (nat_lt a n) (Err (6, n ∷ a ∷ []), planted h t) (Ok (Inserted None), tree_book grown)
        (λ o. InsertMeans compares a (planted h t) o.1 o.0 e)
        (λ z. record {
          answers = inr (n, refl, ltb-true a n z, few, sought_in None q);
          kind = refl;
          new = λ r. absurd (err_ok (Inserted None) (6, n ∷ a ∷ []) r);
          old = λ v r. absurd (err_ok (Inserted (Some v)) (6, n ∷ a ∷ []) r);
        })
        (λ z. record {
          answers = inl (None, refl);
          kind = refl;
          new = λ r. (sought_in None q, new_gains);
          old = λ v r. absurd (none-some v (inserted_same None (Some v) (ok_same (Inserted None) (Inserted (Some v)) r)));
        })

    put_kept : (x : Option (K × V)) → seek (beside_key compares e) h t ≡ x → Kept compares (planted h t) (Put x)
    put_kept None q = new_kept q
    put_kept (Some x) q = old_kept x q

    put_means : (x : Option (K × V)) → seek (beside_key compares e) h t ≡ x → InsertMeans compares a (planted h t) (Put x).1 (Put x).0 e
    put_means None q = new_means q
    put_means (Some x) q = old_means x q

  module _ (fresh : ℕ → ℕ) (top a : ℕ) where
    one_sound : Sound compares (planted 0 (mk top (e ∷ []) []))
    one_sound = (formed_one top e, subst (λ l. InOrder compares l) (sym (flat_one top e)) (All-nil (λ y. before_key e y ≡ true), tt))

    one_kept : Kept compares bare (insert_in compares fresh top a e bare)
    one_kept =
        let long : length (flat 0 (mk top (e ∷ []) [])) ≡ 1 = ap length (flat_one top e) in
        within_kept compares 1 a bare (Ok (Inserted None), planted 0 (mk top (e ∷ []) [])) tt
        (granted_kept compares bare (planted 0 (mk top (e ∷ []) [])) (Inserted None) one_sound (omega (arith, long)))

    one_means : InsertMeans compares a bare (insert_in compares fresh top a e bare).1 (insert_in compares fresh top a e bare).0 e
    one_means =
        cond_both {A = Part K V} (nat_lt a 1) (Err (6, 1 ∷ a ∷ []), bare) (Ok (Inserted None), planted 0 (mk top (e ∷ []) []))
        (λ o. InsertMeans compares a bare o.1 o.0 e)
        (λ z. record {
          answers = inr (1, refl, ltb-true a 1 z, omega arith, All-nil (λ y. compares (first e) (first y) ≢ Equal));
          kind = refl;
          new = λ r. absurd (err_ok (Inserted None) (6, 1 ∷ a ∷ []) r);
          old = λ v r. absurd (err_ok (Inserted (Some v)) (6, 1 ∷ a ∷ []) r);
        })
        (λ z. record {
          answers = inl (None, refl);
          kind = refl;
          new = λ r. (All-nil (λ y. compares (first e) (first y) ≢ Equal), record { ante = []; post = []; was = refl; now_is = flat_one top e });
          old = λ v r. absurd (none-some v (inserted_same None (Some v) (ok_same (Inserted None) (Inserted (Some v)) r)));
        })

    pub insert_kept : (b : Book (K × V)) → Sound compares b → Kept compares b (insert_in compares fresh top a e b)
    insert_kept bare s = one_kept
    insert_kept (planted h t) s = put_kept fresh top a h t s.0 s.1 (seek (beside_key compares e) h t) refl
    insert_kept (walked h t) s = declined_kept compares (walked h t) (4, []) s
    insert_kept idle s = declined_kept compares idle (4, []) s

    pub insert_means : (b : Book (K × V)) → is_map (kind_of b) ≡ true → Sound compares b → InsertMeans compares a b (insert_in compares fresh top a e b).1 (insert_in compares fresh top a e b).0 e
    insert_means bare m s = one_means
    insert_means (planted h t) m s = put_means fresh top a h t s.0 s.1 (seek (beside_key compares e) h t) refl
    insert_means (walked h t) m s = absurd (false≢true m)
    insert_means idle m s = absurd (false≢true m)
