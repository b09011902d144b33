-- Keys that come in order, in parts. Assumes nothing.
use Rattle.std.proofs.Common.{◌≡◌, ℕ, suc, ◌+◌, ◌-◌, ◌<◌, List, [], ◌∷◌, ◌++◌, length, get_or, take, drop, Option, Some, sym, refl, ap, ap₂, ◌∙◌, subst, arith, length-append}
use lib.Seq.{split_at}
use Rattle.std.proofs.lemmas.List.{take_more}
use Rattle.std.specs.declared.cmp.Ordering.{Ordering}
use Rattle.audit.specs.declared.runs.Run.{Run}
use Rattle.audit.specs.Runs.{Chained, last_of, Notes, noted}

module _ {K : Type 0} where
  pub last_append : (l : Option K) (xs ys : List K) → last_of l (xs ++ ys) ≡ last_of (last_of l xs) ys
  last_append l [] ys = refl
  last_append l (x ∷ xs) ys = last_append (Some x) xs ys

  pub noted_append : (xs ys : List K) (r : Run K) → noted (xs ++ ys) r ≡ noted ys (noted xs r)
  noted_append xs ys r =
      let z : r.left - length (xs ++ ys) ≡ r.left - length xs - length ys = omega (arith, length-append xs ys) in
      let made : Option K → ℕ → Run K = λ l n. record { last = l; left = n } in
      ap₂ made (last_append r.last xs ys) z

  pub noted_nil : (r : Run K) → noted [] r ≡ r
  noted_nil r =
      let z : r.left - 0 ≡ r.left = omega arith in
      let made : ℕ → Run K = λ n. record { last = r.last; left = n } in
      ap made z

module _ {K : Type 0} (compares : K → K → Ordering) where
  chained_append : (l : Option K) (xs ys : List K) → Chained compares l xs → Chained compares (last_of l xs) ys → Chained compares l (xs ++ ys)
  chained_append l [] ys a b = b
  chained_append l (x ∷ xs) ys a b = (a.0, chained_append (Some x) xs ys a.1 b)

  chained_parts : (l : Option K) (xs ys : List K) → Chained compares l (xs ++ ys) → Chained compares l xs × Chained compares (last_of l xs) ys
  chained_parts l [] ys a = (tt, a)
  chained_parts l (x ∷ xs) ys a = let r = chained_parts (Some x) xs ys a.1 in ((a.0, r.0), r.1)

  pub notes_append : (xs ys : List K) (r : Run K) → Notes compares xs r → Notes compares ys (noted xs r) → Notes compares (xs ++ ys) r
  notes_append xs ys r a b = record {
    chained = chained_append r.last xs ys a.chained b.chained;
    fits = omega (arith, length-append xs ys, a.fits, b.fits);
  }

  pub notes_parts : (xs ys : List K) (r : Run K) → Notes compares (xs ++ ys) r → Notes compares xs r × Notes compares ys (noted xs r)
  notes_parts xs ys r a =
      let c = chained_parts r.last xs ys a.chained in
      let n = length-append xs ys in (
        record { chained = c.0; fits = omega (arith, a.fits) },
        record { chained = c.1; fits = omega (arith, a.fits) },
      )

  -- the first i keys are noted
  pub record Noted (ks : List K) (i : ℕ) (r r' : Run K) : Type 0 where
    pub notes : Notes compares (take i ks) r
    pub run_is : r' ≡ noted (take i ks) r

  pub noted_none : (ks : List K) (r : Run K) → Noted ks 0 r r
  noted_none ks r = record { notes = record { chained = tt; fits = omega arith }; run_is = sym (noted_nil r) }

  pub noted_more : (ks : List K) (i : ℕ) (r r' : Run K) (k : K) → i < length ks → k ≡ get_or ks i k → Noted ks i r r' → Notes compares (k ∷ []) r' → Noted ks (i + 1) r (noted (k ∷ []) r')
  noted_more ks i r r' k l q w n =
      let e : take (i + 1) ks ≡ take i ks ++ k ∷ [] = take_more ks i k l ∙ ap (λ x. take i ks ++ x ∷ []) (sym q) in
      record {
        notes = subst (λ xs. Notes compares xs r) (sym e) (notes_append (take i ks) (k ∷ []) r w.notes (subst (λ s. Notes compares (k ∷ []) s) w.run_is n));
        run_is = ap (noted (k ∷ [])) w.run_is ∙ sym (noted_append (take i ks) (k ∷ []) r) ∙ ap (λ xs. noted xs r) (sym e);
      }

  -- what is noted as a whole is noted at each
  pub noted_at : (ks : List K) (i : ℕ) (r r' : Run K) (k : K) → i < length ks → k ≡ get_or ks i k → Noted ks i r r' → Notes compares ks r → Notes compares (k ∷ []) r'
  noted_at ks i r r' k l q w n =
      let e : ks ≡ take i ks ++ k ∷ drop (suc i) ks = split_at ks i k l ∙ ap (λ x. take i ks ++ x ∷ drop (suc i) ks) (sym q) in
      let a = notes_parts (take i ks) (k ∷ drop (suc i) ks) r (subst (λ xs. Notes compares xs r) e n) in
      subst (λ s. Notes compares (k ∷ []) s) (sym w.run_is) (notes_parts (k ∷ []) (drop (suc i) ks) (noted (take i ks) r) a.1).0
