-- The rules of the calls: sound books stay sound, each rule means what the map's call does, and entries come out even. Assumes nothing.
use Rattle.std.proofs.Common.{◌≡◌, ◌≢◌, ℕ, ◌+◌, ◌<◌, Bool, true, List, length, slice_set, Some, None, Ok, Err, All, Option, Result, Ordering, refl, ap, subst, sym, arith, ◌∙◌}
use Rattle.std.proofs.lemmas.Option.{none-some, same_Some}
use Rattle.order.specs.Laws.{Ordered}
use Rattle.calls.specs.declared.calls.Answer.{Answer}
use Rattle.books.specs.Books.{Book, bare, planted, walked, idle, entries, book_in}
use Rattle.calls.specs.Refusals.{Code}
use Rattle.calls.specs.Asking.{Query, Asked, Insert, Lookup, Least, Count, Cut, Open, Step, Close, Release, Audit}
use Rattle.books.specs.Kinds.{Kind, kind_of}
use Rattle.calls.specs.Rules.{Outcome, Part, Parts, placed, parted, lookup_in, least_in, Shape, asks_at, acts_at, acts_at_both, of_bank, shape, check_shape, check, act_by, act, checked}
use Rattle.calls.specs.Meaning.{Sound, Agreeing, AnswerMeans, AtPlaces, LeavesPlace, Means}
use Rattle.calls.specs.Runs.{count_all, inserted, handed, dropped}
use Rattle.calls.specs.Laws.{RuleSound, RuleMeans, RuleEven}
use Rattle.calls.proofs.Placing.{sixteen, there, elsewhere, replaced, all_replaced, all_at, again, one_passes, Two, two_pass}
use Rattle.calls.proofs.Keeping.{Kept, BothKept}
use Rattle.calls.proofs.Inserting.{insert_kept, insert_means}
use Rattle.calls.proofs.Stepping.{open_kept, open_means, step_kept, step_means, drop_kept, drop_means}
use Rattle.calls.proofs.Cutting.{count_means, lookup_means, least_means, cut_both, cut_means}

-- a lookup changes nothing, and hands out and drops nothing
lookup_plain : {K V : Type 0} (place : Query K) (b : Book (K × V)) → handed (lookup_in place b) + dropped (lookup_in place b) ≡ inserted (lookup_in place b)
lookup_plain place bare = refl
lookup_plain place (planted h t) = refl
lookup_plain place (walked h t) = refl
lookup_plain place idle = refl

least_plain : {K V : Type 0} (place : Query K) (b : Book (K × V)) → handed (least_in place b) + dropped (least_in place b) ≡ inserted (least_in place b)
least_plain place bare = refl
least_plain place (planted h t) = refl
least_plain place (walked h t) = refl
least_plain place idle = refl

module _ {K V : Type 0} (compares : K → K → Ordering) where
  abbrev SoundAll : List (Book (K × V)) → Type 0
  SoundAll bs = All (Sound compares) bs

  abbrev Stays : Outcome K V → Type 0
  Stays o = (length o.books ≡ 16) × SoundAll o.books

  abbrev EvenAt : List (Book (K × V)) → Outcome K V → Type 0
  EvenAt bs o = count_all o.books + (handed o.answer + dropped o.answer) ≡ count_all bs + inserted o.answer

  abbrev kinds : List (Book (K × V)) → ℕ → Kind
  kinds bs p = kind_of (book_in bs p)

  -- ---- a call on one place

  module _ (bs : List (Book (K × V))) (long : length bs ≡ 16) (s : SoundAll bs) where
    module _ (p : ℕ) (low : p < 16) where
      in_bs : p < length bs
      in_bs = omega (arith, low, long)

      sound_at : Sound compares (book_in bs p)
      sound_at = all_at (Sound compares) bs p in_bs s

      module _ (o : Part K V) (k : Kept compares (book_in bs p) o) where
        placed_stays : Stays (placed p bs o)
        placed_stays = (sixteen bs p o.1 long, all_replaced (Sound compares) bs p o.1 k.sound s)

        placed_even : EvenAt bs (placed p bs o)
        placed_even =
            let r : count_all (slice_set bs p o.1) + length (entries (book_in bs p)) ≡ count_all bs + length (entries o.1) = replaced (λ b. length (entries b)) bs p o.1 in_bs in
            let q = k.even in
            omega (arith, r, q)

        placed_refused : (e : Code) → o.0 ≡ Err e → slice_set bs p o.1 ≡ bs
        placed_refused e r = again bs p o.1 (k.refused e r)

    -- ---- a call on two places

    module _ (p o : ℕ) (f g : Kind → Bool) (two : Two (kinds bs) f g p o) (q : Parts K V) (k : BothKept compares (book_in bs p) (book_in bs o) q) where
      abbrev once : List (Book (K × V))
      once = slice_set bs p (q.1).0

      abbrev twice : List (Book (K × V))
      twice = slice_set once o (q.1).1

      once_long : length once ≡ 16
      once_long = sixteen bs p (q.1).0 long

      second_there : book_in once o ≡ book_in bs o
      second_there = elsewhere bs p o (q.1).0 (λ e. two.apart (sym e))

      parted_stays : Stays (parted p o bs q)
      parted_stays = (sixteen once o (q.1).1 once_long, all_replaced (Sound compares) once o (q.1).1 k.right (all_replaced (Sound compares) bs p (q.1).0 k.left s))

      parted_even : EvenAt bs (parted p o bs q)
      parted_even =
          let first_is : count_all once + length (entries (book_in bs p)) ≡ count_all bs + length (entries (q.1).0) = replaced (λ b. length (entries b)) bs p (q.1).0 (omega (arith, two.low, long)) in
          let second_is : count_all twice + length (entries (book_in once o)) ≡ count_all once + length (entries (q.1).1) = replaced (λ b. length (entries b)) once o (q.1).1 (omega (arith, two.low', once_long)) in
          let same : length (entries (book_in once o)) ≡ length (entries (book_in bs o)) = ap (λ b. length (entries b)) second_there in
          let e = k.even in
          omega (arith, first_is, second_is, same, e)

      parted_refused : (e : Code) → q.0 ≡ Err e → twice ≡ bs
      parted_refused e r =
          let z = k.refused e r in
          ap (λ c. slice_set c o (q.1).1) (again bs p (q.1).0 z.0) ∙ again bs o (q.1).1 z.1

      left_there : book_in twice p ≡ (q.1).0
      left_there = elsewhere once o p (q.1).1 two.apart ∙ there bs p (q.1).0 (omega (arith, two.low, long))

      right_there : book_in twice o ≡ (q.1).1
      right_there = there once o (q.1).1 (omega (arith, two.low', once_long))

    parted_others : (p o : ℕ) (q : Parts K V) (x : ℕ) → (x ≢ p) × (x ≢ o) → book_in (slice_set (slice_set bs p (q.1).0) o (q.1).1) x ≡ book_in bs x
    parted_others p o q x n = elsewhere (slice_set bs p (q.1).0) o x (q.1).1 n.1 ∙ elsewhere bs p x (q.1).0 n.0

    -- ---- a call by its shape

    module _ (ordered : Ordered compares) (fresh : ℕ → ℕ → ℕ) (top : ℕ → ℕ) (a : ℕ) where
      abbrev by_rule : Shape K V → Outcome K V
      by_rule x = act_by compares fresh top a x bs

      -- what the rule of a shape keeps, at the books that its places allow
      abbrev Keeps : Shape K V → Type 0
      Keeps (asks_at p f r) = (b : Book (K × V)) → handed (r b) + dropped (r b) ≡ inserted (r b)
      Keeps (acts_at p f w r) = (b : Book (K × V)) → f (kind_of b) ≡ true → Sound compares b → Kept compares b (r compares fresh top a b)
      Keeps (acts_at_both p o f g w r) = (b d : Book (K × V)) → f (kind_of b) ≡ true → g (kind_of d) ≡ true → Sound compares b → Sound compares d → BothKept compares b d (r compares fresh top a b d)
      Keeps (of_bank x) = handed {K = K} {V = V} (Ok x) + dropped {K = K} {V = V} (Ok x) ≡ inserted {K = K} {V = V} (Ok x)

      -- and what it means there
      abbrev Meant : Shape K V → (Result (Answer K V) Code → Book (K × V) → Book (K × V) → Book (K × V) → Book (K × V) → Type 0) → Type 0
      Meant (asks_at p f r) M = (b : Book (K × V)) → f (kind_of b) ≡ true → Sound compares b → M (r b) b b bare bare
      Meant (acts_at p f w r) M = (b : Book (K × V)) → f (kind_of b) ≡ true → Sound compares b → M (r compares fresh top a b).0 b (r compares fresh top a b).1 bare bare
      Meant (acts_at_both p o f g w r) M = (b d : Book (K × V)) → f (kind_of b) ≡ true → g (kind_of d) ≡ true → Sound compares b → Sound compares d
          → M (r compares fresh top a b d).0 b ((r compares fresh top a b d).1).0 d ((r compares fresh top a b d).1).1
      Meant (of_bank x) M = M (Ok x) bare bare bare bare

      -- ---- each call

      keeps : (c : Asked K V) → Keeps (shape c)
      keeps (Insert p k v) = λ b m z. insert_kept ordered (k, v) (fresh 0) (top 0) a b z
      keeps (Lookup p place) = λ b. lookup_plain place b
      keeps (Least p place) = λ b. least_plain place b
      keeps (Count p) = λ b. refl
      keeps (Cut p o place) = λ b d m n z y. cut_both compares (fresh 0) a place b d n z
      keeps (Open p) = λ b m z. open_kept compares b z
      keeps (Step p side) = λ b m z. step_kept compares side b z
      keeps (Close p) = λ b m z. drop_kept compares b
      keeps (Release p) = λ b m z. drop_kept compares b
      keeps Audit = refl

      meant : (c : Asked K V) → Agreeing compares c → Meant (shape c) (λ r b b' d d'. AnswerMeans compares a b b' r c d d')
      meant (Insert p k v) g = λ b m z. insert_means ordered (k, v) (fresh 0) (top 0) a b m z
      meant (Lookup p place) g = λ b m z. lookup_means compares ordered a place g b m z
      meant (Least p place) g = λ b m z. least_means compares a place g b m z
      meant (Count p) g = λ b m z. count_means compares a b
      meant (Cut p o place) g = λ b d m n z y. cut_means compares (fresh 0) a place g b m z
      meant (Open p) g = λ b m z. open_means compares a b m
      meant (Step p side) g = λ b m z. step_means compares a side b m z
      meant (Close p) g = λ b m z. drop_means compares a b
      meant (Release p) g = λ b m z. drop_means compares a b
      meant Audit g = refl

      -- ---- the whole list, by the shape

      shape_stays : (x : Shape K V) → Keeps x → check_shape (kinds bs) x ≡ None → Stays (by_rule x)
      shape_stays (asks_at p f r) k q = (long, s)
      shape_stays (acts_at p f w r) k q =
          let one = one_passes (kinds bs) f p q in
          placed_stays p one.low (r compares fresh top a (book_in bs p)) (k (book_in bs p) one.kind (sound_at p one.low))
      shape_stays (acts_at_both p o f g w r) k q =
          let two = two_pass (kinds bs) f g p o q in
          parted_stays p o f g two (r compares fresh top a (book_in bs p) (book_in bs o)) (k (book_in bs p) (book_in bs o) two.kind two.kind' (sound_at p two.low) (sound_at o two.low'))
      shape_stays (of_bank x) k q = (long, s)

      shape_even : (x : Shape K V) → Keeps x → check_shape (kinds bs) x ≡ None → EvenAt bs (by_rule x)
      shape_even (asks_at p f r) k q = ap (λ n. count_all bs + n) (k (book_in bs p))
      shape_even (acts_at p f w r) k q =
          let one = one_passes (kinds bs) f p q in
          placed_even p one.low (r compares fresh top a (book_in bs p)) (k (book_in bs p) one.kind (sound_at p one.low))
      shape_even (acts_at_both p o f g w r) k q =
          let two = two_pass (kinds bs) f g p o q in
          parted_even p o f g two (r compares fresh top a (book_in bs p) (book_in bs o)) (k (book_in bs p) (book_in bs o) two.kind two.kind' (sound_at p two.low) (sound_at o two.low'))
      shape_even (of_bank x) k q = ap (λ n. count_all bs + n) k

      shape_refused : (x : Shape K V) → Keeps x → check_shape (kinds bs) x ≡ None → (e : Code) → (by_rule x).answer ≡ Err e → (by_rule x).books ≡ bs
      shape_refused (asks_at p f r) k q e z = refl
      shape_refused (acts_at p f w r) k q e z =
          let one = one_passes (kinds bs) f p q in
          placed_refused p one.low (r compares fresh top a (book_in bs p)) (k (book_in bs p) one.kind (sound_at p one.low)) e z
      shape_refused (acts_at_both p o f g w r) k q e z =
          let two = two_pass (kinds bs) f g p o q in
          parted_refused p o f g two (r compares fresh top a (book_in bs p) (book_in bs o)) (k (book_in bs p) (book_in bs o) two.kind two.kind' (sound_at p two.low) (sound_at o two.low')) e z
      shape_refused (of_bank x) k q e z = refl

      shape_others : (x : Shape K V) (y : ℕ) → LeavesPlace x y → book_in (by_rule x).books y ≡ book_in bs y
      shape_others (asks_at p f r) y n = refl
      shape_others (acts_at p f w r) y n = elsewhere bs p y (r compares fresh top a (book_in bs p)).1 n
      shape_others (acts_at_both p o f g w r) y n = parted_others p o (r compares fresh top a (book_in bs p) (book_in bs o)) y n
      shape_others (of_bank x) y n = refl

      shape_answered : (x : Shape K V) (M : Result (Answer K V) Code → Book (K × V) → Book (K × V) → Book (K × V) → Book (K × V) → Type 0) → Keeps x → Meant x M → check_shape (kinds bs) x ≡ None
          → AtPlaces bs (by_rule x).books x (M (by_rule x).answer)
      shape_answered (asks_at p f r) M k h q =
          let one = one_passes (kinds bs) f p q in
          h (book_in bs p) one.kind (sound_at p one.low)
      shape_answered (acts_at p f w r) M k h q =
          let one = one_passes (kinds bs) f p q in
          let b : Book (K × V) = book_in bs p in
          let o : Part K V = r compares fresh top a b in
          subst (λ b'. M o.0 b b' bare bare) (sym (there bs p o.1 (in_bs p one.low))) (h b one.kind (sound_at p one.low))
      shape_answered (acts_at_both p o f g w r) M k h q =
          let two = two_pass (kinds bs) f g p o q in
          let b : Book (K × V) = book_in bs p in
          let d : Book (K × V) = book_in bs o in
          let y : Parts K V = r compares fresh top a b d in
          let j = k b d two.kind two.kind' (sound_at p two.low) (sound_at o two.low') in
          subst (λ d'. M y.0 b (book_in (twice p o f g two y j) p) d d') (sym (right_there p o f g two y j))
          (subst (λ b'. M y.0 b b' d (y.1).1) (sym (left_there p o f g two y j)) (h b d two.kind two.kind' (sound_at p two.low) (sound_at o two.low')))
      shape_answered (of_bank x) M k h q = h

      -- a refusal by the checks changes nothing, and nothing else answers it
      checked_some : (c : Asked K V) (e : Code) → check (kinds bs) c ≡ Some e → Means compares a bs bs (Err e) c
      checked_some c e q = record {
        refused = λ f r. refl;
        checked = λ f r. ap (λ x. Err x) (same_Some e f (sym q ∙ r));
        others = λ x u. refl;
        answered = λ r. absurd (none-some e (sym r ∙ q));
      }

      act_means : (c : Asked K V) → Agreeing compares c → check (kinds bs) c ≡ None → Means compares a bs (act compares fresh top a c bs).books (act compares fresh top a c bs).answer c
      act_means c g q = record {
        refused = shape_refused (shape c) (keeps c) q;
        checked = λ e z. absurd (none-some e (sym q ∙ z));
        others = shape_others (shape c);
        answered = λ r. shape_answered (shape c) (λ r b b' d d'. AnswerMeans compares a b b' r c d d') (keeps c) (meant c g) q;
      }

      -- ---- with the checks

      checked_stays : (c : Asked K V) (o : Option Code) → check (kinds bs) c ≡ o → Stays (checked compares fresh top a c bs o)
      checked_stays c None q = shape_stays (shape c) (keeps c) q
      checked_stays c (Some e) q = (long, s)

      checked_even : (c : Asked K V) (o : Option Code) → check (kinds bs) c ≡ o → EvenAt bs (checked compares fresh top a c bs o)
      checked_even c None q = shape_even (shape c) (keeps c) q
      checked_even c (Some e) q = refl

      checked_means : (c : Asked K V) (o : Option Code) → Agreeing compares c → check (kinds bs) c ≡ o
          → Means compares a bs (checked compares fresh top a c bs o).books (checked compares fresh top a c bs o).answer c
      checked_means c None g q = act_means c g q
      checked_means c (Some e) g q = checked_some c e q

pub rule_sound : {K V : Type 0} → RuleSound K V
rule_sound compares fresh top a c bs ordered long s = checked_stays compares bs long s ordered fresh top a c (check (kinds compares bs) c) refl

pub rule_means : {K V : Type 0} → RuleMeans K V
rule_means compares fresh top a c bs ordered g long s = checked_means compares bs long s ordered fresh top a c (check (kinds compares bs) c) g refl

pub rule_even : {K V : Type 0} → RuleEven K V
rule_even compares fresh top a c bs ordered long s = checked_even compares bs long s ordered fresh top a c (check (kinds compares bs) c) refl
