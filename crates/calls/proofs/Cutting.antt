-- What a cut makes of a book, and what a lookup and a count answer. Assumes nothing.
use Rattle.std.proofs.Common.{◌≡◌, ◌≢◌, ℕ, ◌+◌, ◌<◌, ◌≤◌, Bool, true, false, cond, List, [], ◌∷◌, ◌++◌, length, nat_lt, None, Ok, Err, All, Option, Ordering, Less, Equal, Greater, refl, ap, subst, sym, arith, ◌∙◌, length-append, append-nil}
use Rattle.std.specs.Ordering.{is_lt, is_gt, is_eq}
use Rattle.std.proofs.lemmas.Bool.{false≢true, cond_both, ltb-true, ltb-false}
use Rattle.std.proofs.lemmas.List.Elements.{All-nil, All-head, All-tail, filter-append}
use Rattle.order.specs.Laws.{Ordered}
use Rattle.node.specs.Shape.{Tree, flat, Formed}
use Rattle.node.specs.Store.{first}
use Rattle.node.proofs.Sorting.{sorted_rises}
use Rattle.map.specs.Lookup.{InOrder, seek, looks, value_of}
use Rattle.map.specs.Least.{first_same, LeastIn}
use Rattle.map.proofs.Finds.{lookup_bound, lookup_alone}
use Rattle.map.proofs.Leasts.{least_stands}
use Rattle.parts.specs.Rules.{left_part, right_part, cuts}
use Rattle.parts.proofs.Mends.{cut_formed, cut_parts, cut_sorted}
use Rattle.parts.proofs.Searches.{cut_bound}
use Rattle.calls.specs.declared.calls.Answer.{Answer}
use Rattle.calls.specs.declared.calls.Answer.TheVariants.{Found, Least as LeastIs, Parted}
use Rattle.books.specs.Books.{Book, bare, planted, walked, idle, entries}
use Rattle.calls.specs.Refusals.{Code}
use Rattle.calls.specs.Asking.{Query}
use Rattle.books.specs.Kinds.{kind_of, is_map, is_bare}
use Rattle.calls.specs.Rules.{Parts, tree_book, lookup_in, least_in, count_in, part_tree, cut_in}
use Rattle.calls.specs.Meaning.{Sound, Agrees, AtOne, same_as, LookupMeans, LeastMeans, CountMeans, CutMeans}
use Rattle.calls.proofs.Agreeing.{downward, finds}
use Rattle.calls.proofs.Placing.{bare_is}
use Rattle.calls.proofs.Keeping.{BothKept, ok_err, err_ok, ok_same}

found_same : {K V : Type 0} (x y : Option V) (m n : ℕ) → ◌≡◌ {A = Answer K V} (Found x m) (Found y n) → (x ≡ y) × (m ≡ n)
found_same x y m n q = (cc, cc)

least_same : {K V : Type 0} (x y : Option (K × V)) → ◌≡◌ {A = Answer K V} (LeastIs x) (LeastIs y) → x ≡ y
least_same x y q = cc

parted_same : {K V : Type 0} (i j k l m n : ℕ) → ◌≡◌ {A = Answer K V} (Parted i j k) (Parted l m n) → (i ≡ l) × (j ≡ m) × (k ≡ n)
parted_same i j k l m n q = (cc, cc, cc)

not_nil : {X : Type 0} (x : X) (xs l : List X) → l ≡ x ∷ xs → l ≡ [] → ⊥
not_nil x xs l p q = omega (arith, ap length p, ap length q)

-- of a bare second book
abbrev pub Halved : {K V : Type 0} → (K → K → Ordering) → Book (K × V) → Parts K V → Type 0
Halved compares b q = BothKept compares b bare q

-- of what is parted by a query, all that is the same as the query stands right
not_eq : (o : Ordering) → is_gt o ≡ true → is_eq o ≡ false
not_eq Less g = refl
not_eq Equal g = absurd (false≢true g)
not_eq Greater g = refl

none_same : {K V : Type 0} (place : Query K) (l : List (K × V)) → All (λ y. is_gt (place (first y)) ≡ true) l → same_as place l ≡ []
none_same place [] g = refl
none_same place (e ∷ es) g =
    ap (λ f. cond f (e ∷ same_as place es) (same_as place es)) (not_eq (place (first e)) (All-head (λ y. is_gt (place (first y)) ≡ true) e es g))
    ∙ none_same place es (All-tail (λ y. is_gt (place (first y)) ≡ true) e es g)

same_right : {K V : Type 0} (place : Query K) (l m es : List (K × V)) → All (λ y. is_gt (place (first y)) ≡ true) l → l ++ m ≡ es → (same_as place l ≡ []) × (same_as place m ≡ same_as place es)
same_right place l m es g q =
    let n = none_same place l g in
    (n, ap (λ x. x ++ same_as place m) (sym n) ∙ sym (filter-append (λ y. is_eq (place (first y))) l m) ∙ ap (same_as place) q)

module _ {K V : Type 0} (compares : K → K → Ordering) where
  -- ---- a count, and a lookup

  pub count_means : (a : ℕ) (b : Book (K × V)) → CountMeans compares a b b (count_in b)
  count_means a b = record { answers = refl; unchanged = refl }

  -- of entries in order no two are the same as a query at one place
  only : Ordered compares → (place : Query K) → AtOne compares place → (l : List (K × V)) → InOrder compares l → (ante post : List (K × V)) (e : K × V) → l ≡ ante ++ e ∷ post → place (first e) ≡ Equal
      → All (λ y. place (first y) ≢ Equal) ante × All (λ y. place (first y) ≢ Equal) post
  only ordered place g l s ante post e q h = lookup_alone {Q = Unit {0}} compares (λ u. place) tt ordered (record { single = λ u. g.single }) ante e post (subst (InOrder compares) q s) h

  pub lookup_means : Ordered compares → (a : ℕ) (place : Query K) → Agrees compares place → (b : Book (K × V)) → is_map (kind_of b) ≡ true → Sound compares b → LookupMeans compares a b b (lookup_in place b) place
  lookup_means ordered a place g bare m s = record {
    answers = (None, 0, refl);
    finds = λ o n r. (None, sym (found_same None o 0 n (ok_same (Found None 0) (Found o n) r)).0, All-nil (λ y. place (first y) ≢ Equal));
    alone = λ i. only ordered place i [] tt;
    bound = λ o n r. omega (arith, (found_same None o 0 n (ok_same (Found None 0) (Found o n) r)).1);
  }
  lookup_means ordered a place g (planted h t) m s =
      let x : Option (K × V) = seek (λ e. place (first e)) h t in
      let l : ℕ = looks (λ e. place (first e)) h t in
      record {
        answers = (value_of x, l, refl);
        finds = λ o n r. (x, sym (found_same (value_of x) o l n (ok_same (Found (value_of x) l) (Found o n) r)).0, finds g h t s.0 s.1);
        alone = λ i. only ordered place i (flat h t) s.1;
        bound = λ o n r. omega (arith, (found_same (value_of x) o l n (ok_same (Found (value_of x) l) (Found o n) r)).1, lookup_bound (λ e. place (first e)) h t s.0);
      }
  lookup_means ordered a place g (walked h t) m s = absurd (false≢true m)
  lookup_means ordered a place g idle m s = absurd (false≢true m)

  least_answer : (a : ℕ) (place : Query K) (b : Book (K × V)) (x : Option (K × V)) → LeastIn (λ y. place (first y)) (entries b) x → LeastMeans compares a b b (Ok (LeastIs x)) place
  least_answer a place b x l = record {
    answers = (x, refl);
    least = λ y r. subst (LeastIn (λ y. place (first y)) (entries b)) (least_same x y (ok_same (LeastIs x) (LeastIs y) r)) l;
  }

  pub least_means : (a : ℕ) (place : Query K) → Agrees compares place → (b : Book (K × V)) → is_map (kind_of b) ≡ true → Sound compares b → LeastMeans compares a b b (least_in place b) place
  least_means a place g bare m s = least_answer a place bare None (All-nil (λ y. place (first y) ≢ Equal))
  least_means a place g (planted h t) m s =
      least_answer a place (planted h t) (first_same (λ e. place (first e)) (flat h t))
      (least_stands {Q = Unit {0}} compares (λ u. place) tt (flat h t) (record { under = λ u. g.under; over = λ u. g.over }) s.1)
  least_means a place g (walked h t) m s = absurd (false≢true m)
  least_means a place g idle m s = absurd (false≢true m)

  -- ---- a cut

  declined_halved : (b : Book (K × V)) (e : Code) → Sound compares b → Halved compares b (Err e, (b, bare))
  declined_halved b e s = record { left = s; right = tt; even = omega arith; refused = λ f r. (refl, refl) }

  granted_halved : (b l r : Book (K × V)) (i j k : ℕ) → Sound compares l → Sound compares r → length (entries l) + length (entries r) ≡ length (entries b) → Halved compares b (Ok (Parted i j k), (l, r))
  granted_halved b l r i j k s u q = record { left = s; right = u; even = omega (arith, q); refused = λ e z. absurd (ok_err (Parted i j k) e z) }

  -- an empty book stays as it is
  empty_means : (a : ℕ) (place : Query K) (b : Book (K × V)) → is_map (kind_of b) ≡ true → entries b ≡ [] → CutMeans compares a b b (Ok (Parted 0 0 0)) bare place
  empty_means a place b m q = record {
    kinds = (m, refl);
    declined = λ l j. absurd (omega (arith, ap length q));
    granted = λ l j. absurd (omega (arith, ap length q));
    empty = λ z. (refl, refl, refl);
    whole = λ l m n r. append-nil (entries b);
    counts = λ l m n r.
        let p = parted_same 0 0 0 l m n (ok_same (Parted 0 0 0) (Parted l m n) r) in
        (omega (arith, p.0, ap length q), omega (arith, p.1), omega (arith, p.2));
    below = λ l m n r. subst (λ y. All (λ y. is_gt (place (first y)) ≡ true) y) (sym q) (All-nil (λ y. is_gt (place (first y)) ≡ true));
    not_below = λ l m n r. All-nil (λ y. is_gt (place (first y)) ≡ false);
    same = λ l m n r. (ap (same_as place) q, sym (ap (same_as place) q));
  }

  module _ (fresh : ℕ → ℕ) (a : ℕ) (place : Query K) (h : ℕ) (t : Tree (K × V)) (w : Formed h t) (s : InOrder compares (flat h t)) where
    abbrev below_query : K × V → Bool
    below_query y = is_gt (place (first y))

    abbrev before_key : K × V → K × V → Bool
    before_key x y = is_lt (compares (first x) (first y))

    abbrev l : ℕ × Tree (K × V)
    l = left_part below_query h t

    abbrev r : ℕ × Tree (K × V)
    r = right_part fresh below_query h t

    abbrev granted : Parts K V
    granted = (Ok (Parted (length (flat l.0 l.1)) (length (flat r.0 r.1)) (cuts (λ y. place (first y)) h t)), (tree_book l, tree_book r))

    abbrev declined : Parts K V
    declined = (Err (6, (h + 1) ∷ a ∷ []), (planted h t, bare))

    together : length (flat l.0 l.1) + length (flat r.0 r.1) ≡ length (flat h t)
    together = sym (length-append (flat l.0 l.1) (flat r.0 r.1)) ∙ ap length (cut_parts fresh below_query h t w).0

    part_halved : (es : List (K × V)) → flat h t ≡ es → Halved compares (planted h t) (part_tree fresh a place h t es)
    part_halved [] q = granted_halved (planted h t) (planted h t) bare 0 0 0 (w, s) tt (omega arith)
    part_halved (e ∷ es) q =
        let f = cut_formed fresh below_query h t w in
        let o = cut_sorted before_key fresh below_query h t w s in
        cond_both {A = Parts K V} (nat_lt a (h + 1)) declined granted (Halved compares (planted h t))
        (λ z. declined_halved (planted h t) (6, (h + 1) ∷ a ∷ []) (w, s))
        (λ z. granted_halved (planted h t) (tree_book l) (tree_book r) (length (flat l.0 l.1)) (length (flat r.0 r.1)) (cuts (λ y. place (first y)) h t) (f.0, o.0) (f.1, o.1) together)

    abbrev Cut : Parts K V → Type 0
    Cut q = CutMeans compares a (planted h t) (q.1).0 q.0 (q.1).1 place

    declined_means : (e : K × V) (es : List (K × V)) → flat h t ≡ e ∷ es → a < h + 1 → Cut declined
    declined_means e es q z = record {
      kinds = (refl, refl);
      declined = λ i j. refl;
      granted = λ i j. absurd (omega arith);
      empty = λ i. absurd (not_nil e es (flat h t) q i);
      whole = λ i j k v. absurd (err_ok (Parted i j k) (6, (h + 1) ∷ a ∷ []) v);
      counts = λ i j k v. absurd (err_ok (Parted i j k) (6, (h + 1) ∷ a ∷ []) v);
      below = λ i j k v. absurd (err_ok (Parted i j k) (6, (h + 1) ∷ a ∷ []) v);
      same = λ i j k v. absurd (err_ok (Parted i j k) (6, (h + 1) ∷ a ∷ []) v);
      not_below = λ i j k v. absurd (err_ok (Parted i j k) (6, (h + 1) ∷ a ∷ []) v);
    }

    granted_means : Agrees compares place → (e : K × V) (es : List (K × V)) → flat h t ≡ e ∷ es → h + 1 ≤ a → Cut granted
    granted_means agrees e es q z =
        let p = cut_parts fresh below_query h t w in
        let sides = p.1 (sorted_rises before_key below_query (downward agrees) (flat h t) s) in
        let made : ℕ = cuts (λ y. place (first y)) h t in
        record {
          kinds = (refl, refl);
          declined = λ i j. absurd (omega arith);
          granted = λ i j. (length (flat l.0 l.1), length (flat r.0 r.1), made, refl);
          empty = λ i. absurd (not_nil e es (flat h t) q i);
          whole = λ i j k v. p.0;
          counts = λ i j k v.
              let c = parted_same (length (flat l.0 l.1)) (length (flat r.0 r.1)) made i j k (ok_same (Parted (length (flat l.0 l.1)) (length (flat r.0 r.1)) made) (Parted i j k) v) in
              (sym c.0, sym c.1, omega (arith, c.2, cut_bound (λ y. place (first y)) h t w));
          below = λ i j k v. sides.0;
          not_below = λ i j k v. sides.1;
          same = λ i j k v. same_right place (flat l.0 l.1) (flat r.0 r.1) (flat h t) sides.0 p.0;
        }

    part_means : Agrees compares place → (es : List (K × V)) → flat h t ≡ es → Cut (part_tree fresh a place h t es)
    part_means agrees [] q = empty_means a place (planted h t) refl q
    part_means agrees (e ∷ es) q =
        cond_both {A = Parts K V} (nat_lt a (h + 1)) declined granted Cut
        (λ z. declined_means e es q (ltb-true a (h + 1) z))
        (λ z. granted_means agrees e es q (ltb-false a (h + 1) z))

  module _ (fresh : ℕ → ℕ) (a : ℕ) (place : Query K) where
    pub cut_halved : (b : Book (K × V)) → Sound compares b → Halved compares b (cut_in fresh a place b)
    cut_halved bare s = granted_halved bare bare bare 0 0 0 tt tt refl
    cut_halved (planted h t) s = part_halved fresh a place h t s.0 s.1 (flat h t) refl
    cut_halved (walked h t) s = declined_halved (walked h t) (4, []) s
    cut_halved idle s = declined_halved idle (4, []) s

    pub cut_means : Agrees compares place → (b : Book (K × V)) → is_map (kind_of b) ≡ true → Sound compares b
        → CutMeans compares a b ((cut_in fresh a place b).1).0 (cut_in fresh a place b).0 ((cut_in fresh a place b).1).1 place
    cut_means agrees bare m s = empty_means a place bare refl refl
    cut_means agrees (planted h t) m s = part_means fresh a place h t s.0 s.1 agrees (flat h t) refl
    cut_means agrees (walked h t) m s = absurd (false≢true m)
    cut_means agrees idle m s = absurd (false≢true m)

    -- of two books, the second bare
    pub cut_both : (b d : Book (K × V)) → is_bare (kind_of d) ≡ true → Sound compares b → BothKept compares b d (cut_in fresh a place b)
    cut_both b d n s = subst (λ x. BothKept compares b x (cut_in fresh a place b)) (sym (bare_is d n)) (cut_halved b s)
