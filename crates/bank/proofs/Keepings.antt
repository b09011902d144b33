-- A bank whose books are replaced in one place, or in two, while the others stand beside. Assumes nothing.
use Rattle.std.proofs.Common.{◌≡◌, ◌≢◌, ℕ, ◌+◌, ◌<◌, ◌≤◌, inl, inr, List, length, slice_set, All, refl, sym, ap, ◌∙◌, subst, arith, length-set, get_or-set_same, get_or-set_other, ◌⊎◌}
use Rattle.std.proofs.lemmas.Bool.{cases_eq}
use Rattle.std.proofs.lemmas.List.{get_or_default}
use Rattle.std.specs.declared.cmp.Ordering.{Ordering}
use Rattle.supply.specs.Stocks.{Stock}
use Rattle.node.specs.Balance.{mark, Beside}
use Rattle.node.specs.Shape.{number, total}
use Rattle.node.specs.Store.{Tables}
use Rattle.node.proofs.Balances.{beside_holds, beside_sized}
use Rattle.node.proofs.Numbers.{occurs_root, occurs_below}
use Rattle.walk.proofs.Framing.{shown_frame}
use Rattle.walk.proofs.Windows.{shown_fanned}
use Rattle.books.specs.declared.places.Place.{Place}
use Rattle.books.specs.declared.places.Place.TheVariants as P
use Rattle.books.specs.Books.{Book, bare, planted, walked, idle, uses, book_in, BookAt, at_bare, at_tree, at_walk, at_idle}
use Rattle.calls.specs.Meaning.{Sound}
use Rattle.books.specs.Places.{place_in}
use Rattle.books.specs.Kinds.{kind_of, kind_at}
use Rattle.books.specs.States.{State, Models}
use Rattle.calls.proofs.Placing.{there, elsewhere, replaced, sixteen}
use Rattle.acts.specs.Acts.{Ready, Becomes, BothBecome}

module _ {K V : Type 0} (compares : K → K → Ordering) where
  pub sound_at : (T : Tables K V) (p : Place) (b : Book (K × V)) → BookAt compares T p b → Sound compares b
  sound_at T p b at_bare = tt
  sound_at T p b (at_tree h t a) = (a.formed, a.in_order)
  sound_at T p b (at_walk h t a) = (shown_fanned T _ _ h t a.shown, a.in_order)
  sound_at T p b (at_idle a) = tt

  pub kind_same : (T : Tables K V) (p : Place) (b : Book (K × V)) → BookAt compares T p b → kind_of b ≡ kind_at p
  kind_same T p b at_bare = refl
  kind_same T p b (at_tree h t a) = refl
  kind_same T p b (at_walk h t a) = refl
  kind_same T p b (at_idle a) = refl

  -- a book that stands beside what changes is still there
  module _ (T T' : Tables K V) (S : Stock) (f : ℕ → ℕ) (z : Beside T T' S f) where
    pub book_beside : (p : Place) (b : Book (K × V)) → ((x : ℕ) → f x + uses x b ≤ mark S x) → BookAt compares T p b → BookAt compares T' p b
    book_beside p b o at_bare = at_bare
    book_beside p b o (at_tree h t a) = at_tree _ _ (record {
      root_is = a.root_is;
      holds = beside_holds T T' S f h t z o a.holds;
      formed = a.formed;
      rooted = (z.links (number t) (omega (arith, o (number t), occurs_root h t))).parent_same ∙ a.rooted;
      count_is = a.count_is;
      in_order = a.in_order;
    })
    book_beside p b o (at_walk h t a) = at_walk _ _ (record {
      low = a.low;
      shown = shown_frame T T' _ _ h t z.heads_len (λ x p. z.bodies x (omega (arith, o x))) (λ x p. z.links x (omega (arith, o x, occurs_below x h t))) a.shown;
      rooted = (z.links (number t) (omega (arith, o (number t), occurs_root h t))).parent_same ∙ a.rooted;
      count_is = a.count_is;
      in_order = a.in_order;
    })
    book_beside p b o (at_idle a) = at_idle a

-- ---- sums over the books

module _ {E : Type 0} where
  pub uses_one : (bs : List (Book E)) (p : ℕ) (x : ℕ) → p < length bs → uses x (book_in bs p) ≤ total (uses x) bs
  uses_one bs p x l = omega (arith, replaced (uses x) bs p bare l)

  pub uses_two : (bs : List (Book E)) (p q : ℕ) (x : ℕ) → p < length bs → q < length bs → q ≢ p → uses x (book_in bs p) + uses x (book_in bs q) ≤ total (uses x) bs
  uses_two bs p q x l k n =
      let a = replaced (uses x) bs p bare l in
      let b = uses_one (slice_set bs p bare) q x (subst (λ m. q < m) (sym (size bs p)) k) in
      let c = ap (uses x) (elsewhere bs p q bare n) in
      omega (arith, a, b, c)
    where
      size : (bs : List (Book E)) (p : ℕ) → length (slice_set bs p bare) ≡ length bs
      size bs p = length-set bs p bare

  pub uses_three : (bs : List (Book E)) (p o q : ℕ) (x : ℕ) → p < length bs → o < length bs → q < length bs → o ≢ p → q ≢ p → q ≢ o
      → uses x (book_in bs p) + uses x (book_in bs o) + uses x (book_in bs q) ≤ total (uses x) bs
  uses_three bs p o q x l k j n n' n'' =
      let size : length (slice_set bs p bare) ≡ length bs = length-set bs p bare in
      let a = replaced (uses x) bs p bare l in
      let b = uses_two (slice_set bs p bare) o q x (subst (λ i. o < i) (sym size) k) (subst (λ i. q < i) (sym size) j) n'' in
      let c = ap (uses x) (elsewhere bs p o bare n) in
      let d = ap (uses x) (elsewhere bs p q bare n') in
      omega (arith, a, b, c, d)

-- ---- the whole bank

module _ {K V : Type 0} (compares : K → K → Ordering) (s : State K V) (bs : List (Book (K × V))) (m : Models compares s bs) where
  pub all_sound : All (Sound compares) bs
  all_sound = λ p d l.
      subst (Sound compares) (get_or_default bs p bare d l)
      (sound_at compares s.tables (place_in s.places p) (book_in bs p) (m.held p (subst (λ n. p < n) m.sixteen l)))

  pub ready_at : 0 < s.size → (p : ℕ) → p < 16 → Ready compares s.tables s.stock (place_in s.places p) (book_in bs p)
  ready_at some p l = record {
    at = m.held p l;
    sized = m.sized;
    fits = m.fits some ∙ m.size_is;
    owned = λ x. omega (arith, uses_one bs p x (subst (λ n. p < n) (sym m.sixteen) l), m.numbers x);
  }

  module _ (T' : Tables K V) (S' : Stock) (p : ℕ) (l : p < 16) (len : length s.places ≡ 16) (place : Place) (b' : Book (K × V)) (d : Becomes compares s.tables T' s.stock S' (book_in bs p) place b') where
    pub one_replaced : Models compares (record { tables = T'; size = s.size; places = slice_set s.places p place; stock = S' }) (slice_set bs p b')
    one_replaced = record {
      sized = beside_sized s.tables T' s.stock (λ x. uses x (book_in bs p)) d.beside m.sized;
      size_is = m.size_is ∙ sym d.beside.heads_len;
      fits = λ k. d.balanced.size ∙ m.fits k;
      sixteen = sixteen bs p b' m.sixteen;
      held = λ q k. go q k (cases_eq q p);
      numbers = λ x. omega (arith, replaced (uses x) bs p b' here, m.numbers x, d.balanced.marks x);
    }
      where
        here : p < length bs
        here = subst (λ n. p < n) (sym m.sixteen) l

        go : (q : ℕ) → q < 16 → (q ≡ p) ⊎ (q ≢ p) → BookAt compares T' (place_in (slice_set s.places p place) q) (book_in (slice_set bs p b') q)
        go q k (inl e) = subst (λ r. BookAt compares T' (place_in (slice_set s.places p place) r) (book_in (slice_set bs p b') r)) (sym e)
            (subst (λ c. BookAt compares T' c (book_in (slice_set bs p b') p)) (sym (get_or-set_same s.places p place P.Bare (subst (λ n. p < n) (sym len) l)))
            (subst (λ c. BookAt compares T' place c) (sym (there bs p b' here)) d.at))
        go q k (inr n) =
            subst (λ c. BookAt compares T' c (book_in (slice_set bs p b') q)) (sym (get_or-set_other s.places p q place P.Bare n))
            (subst (λ c. BookAt compares T' (place_in s.places q) c) (sym (elsewhere bs p q b' n))
            (book_beside compares s.tables T' s.stock (λ x. uses x (book_in bs p)) d.beside (place_in s.places q) (book_in bs q)
            (λ x. omega (arith, uses_two bs p q x here (subst (λ n. q < n) (sym m.sixteen) k) n, m.numbers x)) (m.held q k)))

  -- two places become two others
  module _ (T' : Tables K V) (S' : Stock) (p o : ℕ) (l : p < 16) (k : o < 16) (n : p ≢ o) (len : length s.places ≡ 16) (x y : Place) (b b' : Book (K × V))
      (d : BothBecome compares s.tables T' s.stock S' (book_in bs p) (book_in bs o) x y b b') where
    pub both_replaced : Models compares (record { tables = T'; size = s.size; places = slice_set (slice_set s.places p x) o y; stock = S' }) (slice_set (slice_set bs p b) o b')
    both_replaced = record {
      sized = beside_sized s.tables T' s.stock (λ z. uses z (book_in bs p) + uses z (book_in bs o)) d.beside m.sized;
      size_is = m.size_is ∙ sym d.beside.heads_len;
      fits = λ z. d.balanced.size ∙ m.fits z;
      sixteen = sixteen (slice_set bs p b) o b' (sixteen bs p b m.sixteen);
      held = λ q z. go q z (cases_eq q o) (cases_eq q p);
      numbers = λ z. omega (arith, replaced (uses z) bs p b here, replaced (uses z) (slice_set bs p b) o b' there_too, m.numbers z, d.balanced.marks z, ap (uses z) (elsewhere bs p o b (λ e. n (sym e))));
    }
      where
        here : p < length bs
        here = subst (λ i. p < i) (sym m.sixteen) l

        there_too : o < length (slice_set bs p b)
        there_too = subst (λ i. o < i) (sym (sixteen bs p b m.sixteen)) k

        long : length (slice_set s.places p x) ≡ 16
        long = length-set s.places p x ∙ len

        at : ℕ → Type 0
        at q = BookAt compares T' (place_in (slice_set (slice_set s.places p x) o y) q) (book_in (slice_set (slice_set bs p b) o b') q)

        apart : (q : ℕ) → q ≢ o → BookAt compares T' (place_in (slice_set s.places p x) q) (book_in (slice_set bs p b) q) → at q
        apart q e a =
            subst (λ c. BookAt compares T' c (book_in (slice_set (slice_set bs p b) o b') q)) (sym (get_or-set_other (slice_set s.places p x) o q y P.Bare e))
            (subst (λ c. BookAt compares T' (place_in (slice_set s.places p x) q) c) (sym (elsewhere (slice_set bs p b) o q b' e)) a)

        go : (q : ℕ) → q < 16 → (q ≡ o) ⊎ (q ≢ o) → (q ≡ p) ⊎ (q ≢ p) → at q
        go q z (inl e) w = subst at (sym e)
            (subst (λ c. BookAt compares T' c (book_in (slice_set (slice_set bs p b) o b') o)) (sym (get_or-set_same (slice_set s.places p x) o y P.Bare (subst (λ i. o < i) (sym long) k)))
            (subst (λ c. BookAt compares T' y c) (sym (there (slice_set bs p b) o b' there_too)) d.other))
        go q z (inr e) (inl e') = subst at (sym e') (apart p n
            (subst (λ c. BookAt compares T' c (book_in (slice_set bs p b) p)) (sym (get_or-set_same s.places p x P.Bare (subst (λ i. p < i) (sym len) l)))
            (subst (λ c. BookAt compares T' x c) (sym (there bs p b here)) d.at)))
        go q z (inr e) (inr e') = apart q e
            (subst (λ c. BookAt compares T' c (book_in (slice_set bs p b) q)) (sym (get_or-set_other s.places p q x P.Bare e'))
            (subst (λ c. BookAt compares T' (place_in s.places q) c) (sym (elsewhere bs p q b e'))
            (book_beside compares s.tables T' s.stock (λ i. uses i (book_in bs p) + uses i (book_in bs o)) d.beside (place_in s.places q) (book_in bs q)
            (λ i. omega (arith, uses_three bs p o q i here (subst (λ j. o < j) (sym m.sixteen) k) (subst (λ j. q < j) (sym m.sixteen) z) (λ u. n (sym u)) e' e, m.numbers i)) (m.held q z))))
