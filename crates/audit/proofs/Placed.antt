-- Books in some places. Assumes nothing.
use Rattle.std.proofs.Common.{◌≡◌, ℕ, ◌+◌, ◌<◌, ◌≤◌, Bool, true, List, [], ◌∷◌, ◌++◌, length, get_or, take, sym, refl, ap, ◌∙◌, subst, ⊎_elim, arith, length-append}
use lib.Seq.{get_or-append_seam}
use Rattle.std.proofs.lemmas.List.{get_or_append_left, take_more, take_all}
use Rattle.std.proofs.lemmas.Bool.{cases_lt}
use Rattle.std.specs.declared.cmp.Ordering.{Ordering}
use Rattle.node.specs.Shape.{total}
use Rattle.node.specs.Store.{Tables, Sized}
use Rattle.node.proofs.Weaves.{total_append, total_around}
use Rattle.books.specs.declared.places.Place.{Place}
use Rattle.books.specs.Books.{Book, bare, book_in, uses, BookAt}
use Rattle.books.specs.Places.{place_in}
use Rattle.audit.specs.declared.marks.Met.{Met}
use Rattle.audit.specs.Audits.{Marked, Unmarked, PlaceSound, PlaceWhole, Held, PlacesSound, PlacesWhole}

module _ {K V : Type 0} (compares : K → K → Ordering) (T : Tables K V) (ps : List Place) where
  abbrev Used : List (Book (K × V)) → ℕ → ℕ
  Used bs x = total (uses x) bs

  -- the first i places hold books
  pub record Found (i : ℕ) (m m' : Met) : Type 0 where
    pub bs : List (Book (K × V))
    pub many : length bs ≡ i
    pub each : (p : ℕ) → p < i → BookAt compares T (place_in ps p) (book_in bs p)
    pub marked : Marked m m' (Used bs)

  pub record Upto (i : ℕ) (m m' : Met) : Type 0 where
    pub found : Found i m m'
    pub whole : (bs : List (Book (K × V))) → Sized T → Held compares T ps bs → Unmarked m (Used bs) → Marked m m' (Used (take i bs))

  pub upto_none : (m : Met) → Upto 0 m m
  upto_none m = record {
    found = record { bs = []; many = refl; each = λ p l. absurd (omega arith); marked = λ x. omega arith };
    whole = λ bs sz h u x. omega arith;
  }

  found_more : (i : ℕ) (m m' m2 : Met) → Found i m m' → PlaceSound compares T (place_in ps i) m' m2 → Found (i + 1) m m2
  found_more i m m' m2 f s =
      let b = s.1.0 in
      record {
        bs = f.bs ++ b ∷ [];
        many = length-append f.bs (b ∷ []) ∙ ap (λ n. n + 1) f.many;
        each = λ p l.
            ⊎_elim
            (λ (q : p < i). subst (λ x. BookAt compares T (place_in ps p) x) (sym (get_or_append_left f.bs (b ∷ []) bare p (omega (arith, f.many)))) (f.each p q))
            (λ (q : i ≤ p).
            let z : p ≡ i = omega arith in
            let y : book_in (f.bs ++ b ∷ []) i ≡ b = ap (λ n. get_or (f.bs ++ b ∷ []) n bare) (sym f.many) ∙ get_or-append_seam f.bs b [] bare in
            subst (λ p. BookAt compares T (place_in ps p) (book_in (f.bs ++ b ∷ []) p)) (sym z) (subst (λ x. BookAt compares T (place_in ps i) x) (sym y) s.1.1))
            (cases_lt p i);
        marked = λ x. omega (arith, f.marked x, s.1.2 x, total_append (uses x) f.bs (b ∷ []));
      }

  -- what a place says, where the books are there
  pub book_at : (i : ℕ) (m m' m2 : Met) (r : Bool) → i < length ps → Upto i m m' → PlaceWhole compares T (place_in ps i) m' m2 r → (bs : List (Book (K × V))) → Sized T → Held compares T ps bs → Unmarked m (Used bs)
      → (r ≡ true) × Marked m m2 (Used (take (i + 1) bs))
  book_at i m m' m2 r l w f bs sz h u =
      let b = book_in bs i in
      let n : i < length bs = omega (arith, h.many) in
      let was = w.whole bs sz h u in
      let more : take (i + 1) bs ≡ take i bs ++ b ∷ [] = take_more bs i bare n in
      let sum : (x : ℕ) → Used (take (i + 1) bs) x ≡ Used (take i bs) x + uses x b = λ x. ap (λ bs. total (uses x) bs) more ∙ total_append (uses x) (take i bs) (b ∷ []) ∙ omega arith in
      let g = f b sz (h.each i l) (λ x. omega (arith, u x, was x, total_around (uses x) bs i bare n)) in
      (g.0, λ x. omega (arith, g.1 x, was x, sum x))

  pub upto_more : (i : ℕ) (m m' m2 : Met) (r : Bool) → i < length ps → Upto i m m' → PlaceSound compares T (place_in ps i) m' m2 → PlaceWhole compares T (place_in ps i) m' m2 r → Upto (i + 1) m m2
  upto_more i m m' m2 r l w s f = record {
    found = found_more i m m' m2 w.found s;
    whole = λ bs sz h u. (book_at i m m' m2 r l w f bs sz h u).1;
  }

  pub upto_sound : (i : ℕ) (m m' : Met) → i ≡ length ps → Upto i m m' → PlacesSound compares T ps m m'
  upto_sound i m m' e w =
      let f = w.found in (
        f.bs,
        record { many = f.many ∙ e; each = λ p l. f.each p (omega arith) },
        f.marked,
      )

  pub upto_whole : (i : ℕ) (m m' : Met) → length ps ≤ i → Upto i m m' → PlacesWhole compares T ps m m' true
  upto_whole i m m' e w = λ bs sz h u.
      let all : take i bs ≡ bs = take_all i bs (omega (arith, h.many)) in
      (refl, subst (λ cs. Marked m m' (Used cs)) all (w.whole bs sz h u))
